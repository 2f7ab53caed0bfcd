use Rattle.std.proofs.Common.{◌++◌, refl}
use Rattle.std.specs.List.{flat_map}
use Rattle.ror_proof.specs.Text.{part_text}
use Rattle.ror_proof.proofs.PrintLemmas.{one_more, all_printed, front_then}
use Rattle.ror_proof.proofs.print.write_parts.Goals as goal

pub parts-preserved : goal.parts-preserved
parts-preserved c =
    record {
      printed = one_more (flat_map part_text) (part_text) (λ x xs. refl) c.args.parts.now c.parts.part-index c.part-item.result c.parts.text.items c.write_part.new.text.items (c.args.text.now.items ++ (flat_map part_text) c.args.parts.now) c.parts-test.true c.part-item.is c.in_ok-write_part.ensures.ok c.parts.invariant.printed;
      front = front_then c.args.text.now.items c.parts.text.items c.write_part.new.text.items c.parts.invariant.front c.in_ok-write_part.ensures.front;
    }

pub returns-clause-ok : goal.returns-clause-ok
returns-clause-ok c = all_printed (flat_map part_text) refl c.args.parts.now c.parts.part-index c.parts.text.items (c.args.text.now.items ++ (flat_map part_text) c.args.parts.now) c.parts-test.false c.parts.invariant.printed
