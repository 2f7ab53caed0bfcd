use Rattle.std.proofs.Common.{◌++◌, refl}
use Rattle.std.specs.List.{flat_map}
use Rattle.ror_proof.specs.Text.{dropped_text}
use Rattle.ror_proof.proofs.PrintLemmas.{one_more, all_printed, front_then}
use Rattle.ror_proof.proofs.print.write_dropped_lines.Goals as goal

pub dropped-preserved : goal.dropped-preserved
dropped-preserved c =
    let whole = c.args.text.now.items ++ flat_map dropped_text c.args.dropped.now in
    record {
      printed = one_more (flat_map dropped_text) dropped_text (λ x xs. refl) c.args.dropped.now c.dropped.statement-index c.statement-item.result c.dropped.text.items c.write_dropped_line.new.text.items whole c.dropped-test.true c.statement-item.is c.in_ok-write_dropped_line.ensures.ok c.dropped.invariant.printed;
      front = front_then c.args.text.now.items c.dropped.text.items c.write_dropped_line.new.text.items c.dropped.invariant.front c.in_ok-write_dropped_line.ensures.front;
    }

pub returns-clause-ok : goal.returns-clause-ok
returns-clause-ok c = all_printed (flat_map dropped_text) refl c.args.dropped.now c.dropped.statement-index c.dropped.text.items (c.args.text.now.items ++ flat_map dropped_text c.args.dropped.now) c.dropped-test.false c.dropped.invariant.printed
