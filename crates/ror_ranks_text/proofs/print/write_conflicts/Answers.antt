use Rattle.std.proofs.Common.{◌++◌, refl, subst, sym}
use Rattle.std.specs.List.{flat_map}
use Rattle.ror_text.proofs.Everywhere.{all-rest}
use Rattle.ror_proof.proofs.PrintLemmas.{one_more, all_printed, front_then}
use Rattle.ror_ranks_text.specs.Text.{conflict_text, IsPrintableConflict}
use Rattle.ror_ranks_text.proofs.print.write_conflicts.Goals as goal

pub write_conflict-requires : goal.write_conflict-requires
write_conflict-requires c =
    let P = IsPrintableConflict c.args.table.now in
    let rest = all-rest P c.args.conflicts.now c.conflicts.conflict-index c.conflict-item.result c.conflicts-test.true c.conflicts.invariant.printable in
    subst P (sym c.conflict-item.is) rest.0

pub conflicts-preserved : goal.conflicts-preserved
conflicts-preserved c =
    let t = c.args.table.now in
    let xs = c.args.conflicts.now in
    let i = c.conflicts.conflict-index in
    let x = c.conflict-item.result in
    let text = c.conflicts.text.items in
    record {
      printed = one_more (flat_map (conflict_text t)) (conflict_text t) (λ y ys. refl) xs i x text c.write_conflict.new.text.items (c.args.text.now.items ++ flat_map (conflict_text t) xs) c.conflicts-test.true c.conflict-item.is c.in_ok-write_conflict.ensures.ok c.conflicts.invariant.printed;
      front = front_then c.args.text.now.items text c.write_conflict.new.text.items c.conflicts.invariant.front c.in_ok-write_conflict.ensures.front;
      printable = (all-rest (IsPrintableConflict t) xs i x c.conflicts-test.true c.conflicts.invariant.printable).1;
    }

pub returns-clause-ok : goal.returns-clause-ok
returns-clause-ok c =
    let t = c.args.table.now in
    all_printed (flat_map (conflict_text t)) refl c.args.conflicts.now c.conflicts.conflict-index c.conflicts.text.items (c.args.text.now.items ++ flat_map (conflict_text t) c.args.conflicts.now) c.conflicts-test.false c.conflicts.invariant.printed
