use Rattle.std.proofs.Common.{◌++◌, refl, subst, sym}
use Rattle.std.specs.List.{flat_map}
use Rattle.ror_text.proofs.Everywhere.{all-rest}
use Rattle.ror_proof.proofs.PrintLemmas.{one_more, all_printed, front_then}
use Rattle.ror_ranks_text.specs.Text.{extreme_text, IsPrintableExtreme}
use Rattle.ror_ranks_text.proofs.print.write_extremes.Goals as goal

pub write_extreme-requires : goal.write_extreme-requires
write_extreme-requires c =
    let P = IsPrintableExtreme c.args.table.now in
    let rest = all-rest P c.args.extremes.now c.extremes.extreme-index c.extreme-item.result c.extremes-test.true c.extremes.invariant.printable in
    record { printable = subst P (sym c.extreme-item.is) rest.0 }

pub extremes-preserved : goal.extremes-preserved
extremes-preserved c =
    let t = c.args.table.now in
    let xs = c.args.extremes.now in
    let i = c.extremes.extreme-index in
    let x = c.extreme-item.result in
    let text = c.extremes.text.items in
    record {
      printed = one_more (flat_map (extreme_text t)) (extreme_text t) (λ y ys. refl) xs i x text c.write_extreme.new.text.items (c.args.text.now.items ++ flat_map (extreme_text t) xs) c.extremes-test.true c.extreme-item.is c.in_ok-write_extreme.ensures.ok c.extremes.invariant.printed;
      front = front_then c.args.text.now.items text c.write_extreme.new.text.items c.extremes.invariant.front c.in_ok-write_extreme.ensures.front;
      printable = (all-rest (IsPrintableExtreme t) xs i x c.extremes-test.true c.extremes.invariant.printable).1;
    }

pub returns-clause-ok : goal.returns-clause-ok
returns-clause-ok c =
    let t = c.args.table.now in
    all_printed (flat_map (extreme_text t)) refl c.args.extremes.now c.extremes.extreme-index c.extremes.text.items (c.args.text.now.items ++ flat_map (extreme_text t) c.args.extremes.now) c.extremes-test.false c.extremes.invariant.printed
