-- One time more.
use Rattle.std.proofs.Common.{◌≡◌, ◌++◌, ◌∙◌, List, get_or, ap, sym, rules}
use Rattle.ror_show_find_classes.specs.declared.value.ClassTime.{ClassTime}
use Rattle.ror_show_find_classes.specs.Values.{time_at}
use Rattle.ror_show_kit.proofs.Pieces.{of_elements}
use Rattle.ror_show_find_classes.proofs.value.times_at.Goals as goal

pub starts-preserved : goal.starts-preserved
starts-preserved c =
    let f = time_at c.args.ground.now.table.now c.args.ground.now.session.now c.args.ground.now.kept.now in
    let pushed : c.push_time.new.made.items ≡ c.starts.made.items ++ time_at c.args.ground.now.table.now c.args.ground.now.session.now c.args.ground.now.kept.now (get_or c.args.starts.now c.starts.place-index 0) = search rules in
    pushed ∙ ap (λ (xs : List ClassTime). xs ++ f (get_or c.args.starts.now c.starts.place-index 0)) c.starts.invariant ∙ sym (of_elements f c.args.starts.now c.starts.place-index 0 c.starts-test.true)
