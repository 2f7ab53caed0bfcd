use Rattle.std.proofs.Common.{ℕ, List, length, sym, subst, ◌∙◌}
use Rattle.std.specs.List.{AllByRecursion}
use Rattle.std.proofs.lemmas.Result.{IfOk-weaker}
use Rattle.ror_show_find_classes.specs.ClassChanges.{AreWithin, AreClassChanges}
use Rattle.ror_show_find_classes.proofs.ClassChangeLemmas.{turns_within}
use Rattle.ror_show_find_classes.proofs.changes.find_class_changes.Goals as goal

pub changes_at-requires : goal.changes_at-requires
changes_at-requires c =
    let times = c.args.times.now in
    subst (AllByRecursion (AreWithin (length times))) (sym (c.as_slice.ensures.value ∙ c.in_ok-turns.ensures)) (turns_within times)

pub returns : goal.returns
returns c =
    IfOk-weaker c.changes_at.result _ _
    (λ found are. subst (λ (turns : List (ℕ × ℕ)). AreClassChanges c.args.times.now turns found) (c.as_slice.ensures.value ∙ c.in_ok-turns.ensures) are)
    c.changes_at.ensures
