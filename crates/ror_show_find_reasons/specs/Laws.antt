-- What holds of what is found, for all tables, statements and answers.
use Rattle.std.specs.Prelude.{◌≡◌, ◌≢◌, ◌⊎◌, ℕ, true, List, [], Contains, Some, None, slice_get}
use Rattle.std.specs.List.{AllByRecursion}
use Rattle.ror_statement.specs.declared.statement.Numbered.{Numbered}
use Rattle.ror_statement.specs.declared.question.Conclusion.TheVariants.{Contradiction}
use Rattle.ror_statement.specs.declared.question.Question.TheVariants.{Consistent}
use Rattle.ror_statement.specs.Statements.{statements_in}
use Rattle.ror_table.specs.Table.{DecisionTable}
use Rattle.ror_value.specs.Over.{IsLawfulIn}
use Rattle.ror_proof.specs.declared.answer.Answer.{Answer}
use Rattle.ror_check.specs.Repair.{IsRepair, is_among}
use Rattle.ror_show_ground.specs.Sound.{IsSoundAnswer}
use Rattle.ror_show_find_relation.specs.declared.page.RelationPage.{RelationPage}
use Rattle.ror_show_find_relation.specs.Pages.{IsRelationPage, known}
use Rattle.ror_reason.specs.declared.reducts.Reason.TheVariants as reasons
use Rattle.ror_reason.specs.declared.reducts.Reduct.{Reduct}
use Rattle.ror_reason.specs.Reducts.{IsReduct}
use Rattle.ror_show_find_classes.specs.declared.sign.Sign.TheVariants as signs
use Rattle.ror_show_find_classes.specs.Signs.{alternative_of, sign_of_class}
use Rattle.ror_show_find_relation.specs.Brought.{brought}
use Rattle.ror_show_find_reasons.specs.declared.pairs.CarriedPair.{CarriedPair}
use Rattle.ror_show_find_reasons.specs.declared.bounds.Side.{Side}
use Rattle.ror_show_find_reasons.specs.declared.bounds.Bound.{Bound}
use Rattle.ror_show_find_reasons.specs.Pairs.{IsCarriedPair, MeansCarried, IsBetterTold}
use Rattle.ror_show_find_reasons.specs.Bounds.{end_of, IsNextTo, IsBound, MeansBound}
use Rattle.ror_show_find_reasons.specs.Lines.{clash_list, IsConflict}

-- What is found with an arrow on the page of a relation carries it: some function agrees with the statements that it names, and every one
-- that does has the first alternative at least as good as the second; of those that agree with all of them but one, not every one has; or of some
-- of them that isn't known. There is a reason for each arrow. So it is with that the first is always better, where that is said.
abbrev pub ArrowsAreCarried : Type 0
ArrowsAreCarried = (t : DecisionTable) (list : List Numbered) (xs : List Answer) (page : RelationPage) (arrow : ℕ × ℕ)
    (f : CarriedPair) → IsRelationPage t xs page → Contains {X = ℕ × ℕ} page.arrows arrow
    → IsCarriedPair t list xs arrow f → MeansCarried t list f

-- so it is of a pair that a change brought
abbrev pub BroughtIsCarried : Type 0
BroughtIsCarried = (t : DecisionTable) (list : List Numbered) (xs ys : List Answer) (before now : RelationPage) (pair : ℕ × ℕ)
    (f : CarriedPair) → IsRelationPage t xs before → IsRelationPage t ys now
    → Contains {X = ℕ × ℕ} (brought (known before.rows) (known now.rows)) pair
    → IsCarriedPair t list ys pair f → MeansCarried t list f

-- Where the cell of a pair has the first always better, there is a reason why.
abbrev pub EachBetterIsTold : Type 0
EachBetterIsTold = (t : DecisionTable) (list : List Numbered) (xs : List Answer) (page : RelationPage) (pair : ℕ × ℕ)
    (f : CarriedPair) → IsRelationPage t xs page → IsCarriedPair t list xs pair f → IsBetterTold page.rows f

-- A bound that is found means what it says, and one is found wherever the class beyond the end has the sign of one that is excluded.
pub record BoundsAreSettled : Type 0 where
  pub found : (side : Side) (t : DecisionTable) (list : List Numbered) (xs : List Answer) (f : Bound)
      → IsLawfulIn t (statements_in list) → AllByRecursion (IsSoundAnswer t (statements_in list)) xs
      → IsBound side t list xs (Some f) → MeansBound side t list (alternative_of xs) f
  pub each : (side : Side) (t : DecisionTable) (list : List Numbered) (xs : List Answer) (h : ℕ) → end_of side xs t.classes ≢ 0
      → IsNextTo side (end_of side xs t.classes) h → sign_of_class xs h ≡ signs.Impossible
      → IsBound side t list xs None → ⊥

-- What a repair dropped is in each conflict of it with what was kept before it; a conflict of no statements is that of a table without value
-- functions.
abbrev pub DroppedAreInConflict : Type 0
DroppedAreInConflict = (t : DecisionTable) (list : List Numbered) (dropped : List ℕ) (k : ℕ) (x : Numbered) (found : Reduct)
    → IsRepair t list dropped → slice_get list k ≡ Some x → is_among dropped x ≡ true
    → IsConflict t (clash_list dropped list k x) (reasons.Carried found)
    → IsReduct t (clash_list dropped list k x) Consistent Contradiction found.numbers
    × ((is_among found.numbers x ≡ true) ⊎ (found.numbers ≡ []))
