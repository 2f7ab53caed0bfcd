-- What a line's questions come to over another list, against its own answers.
use Rattle.std.specs.Prelude.{◌≡◌, List, length, map}
use Rattle.std.specs.List.{AllZip}
use Rattle.ror_statement.specs.declared.statement.Statement.{Statement}
use Rattle.ror_table.specs.Table.{DecisionTable}
use Rattle.ror_proof.specs.declared.answer.Answer.{Answer}
use Rattle.ror_pivot.specs.declared.note.Bits.TheVariants.{B127}
use Rattle.ror_pivot.specs.Answers.{most_of}
use Rattle.ror_given.specs.Answers.{IsGiven}
use Rattle.ror_show_find_relation.specs.Cells.{cell_rows}
use Rattle.ror_show_find_whatif.specs.declared.outcome.Asks.{Asks}
use Rattle.ror_show_find_whatif.specs.declared.outcome.Asks.TheVariants.{Relation, Classes}
use Rattle.ror_show_find_whatif.specs.declared.outcome.Effect.{Effect}
use Rattle.ror_show_find_whatif.specs.declared.outcome.Effect.TheVariants.{OfPairs, OfClasses}
use Rattle.ror_show_find_whatif.specs.declared.outcome.Outcome.{Outcome}
use Rattle.ror_show_find_whatif.specs.Agreement.{agreement_by}
use Rattle.ror_show_find_whatif.specs.ClassShifts.{IsClassEffect}
use Rattle.ror_show_find_whatif.specs.Shifts.{IsPairEffect}

-- to each of the same questions an answer over the list, as the greatest width gives it: with its proof, or too wide
abbrev pub AreAnswersOver : DecisionTable → List Statement → List Answer → List Answer → Type 0
AreAnswersOver t list xs ys = AllZip (IsGiven (most_of B127) t list) (map (λ x. x.question) xs) ys

-- what changes from the first answers to the second
abbrev pub IsEffect : Asks → DecisionTable → List Answer → List Answer → Effect → Type 0
IsEffect Relation t xs ys (OfPairs f) = IsPairEffect (cell_rows (length t.alternatives) xs) (cell_rows (length t.alternatives) ys) f
IsEffect Classes t xs ys (OfClasses f) = IsClassEffect t.classes xs ys f
IsEffect _ t xs ys _ = ⊥

pub record IsOutcome (t : DecisionTable) (asks : Asks) (xs : List Answer) (list : List Statement) (f : Outcome) : Type 0 where
  pub answers : List Answer
  pub are : AreAnswersOver t list xs answers
  pub agreement : f.agreement ≡ agreement_by answers
  pub effect : IsEffect asks t xs answers f.effect
