-- The core of an answer, and what is found of it, over all value functions.
use Rattle.std.specs.Prelude.{◌≡◌, ◌↔◌, ℕ, true, false, nat_eq, List, length, map, slice_get, Option, Some}
use Rattle.std.specs.List.{AllByRecursion}
use Rattle.std.specs.List.Sorted.{IsStrictlyIncreasing}
use Rattle.std.specs.Set.{is_member}
use Rattle.ror_statement.specs.declared.statement.Numbered.{Numbered}
use Rattle.ror_statement.specs.declared.question.Question.{Question}
use Rattle.ror_statement.specs.declared.question.Conclusion.{Conclusion}
use Rattle.ror_statement.specs.Statements.{numbers_in, statements_in}
use Rattle.ror_table.specs.Table.{DecisionTable}
use Rattle.ror_value.specs.Meaning.{Answers}
use Rattle.ror_proof.specs.declared.answer.Answer.{Answer}
use Rattle.ror_check.specs.Repair.{AreNumbersIn}
use Rattle.ror_report.specs.Text.{answers_of}
use Rattle.ror_bench.specs.declared.kept.KeptLine.{KeptLine}
use Rattle.ror_reason.specs.declared.reducts.Reason.{Reason}
use Rattle.ror_reason.specs.Reducts.{stated, RestsOnPart, IsReduct, Concludes}
use Rattle.ror_show_ground.specs.Grounds.{Ground, IsJudged}
use Rattle.ror_show_find_reasons.specs.declared.lines.LineFound.{LineFound}
use Rattle.ror_show_find_reasons.specs.declared.lines.Meant.{Meant}
use Rattle.ror_show_find_reasons.specs.declared.lines.Told.{Told}
use Rattle.ror_show_find_reasons.specs.Lines.{AreLinesFound}
use Rattle.ror_show_find_core.specs.declared.outcomes.Outcome.{Outcome}
use Rattle.ror_show_find_core.specs.declared.outcomes.Outcome.TheVariants as outcomes
use Rattle.ror_show_find_core.specs.declared.outcomes.CoreFound.{CoreFound}
use Rattle.ror_show_find_core.specs.declared.outcomes.LineCores.{LineCores}
use Rattle.ror_show_find_core.specs.Withdrawals.{without_statement, FallsWithout, IsTooWide}
use Rattle.ror_show_find_core.specs.Cores.{named_by, AreCoresFound}

-- ---- the core

-- the statement is in each reduct of the answer
abbrev pub IsInEachReduct : DecisionTable → List Numbered → Question → Conclusion → ℕ → Type 0
IsInEachReduct t list q c n = (ns : List ℕ) → IsReduct t list q c ns → is_member nat_eq ns n ≡ true

-- The core of an answer that statements carry, the statements in each of its reducts, are those without which the answer falls.
abbrev pub CoreIsInEachReduct : Type 0
CoreIsInEachReduct = (t : DecisionTable) (list : List Numbered) (q : Question) (c : Conclusion) (n : ℕ)
    → IsStrictlyIncreasing (numbers_in list) → RestsOnPart q c → Answers t (statements_in list) q c
    → FallsWithout t list q c n ↔ IsInEachReduct t list q c n

-- Where the answer stays without a statement, a reduct of it over what is left is one over all that stand, and lacks the statement.
abbrev pub StaysHasReduct : Type 0
StaysHasReduct = (t : DecisionTable) (list : List Numbered) (q : Question) (c : Conclusion) (n : ℕ) (ns : List ℕ)
    → Answers t (statements_in list) q c → IsReduct t (without_statement n list) q c ns
    → IsReduct t list q c ns × (is_member nat_eq ns n ≡ false)

-- ---- what is found

-- the answer stays without the statement, carried by this part of what is left
pub record StaysBy (t : DecisionTable) (list : List Numbered) (q : Question) (c : Conclusion) (n : ℕ) (ns : List ℕ) : Type 0 where
  pub stays : Answers t (statements_in (without_statement n list)) q c
  pub numbers : AreNumbersIn list ns
  pub lacks : is_member nat_eq ns n ≡ false
  pub carries : Answers t (stated ns list) q c

-- It stays, and by a reduct of the answer over all that stand; it stays by a part, of which it isn't known whether it is one; it goes, and
-- the statement is in the core; or a number is too wide.
abbrev pub MeansOutcome : DecisionTable → List Numbered → Question → Conclusion → ℕ → Outcome → Type 0
MeansOutcome t list q c n (outcomes.Stays ns) = StaysBy t list q c n ns × IsReduct t list q c ns
MeansOutcome t list q c n (outcomes.StaysWide ns) = StaysBy t list q c n ns
MeansOutcome t list q c n outcomes.Goes = FallsWithout t list q c n × IsInEachReduct t list q c n
MeansOutcome t list q c n outcomes.Unknown = IsTooWide t (without_statement n list) q

-- beside an answer that is told stands one outcome for each statement that its reason names, and each means that
pub record MeansCore (t : DecisionTable) (list : List Numbered) (x : Answer) (told : Option Reason) (f : CoreFound) : Type 0 where
  pub numbers : map (λ w. w.number) f.withdrawals ≡ named_by told
  pub each : (c : Conclusion) → Concludes c x.verdict
      → AllByRecursion (λ w. MeansOutcome t list x.question c w.number w.outcome) f.withdrawals

-- Whatever is found of a judged ground means that, and is found beside each answer that is told.
pub record CoresAreMeant : Type 0 where
  pub each : (m : Meant) (g : Ground) (fs : List LineFound) (cs : List LineCores) (i k : ℕ) (line : LineFound) (cores : LineCores)
      (told : Told) (f : CoreFound) (x : KeptLine) (list : List Numbered) (answer : Answer) → IsJudged g → AreLinesFound m g fs
      → AreCoresFound g fs cs → slice_get fs i ≡ Some line → slice_get cs i ≡ Some cores → slice_get line.told k ≡ Some told
      → slice_get cores.cores k ≡ Some f → slice_get g.kept line.place ≡ Some x → x.standing ≡ Some list
      → slice_get (answers_of x.block.body) told.answer ≡ Some answer → MeansCore g.table list answer told.reason f
  pub lines : (g : Ground) (fs : List LineFound) (cs : List LineCores) → AreCoresFound g fs cs → length cs ≡ length fs
  pub all : (m : Meant) (g : Ground) (fs : List LineFound) (cs : List LineCores) (i : ℕ) (line : LineFound) (cores : LineCores)
      → AreLinesFound m g fs → AreCoresFound g fs cs → slice_get fs i ≡ Some line → slice_get cs i ≡ Some cores
      → length cores.cores ≡ length line.told
