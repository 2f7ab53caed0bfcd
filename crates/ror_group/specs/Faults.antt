-- Each test of the answers and the words of a pair that may fail, and their order.
use Rattle.std.specs.Prelude.{◌≡◌, ◌≢◌, ℕ, ◌+◌, ◌*◌, ◌<◌, false, List, length, slice_get, Some}
use Rattle.ror_text.specs.FirstFault.{IsFirst, IsEarlier}
use Rattle.ror_statement.specs.declared.statement.Statement.{Statement}
use Rattle.ror_table.specs.Table.{DecisionTable}
use Rattle.ror_proof.specs.declared.answer.Answer.{Answer}
use Rattle.ror_check.specs.declared.fault.CheckFault.{CheckFault}
use Rattle.ror_check.specs.declared.fault.CheckFault.TheVariants as checks
use Rattle.ror_check.specs.Proof.{is_wide}
use Rattle.ror_check.specs.Faults.{FailsAnswer, IsEarlierFault}
use Rattle.ror_group.specs.declared.fault.GroupFault.{GroupFault}
use Rattle.ror_group.specs.declared.fault.GroupFault.TheVariants as faults
use Rattle.ror_group.specs.declared.quartet.Quartet.{Quartet}
use Rattle.ror_group.specs.Combining.{Asked, asked_on, combined}
use Rattle.ror_group.specs.Proof.{IsWideOrProvedFor}

-- what each test finds at fault in an answer; of one that is too wide the question alone is tested
abbrev pub FailsUnlessWide : DecisionTable → Asked → Answer → CheckFault → Type 0
FailsUnlessWide t asked x checks.WrongQuestion = x.question ≢ asked.question
FailsUnlessWide t asked x fault =
    (is_wide x.verdict ≡ false) × FailsAnswer t asked.list asked.question x fault

-- the answer at a place, counted from 1, has this fault first
pub record FailsAnswerAt (t : DecisionTable) (all : List Asked) (xs : List Answer) (k : ℕ)
    (fault : CheckFault) : Type 0 where
  pub asked : Asked
  pub answer : Answer
  pub before : ℕ
  pub counted : k ≡ before + 1
  pub asked_there : slice_get all before ≡ Some asked
  pub there : slice_get xs before ≡ Some answer
  pub first : IsFirst (FailsUnlessWide t asked answer) IsEarlierFault fault

-- what each test finds at fault in the answers and the words of a pair
abbrev pub FailsPair : DecisionTable → List (List Statement) → ℕ → ℕ → List Answer → Quartet
    → GroupFault → Type 0
FailsPair t lists a b xs q faults.Count = length xs ≢ 2 * length lists
FailsPair t lists a b xs q (faults.Answer k fault) = FailsAnswerAt t (asked_on a b lists) xs k fault
FailsPair t lists a b xs q faults.WrongQuartet = q ≢ combined xs
FailsPair t lists a b xs q faults.Memory = ⊥

abbrev pub pair_stage : GroupFault → ℕ
pair_stage faults.Count = 0
pair_stage (faults.Answer k fault) = 1
pair_stage _ = 2

abbrev pub pair_place : GroupFault → ℕ
pair_place (faults.Answer k fault) = k
pair_place _ = 0

abbrev pub IsEarlierPairFault : GroupFault → GroupFault → Type 0
IsEarlierPairFault = IsEarlier pair_stage pair_place

-- ---- the answers alone

-- each answer before the place is wide or has its proof
abbrev pub AreProvedBefore : DecisionTable → List Asked → List Answer → ℕ → Type 0
AreProvedBefore t all xs n = (j : ℕ) (asked : Asked) (x : Answer) → j < n
    → slice_get all j ≡ Some asked → slice_get xs j ≡ Some x → IsWideOrProvedFor t asked x

-- an answer is refused, and those before it were not; or memory ran out
abbrev pub RefusesAnswers : DecisionTable → List Asked → List Answer → GroupFault → Type 0
RefusesAnswers t all xs (faults.Answer k fault) = FailsAnswerAt t all xs k fault
    × ((before : ℕ) → k ≡ before + 1 → AreProvedBefore t all xs before)
RefusesAnswers t all xs faults.Memory = Unit {0}
RefusesAnswers t all xs _ = ⊥

-- the fault of answers of which the one at a place is refused
abbrev pub refused_at : ℕ → CheckFault → GroupFault
refused_at k checks.Memory = faults.Memory
refused_at k fault = faults.Answer k fault
