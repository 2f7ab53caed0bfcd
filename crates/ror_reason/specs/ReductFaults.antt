-- Each test of a reduct's proof that may fail, and their order.
use Rattle.std.specs.Prelude.{◌≡◌, ◌≢◌, ℕ, ◌+◌, ◌*◌, List, length, slice_get, Some}
use Rattle.ror_text.specs.FirstFault.{IsFirst, IsEarlier}
use Rattle.ror_statement.specs.declared.statement.Numbered.{Numbered}
use Rattle.ror_statement.specs.declared.question.Question.{Question}
use Rattle.ror_statement.specs.declared.question.Conclusion.{Conclusion}
use Rattle.ror_table.specs.Table.{DecisionTable}
use Rattle.ror_proof.specs.declared.answer.Answer.{Answer}
use Rattle.ror_check.specs.declared.fault.CheckFault.{CheckFault}
use Rattle.ror_check.specs.Faults.{FailsAnswer, IsEarlierFault}
use Rattle.ror_check.specs.Repair.{AreNumbersIn}
use Rattle.ror_reason.specs.declared.fault.ReductFault.{ReductFault}
use Rattle.ror_reason.specs.declared.fault.ReductFault.TheVariants as faults
use Rattle.ror_reason.specs.declared.reducts.Reduct.{Reduct}
use Rattle.ror_reason.specs.Reducts.{stated, without, RestsOnPart, Concludes}

-- the answer at a place, counted from 1, stands beside a number, and concludes the same
pub record IsSameAt (c : Conclusion) (others : List Answer) (k : ℕ) : Type 0 where
  pub other : Answer
  pub before : ℕ
  pub counted : k ≡ before + 1
  pub there : slice_get others before ≡ Some other
  pub same : Concludes c other.verdict

-- the answer at a place, counted from 1, has this fault first over all but the number there
pub record FailsOther (t : DecisionTable) (list : List Numbered) (q : Question) (ns : List ℕ)
    (others : List Answer) (k : ℕ) (fault : CheckFault) : Type 0 where
  pub number : ℕ
  pub other : Answer
  pub before : ℕ
  pub counted : k ≡ before + 1
  pub number_there : slice_get ns before ≡ Some number
  pub there : slice_get others before ≡ Some other
  pub first : IsFirst (FailsAnswer t (stated (without number ns) list) q other) IsEarlierFault fault

-- what each test finds at fault in a reduct, each taken alone
abbrev pub FailsReduct : DecisionTable → List Numbered → Question → Conclusion → Reduct
    → ReductFault → Type 0
FailsReduct t list q c x faults.NotCarried = RestsOnPart q c → ⊥
FailsReduct t list q c x faults.WrongNumbers = AreNumbersIn list x.numbers → ⊥
FailsReduct t list q c x faults.Count = length x.others ≢ length x.numbers
FailsReduct t list q c x faults.AnotherAnswer = Concludes c x.answer.verdict → ⊥
FailsReduct t list q c x (faults.Answer fault) =
    IsFirst (FailsAnswer t (stated x.numbers list) q x.answer) IsEarlierFault fault
FailsReduct t list q c x (faults.SameAnswer k) = IsSameAt c x.others k
FailsReduct t list q c x (faults.Other k fault) = FailsOther t list q x.numbers x.others k fault
FailsReduct t list q c x faults.Memory = ⊥

abbrev pub reduct_stage : ReductFault → ℕ
reduct_stage faults.NotCarried = 0
reduct_stage faults.WrongNumbers = 1
reduct_stage faults.Count = 2
reduct_stage faults.AnotherAnswer = 3
reduct_stage (faults.Answer fault) = 4
reduct_stage _ = 5

-- of two answers beside numbers the earlier comes first, and of one what it concludes before its proof
abbrev pub reduct_place : ReductFault → ℕ
reduct_place (faults.SameAnswer k) = 2 * k
reduct_place (faults.Other k fault) = 2 * k + 1
reduct_place _ = 0

abbrev pub IsEarlierReductFault : ReductFault → ReductFault → Type 0
IsEarlierReductFault = IsEarlier reduct_stage reduct_place
