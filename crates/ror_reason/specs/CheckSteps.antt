-- What each step of a check leaves to the next.
use Rattle.std.specs.Prelude.{◌≡◌, ℕ, ◌+◌, ◌<◌, List, slice_get, Some}
use Rattle.ror_text.specs.FirstFault.{IsFirst}
use Rattle.ror_statement.specs.declared.statement.Numbered.{Numbered}
use Rattle.ror_statement.specs.declared.question.Question.{Question}
use Rattle.ror_statement.specs.declared.question.Conclusion.{Conclusion}
use Rattle.ror_table.specs.Table.{DecisionTable}
use Rattle.ror_proof.specs.declared.answer.Answer.{Answer}
use Rattle.ror_check.specs.Faults.{FailsAnswer, IsEarlierFault}
use Rattle.ror_reason.specs.declared.fault.ReductFault.{ReductFault}
use Rattle.ror_reason.specs.declared.fault.ReductFault.TheVariants as faults
use Rattle.ror_reason.specs.Reducts.{stated, without, Concludes, IsProvedOther}
use Rattle.ror_reason.specs.ReductFaults.{IsSameAt, FailsOther}

-- the answer over the part is refused, or memory ran out
abbrev pub RefusesPart : DecisionTable → List Numbered → Question → List ℕ → Answer
    → ReductFault → Type 0
RefusesPart t list q ns x (faults.Answer fault) =
    IsFirst (FailsAnswer t (stated ns list) q x) IsEarlierFault fault
RefusesPart t list q ns x faults.Memory = Unit {0}
RefusesPart t list q ns x _ = ⊥

-- the answer at this place, beside this number, is refused, or memory ran out
abbrev pub RefusesOther : DecisionTable → List Numbered → Question → Conclusion → List ℕ
    → ℕ → ℕ → Answer → ReductFault → Type 0
RefusesOther t list q c ns at n other (faults.SameAnswer k) = (k ≡ at) × Concludes c other.verdict
RefusesOther t list q c ns at n other (faults.Other k fault) = (k ≡ at)
    × (Concludes c other.verdict → ⊥)
    × IsFirst (FailsAnswer t (stated (without n ns) list) q other) IsEarlierFault fault
RefusesOther t list q c ns at n other faults.Memory = Unit {0}
RefusesOther t list q c ns at n other _ = ⊥

-- each answer before a place is proved beside its number
abbrev pub AreProvedBefore : DecisionTable → List Numbered → Question → Conclusion → List ℕ
    → List Answer → ℕ → Type 0
AreProvedBefore t list q c ns xs i = (k n : ℕ) (other : Answer) → k < i → slice_get ns k ≡ Some n
    → slice_get xs k ≡ Some other → IsProvedOther t list q c ns n other

-- an answer beside a number is refused, and those before it were not; or memory ran out
abbrev pub RefusesOthers : DecisionTable → List Numbered → Question → Conclusion → List ℕ
    → List Answer → ReductFault → Type 0
RefusesOthers t list q c ns xs (faults.SameAnswer k) = IsSameAt c xs k
    × ((before : ℕ) → k ≡ before + 1 → AreProvedBefore t list q c ns xs before)
RefusesOthers t list q c ns xs (faults.Other k fault) = FailsOther t list q ns xs k fault
    × (IsSameAt c xs k → ⊥)
    × ((before : ℕ) → k ≡ before + 1 → AreProvedBefore t list q c ns xs before)
RefusesOthers t list q c ns xs faults.Memory = Unit {0}
RefusesOthers t list q c ns xs _ = ⊥
