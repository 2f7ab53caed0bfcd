-- Laws of proofs: they are true, and pass each test. Laws of repairs: a list has one, and it keeps as much as it can.
use Rattle.std.specs.Prelude.{◌≡◌, ◌≢◌, ◌↔◌, ℕ, suc, true, List, [], ◌∷◌, ◌++◌, take, drop, slice_get, Some}
use Rattle.ror_statement.specs.declared.statement.Statement.{Statement}
use Rattle.ror_statement.specs.declared.statement.Numbered.{Numbered}
use Rattle.ror_statement.specs.declared.question.Question.{Question}
use Rattle.ror_table.specs.Table.{DecisionTable}
use Rattle.ror_value.specs.Over.{IsLawfulIn, IsAskedIn}
use Rattle.ror_value.specs.Meaning.{IsConsistent, IsContradictory}
use Rattle.ror_proof.specs.declared.answer.Answer.{Answer}
use Rattle.ror_proof.specs.declared.kept.Kept.{Kept}
use Rattle.ror_check.specs.declared.fault.CheckFault.{CheckFault}
use Rattle.ror_check.specs.Proof.{IsProvedAnswer, IsTrueVerdict}
use Rattle.ror_check.specs.Faults.{FailsAnswer}
use Rattle.ror_check.specs.declared.fault.RepairCheckFault.{RepairCheckFault}
use Rattle.ror_statement.specs.Statements.{statements_in}
use Rattle.ror_check.specs.Repair.{is_among, kept_of, IsRepair, numbers_of, IsProvedRepair}
use Rattle.ror_check.specs.RepairFaults.{FailsRepair}

abbrev pub ProofsAreTrue : Type 0
ProofsAreTrue = (t : DecisionTable) (list : List Statement) (q : Question) (x : Answer)
    → IsLawfulIn t list → IsAskedIn t q
    → IsProvedAnswer t list q x → IsTrueVerdict t list q x.verdict

abbrev pub ProvedPassesEachTest : Type 0
ProvedPassesEachTest = (t : DecisionTable) (list : List Statement) (q : Question) (x : Answer)
    (fault : CheckFault) → IsProvedAnswer t list q x → FailsAnswer t list q x fault → ⊥

-- ---- repairs

-- the statements of a list are repaired in one way
abbrev pub OneRepair : Type 0
OneRepair = (t : DecisionTable) (list : List Numbered) (ns ms : List ℕ)
    → IsRepair t list ns → IsRepair t list ms → ns ≡ ms

-- What is kept is consistent, where anything is. No dropped statement can be put back at its place among all that is kept.
-- A consistent list loses nothing.
pub record IsMaximalRepair (t : DecisionTable) (list : List Numbered) (dropped : List ℕ) : Type 0 where
  pub consistent : kept_of dropped list ≢ [] → IsConsistent t (statements_in (kept_of dropped list))
  pub put_back : (k : ℕ) (x : Numbered) → slice_get list k ≡ Some x → is_among dropped x ≡ true
      → IsContradictory t (statements_in
      (kept_of dropped (take k list) ++ x ∷ kept_of dropped (drop (suc k) list)))
  pub whole : IsConsistent t (statements_in list) → dropped ≡ []

-- each repair keeps as much as can be kept, and to drop nothing is the repair of a consistent list
pub record RepairsAreMaximal : Type 0 where
  pub maximal : (t : DecisionTable) (list : List Numbered) (dropped : List ℕ)
      → IsRepair t list dropped → IsMaximalRepair t list dropped
  pub of_consistent : (t : DecisionTable) (list : List Numbered) (dropped : List ℕ)
      → IsConsistent t (statements_in list) → IsRepair t list dropped ↔ (dropped ≡ [])

abbrev pub ProvedRepairsAreTrue : Type 0
ProvedRepairsAreTrue = (t : DecisionTable) (list : List Numbered) (x : Kept)
    → IsLawfulIn t (statements_in list) → IsProvedRepair t list x
    → IsRepair t list (numbers_of x.dropped)

abbrev pub ProvedRepairPassesEachTest : Type 0
ProvedRepairPassesEachTest = (t : DecisionTable) (list : List Numbered) (x : Kept)
    (fault : RepairCheckFault) → IsProvedRepair t list x → FailsRepair t list x fault → ⊥
