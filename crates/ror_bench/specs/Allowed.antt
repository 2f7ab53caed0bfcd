-- Which answers and which repairs a block may hold: those that may be given at a width, those that are proved, and those that
-- are of the command's form.
use Rattle.std.specs.Prelude.{◌≡◌, ℕ, List}
use Rattle.ror_statement.specs.declared.statement.Statement.{Statement}
use Rattle.ror_statement.specs.declared.statement.Numbered.{Numbered}
use Rattle.ror_statement.specs.declared.question.Question.{Question}
use Rattle.ror_table.specs.Table.{DecisionTable}
use Rattle.ror_proof.specs.declared.answer.Answer.{Answer}
use Rattle.ror_check.specs.Proof.{IsProvedAnswer, IsWideOrProved}
use Rattle.ror_check.specs.Repair.{numbers_of, IsRepair, IsProvedRepair}
use Rattle.ror_given.specs.Answers.{IsGiven}
use Rattle.ror_repair.specs.Repairs.{IsGivenRepair, IsWideRepair}
use Rattle.ror_report.specs.declared.block.Body.{Body}
use Rattle.ror_report.specs.declared.block.Body.TheVariants.{Repaired, RepairWide}

-- which answers there may be to a question over statements, and which bodies for a repair of numbered statements
pub record Allowing : Type 1 where
  pub answer : DecisionTable → List Statement → Question → Answer → Type 0
  pub repair : DecisionTable → List Numbered → Body → Type 0

-- ---- at a width

-- the repair is proved and keeps to the width, and drops what the repair over all value functions drops; or it names the first
-- number that passes the width on the path of a system on the way
abbrev pub IsRepairAt : ℕ → DecisionTable → List Numbered → Body → Type 0
IsRepairAt most t list (Repaired kept) =
    IsGivenRepair most t list kept × IsRepair t list (numbers_of kept.dropped)
IsRepairAt most t list (RepairWide number note) = IsWideRepair most t list number note
IsRepairAt most t list _ = ⊥

-- what may be given at the width
abbrev pub given_at : ℕ → Allowing
given_at most = record { answer = IsGiven most; repair = IsRepairAt most }

-- ---- what is proved

-- the answer is to the question, and it is too wide or its proof proves it
pub record IsProvedUnlessWide (t : DecisionTable) (list : List Statement) (q : Question)
    (x : Answer) : Type 0 where
  pub question : x.question ≡ q
  pub proof : IsWideOrProved t list q x.verdict

-- the repair is too wide or its proof proves it
abbrev pub IsRepairProvedUnlessWide : DecisionTable → List Numbered → Body → Type 0
IsRepairProvedUnlessWide t list (Repaired kept) = IsProvedRepair t list kept
IsRepairProvedUnlessWide t list (RepairWide number note) = Unit {0}
IsRepairProvedUnlessWide t list _ = ⊥

-- what is proved, but that answers and repairs may be too wide
abbrev pub proved_unless_wide : Allowing
proved_unless_wide = record { answer = IsProvedUnlessWide; repair = IsRepairProvedUnlessWide }

-- the repair's proof proves it
abbrev pub IsRepairProved : DecisionTable → List Numbered → Body → Type 0
IsRepairProved t list (Repaired kept) = IsProvedRepair t list kept
IsRepairProved t list _ = ⊥

-- what is proved, and nothing that is too wide
abbrev pub proved : Allowing
proved = record { answer = IsProvedAnswer; repair = IsRepairProved }

-- ---- what is of the command's form

-- the answer is to the question
abbrev pub IsTo : DecisionTable → List Statement → Question → Answer → Type 0
IsTo t list q x = x.question ≡ q

-- the body is one of a repair
abbrev pub IsOfRepair : DecisionTable → List Numbered → Body → Type 0
IsOfRepair t list (Repaired kept) = Unit {0}
IsOfRepair t list (RepairWide number note) = Unit {0}
IsOfRepair t list _ = ⊥

-- answers to the questions of a line, and any repair where one is asked for, whatever their proofs are
abbrev pub of_form : Allowing
of_form = record { answer = IsTo; repair = IsOfRepair }
