-- Which certificates are proved over the lines that a check kept, and for what others are refused.
use Rattle.std.specs.Prelude.{◌≡◌, ℕ, zero, suc, ◌+◌, ◌^◌, ◌-◌, ◌==◌, min, List, ◌∷◌, ◌++◌, length, Option, Some, None, option_map, slice_get}
use Rattle.std.specs.List.{AllByRecursion, find}
use Rattle.ror_text.specs.FirstFault.{IsFirst}
use Rattle.ror_statement.specs.declared.statement.Numbered.{Numbered}
use Rattle.ror_statement.specs.declared.question.Conclusion.{Conclusion}
use Rattle.ror_statement.specs.declared.question.Conclusion.TheVariants as conclusions
use Rattle.ror_table.specs.Table.{DecisionTable}
use Rattle.ror_proof.specs.declared.answer.Answer.{Answer}
use Rattle.ror_proof.specs.declared.answer.Verdict.{Verdict}
use Rattle.ror_proof.specs.declared.answer.Verdict.TheVariants as verdicts
use Rattle.ror_check.specs.declared.fault.CheckFault.{CheckFault}
use Rattle.ror_check.specs.declared.fault.CheckFault.TheVariants as checks
use Rattle.ror_reason.specs.declared.fault.ReductFault.{ReductFault}
use Rattle.ror_reason.specs.declared.fault.ReductFault.TheVariants as faults
use Rattle.ror_reason.specs.declared.reducts.Reduct.{Reduct}
use Rattle.ror_reason.specs.Reducts.{IsProvedReduct}
use Rattle.ror_reason.specs.ReductFaults.{FailsReduct, IsEarlierReductFault}
use Rattle.ror_show_forms.specs.declared.certificate.Certificate.{Certificate}
use Rattle.ror_report.specs.declared.block.Body.{Body}
use Rattle.ror_report.specs.declared.block.Body.TheVariants.{Answers}
use Rattle.ror_bench.specs.declared.kept.KeptLine.{KeptLine}
use Rattle.ror_bench.specs.declared.report.Reason.{Reason}
use Rattle.ror_bench.specs.declared.report.Reason.TheVariants as reasons
use Rattle.ror_bench.specs.declared.report.Rejection.{Rejection}
use Rattle.ror_entries.specs.declared.check.EntryFault.{EntryFault}
use Rattle.ror_entries.specs.declared.check.EntryFault.TheVariants as entries

-- ---- which answer is meant

-- the kept line of this number
abbrev pub kept_line : List KeptLine → ℕ → Option KeptLine
kept_line kept line = find (λ x. x.block.line == line) kept

-- the answer at a place, counted from 1
abbrev pub placed : List Answer → ℕ → Option Answer
placed xs zero = None
placed xs (suc k) = slice_get xs k

-- what stood, and the answer at a place of the body
abbrev pub answered : Option (List Numbered) → Body → ℕ → Option (List Numbered × Answer)
answered (Some list) (Answers xs) place = option_map (λ x. (list, x)) (placed xs place)
answered _ _ place = None

-- the same of a kept line, if there is one
abbrev pub answered_at : Option KeptLine → ℕ → Option (List Numbered × Answer)
answered_at (Some x) place = answered x.standing x.block.body place
answered_at None place = None

-- what stood at the kept line of this number, and the answer to it at this place
abbrev pub answer_at : List KeptLine → ℕ → ℕ → Option (List Numbered × Answer)
answer_at kept line place = answered_at (kept_line kept line) place

-- what the verdict concludes: nothing where it is too wide
abbrev pub conclusion_of : Verdict → Option Conclusion
conclusion_of (verdicts.Yes proof) = Some conclusions.Yes
conclusion_of (verdicts.No proof) = Some conclusions.No
conclusion_of (verdicts.Contradiction proof) = Some conclusions.Contradiction
conclusion_of (verdicts.Wide system note) = None

-- ---- what is proved

-- the answer concludes something, and the reduct is proved of it over the list
pub record IsProvedOf (t : DecisionTable) (list : List Numbered) (answer : Answer) (x : Reduct) : Type 0 where
  pub conclusion : Conclusion
  pub concludes : conclusion_of answer.verdict ≡ Some conclusion
  pub reduct : IsProvedReduct t list answer.question conclusion x

-- an answer stands where the certificate says, and its reduct is proved of that answer over what stood at the line
pub record IsProvedCertificate (t : DecisionTable) (kept : List KeptLine) (x : Certificate) : Type 0 where
  pub list : List Numbered
  pub answer : Answer
  pub there : answer_at kept x.line x.place ≡ Some (list, answer)
  pub proved : IsProvedOf t list answer x.reduct

-- ---- what is refused

-- Of a reduct that is at fault: that it isn't one of this answer, or which of its answers is at fault, from 1, the one over the part
-- being the first. An answer that concludes what it may not has a wrong verdict.
abbrev pub counted : ℕ → ℕ
counted k = min (k + 1) (2 ^ 32 - 1)

abbrev pub reason_of : ReductFault → Reason
reason_of faults.NotCarried = reasons.WrongBlock
reason_of faults.WrongNumbers = reasons.WrongBlock
reason_of faults.Count = reasons.WrongBlock
reason_of faults.AnotherAnswer = reasons.Answer 1 checks.WrongVerdict
reason_of (faults.Answer fault) = reasons.Answer 1 fault
reason_of (faults.SameAnswer k) = reasons.Answer (counted k) checks.WrongVerdict
reason_of (faults.Other k fault) = reasons.Answer (counted k) fault
reason_of faults.Memory = reasons.WrongBlock

-- the fault of a certificate of which an answer is at fault, from 1
abbrev pub wrong_answer : ℕ → CheckFault → EntryFault
wrong_answer k fault = entries.Refused (reasons.Answer k fault)

-- the fault of a certificate whose reduct has this one; want of memory is an answer of its own
abbrev pub entry_fault : ReductFault → EntryFault
entry_fault faults.Memory = entries.Memory
entry_fault fault = entries.Refused (reason_of fault)

-- the reduct is refused since the answer concludes nothing, or for its first fault
pub data RefusesOf (t : DecisionTable) (list : List Numbered) (answer : Answer) (x : Reduct) (reason : Reason) : Type 0 where
  concludes_nothing : conclusion_of answer.verdict ≡ None → reason ≡ reasons.WrongBlock → RefusesOf t list answer x reason
  at_fault : (c : Conclusion) (fault : ReductFault) → conclusion_of answer.verdict ≡ Some c
      → IsFirst (FailsReduct t list answer.question c x) IsEarlierReductFault fault
      → reason ≡ reason_of fault → RefusesOf t list answer x reason

-- a certificate is refused since no answer stands where it says, or its reduct is refused of the one that does
pub data Refuses (t : DecisionTable) (kept : List KeptLine) (x : Certificate) (reason : Reason) : Type 0 where
  no_answer : answer_at kept x.line x.place ≡ None → reason ≡ reasons.WrongBlock → Refuses t kept x reason
  wrong_reduct : (list : List Numbered) (answer : Answer) → answer_at kept x.line x.place ≡ Some (list, answer)
      → RefusesOf t list answer x.reduct reason → Refuses t kept x reason

-- this is the first one that isn't proved, and it is refused for this
pub record IsFirstUnproved (t : DecisionTable) (kept : List KeptLine) (xs : List Certificate) (rejection : Rejection) : Type 0 where
  pub before : List Certificate
  pub certificate : Certificate
  pub behind : List Certificate
  pub split : xs ≡ before ++ certificate ∷ behind
  pub proved : AllByRecursion (IsProvedCertificate t kept) before
  pub block : rejection.block ≡ length before + 1
  pub refused : Refuses t kept certificate rejection.reason
