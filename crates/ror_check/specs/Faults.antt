-- Each test of an answer that may fail, and their order.
use Rattle.std.specs.Prelude.{◌≡◌, ◌≢◌, ℕ, ◌+◌, Bool, true, false, ◌&&◌, List, slice_get, Some}
use Rattle.std.specs.List.{list_all}
use Rattle.ror_text.specs.FirstFault.{IsFirst, IsEarlier}
use Rattle.ror_statement.specs.declared.statement.Statement.{Statement}
use Rattle.ror_statement.specs.declared.question.QuestionKind.{QuestionKind}
use Rattle.ror_statement.specs.declared.question.QuestionKind.TheVariants.{Plain}
use Rattle.ror_statement.specs.declared.question.Question.{Question}
use Rattle.ror_statement.specs.declared.question.Conclusion.{Conclusion}
use Rattle.ror_statement.specs.declared.question.Conclusion.TheVariants as conclusions
use Rattle.ror_statement.specs.Questions.{kind_of}
use Rattle.ror_table.specs.Table.{DecisionTable}
use Rattle.ror_system.specs.System.{LinearSystem}
use Rattle.ror_system.specs.Acceptance.{FailsSolution, FailsMultipliers, IsEarlierTest}
use Rattle.ror_system.specs.declared.reject.Reject.{Reject}
use Rattle.ror_proof.specs.declared.answer.Certificate.{Certificate}
use Rattle.ror_proof.specs.declared.answer.Certificate.TheVariants as certificates
use Rattle.ror_proof.specs.declared.answer.Part.{Part}
use Rattle.ror_proof.specs.declared.answer.Proof.{Proof}
use Rattle.ror_proof.specs.declared.answer.Verdict.{Verdict}
use Rattle.ror_proof.specs.declared.answer.Verdict.TheVariants as verdicts
use Rattle.ror_proof.specs.declared.answer.Answer.{Answer}
use Rattle.ror_check.specs.declared.side.Side.{Side}
use Rattle.ror_check.specs.declared.side.Side.TheVariants.{Solvable, NotSolvable}
use Rattle.ror_check.specs.declared.fault.CheckFault.{CheckFault}
use Rattle.ror_check.specs.declared.fault.CheckFault.TheVariants as faults
use Rattle.ror_check.specs.declared.fault.AnswersFault.{AnswersFault}
use Rattle.ror_check.specs.declared.fault.AnswersFault.TheVariants as answers
use Rattle.ror_check.specs.Proof.{is_wide, AreNumberedFor, may_conclude, base_side, part_side, base_system, question_systems_of}

-- a certificate of this kind can show the side
abbrev pub is_side : Side → Certificate → Bool
is_side Solvable (certificates.Solution x) = true
is_side NotSolvable (certificates.Multipliers m) = true
is_side _ _ = false

-- the parts are of the kind that the conclusion wants; where none are wanted no kind is
abbrev pub have_kind : QuestionKind → Conclusion → List Part → Bool
have_kind k conclusions.Contradiction parts = true
have_kind Plain c parts = true
have_kind k c parts = list_all (λ p. is_side (part_side k c) p.body) parts

-- the conclusion is one of those on such a question, and the certificates are of the kinds that it wants
abbrev pub has_kinds : Question → Conclusion → Proof → Bool
has_kinds q c proof =
    may_conclude (kind_of q) c && is_side (base_side c) proof.base && have_kind (kind_of q) c proof.parts

-- the first reason for which a system does not accept a certificate
abbrev pub IsRejectedFor : LinearSystem → Certificate → Reject → Type 0
IsRejectedFor s (certificates.Solution x) r = IsFirst (FailsSolution s x.steps) IsEarlierTest r
IsRejectedFor s (certificates.Multipliers m) r =
    IsFirst (FailsMultipliers s m.weak m.strict) IsEarlierTest r

-- the part at a place, counted from 1, is not accepted for the system that has its number, for this reason
pub record FailsPart (systems : List LinearSystem) (parts : List Part) (k : ℕ)
    (r : Reject) : Type 0 where
  pub part : Part
  pub before : ℕ
  pub counted : k ≡ before + 1
  pub part_there : slice_get parts before ≡ Some part
  pub system : LinearSystem
  pub systems_before : ℕ
  pub numbered : part.at ≡ systems_before + 1
  pub system_there : slice_get systems systems_before ≡ Some system
  pub rejected : IsRejectedFor system part.body r

-- what each test finds at fault in a proof, each taken alone
abbrev pub FailsProof : DecisionTable → List Statement → Question → Conclusion → Proof
    → CheckFault → Type 0
FailsProof t list q c proof faults.WrongVerdict = has_kinds q c proof ≡ false
FailsProof t list q c proof faults.PartCount = AreNumberedFor list q c proof.parts → ⊥
FailsProof t list q c proof (faults.Base r) = IsRejectedFor (base_system t list) proof.base r
FailsProof t list q c proof (faults.Part k r) =
    FailsPart (question_systems_of t list q) proof.parts k r
FailsProof t list q c proof _ = ⊥

-- a verdict without a proof is a wrong one, and no test of proofs looks at it
abbrev pub FailsVerdict : DecisionTable → List Statement → Question → Verdict → CheckFault → Type 0
FailsVerdict t list q (verdicts.Yes proof) fault = FailsProof t list q conclusions.Yes proof fault
FailsVerdict t list q (verdicts.No proof) fault = FailsProof t list q conclusions.No proof fault
FailsVerdict t list q (verdicts.Contradiction proof) fault =
    FailsProof t list q conclusions.Contradiction proof fault
FailsVerdict t list q (verdicts.Wide system note) faults.WrongVerdict = Unit {0}
FailsVerdict t list q (verdicts.Wide system note) _ = ⊥

abbrev pub FailsAnswer : DecisionTable → List Statement → Question → Answer → CheckFault → Type 0
FailsAnswer t list q x faults.WrongQuestion = x.question ≢ q
FailsAnswer t list q x fault = FailsVerdict t list q x.verdict fault

abbrev pub fault_stage : CheckFault → ℕ
fault_stage faults.WrongQuestion = 0
fault_stage faults.WrongVerdict = 1
fault_stage faults.PartCount = 2
fault_stage (faults.Base r) = 3
fault_stage _ = 4

abbrev pub fault_place : CheckFault → ℕ
fault_place (faults.Part k r) = k
fault_place _ = 0

abbrev pub IsEarlierFault : CheckFault → CheckFault → Type 0
IsEarlierFault = IsEarlier fault_stage fault_place

-- ---- many answers over the same statements, each to the question that it names

-- The answer at a place, counted from 1, has this fault first. One that is too wide concludes nothing, and has none.
pub record FailsAnswerAt (t : DecisionTable) (list : List Statement) (xs : List Answer) (k : ℕ)
    (fault : CheckFault) : Type 0 where
  pub answer : Answer
  pub before : ℕ
  pub counted : k ≡ before + 1
  pub there : slice_get xs before ≡ Some answer
  pub concludes : is_wide answer.verdict ≡ false
  pub first : IsFirst (FailsAnswer t list answer.question answer) IsEarlierFault fault

abbrev pub FailsAnswers : DecisionTable → List Statement → List Answer → AnswersFault → Type 0
FailsAnswers t list xs (answers.Answer k fault) = FailsAnswerAt t list xs k fault
FailsAnswers t list xs answers.Memory = ⊥

abbrev pub answers_place : AnswersFault → ℕ
answers_place (answers.Answer k fault) = k
answers_place answers.Memory = 0

-- one answer before another
abbrev pub IsEarlierAnswersFault : AnswersFault → AnswersFault → Type 0
IsEarlierAnswersFault = IsEarlier (λ fault. 0) answers_place
