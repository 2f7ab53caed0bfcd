-- Which certificates prove a verdict, and which answers may be given.
use Rattle.std.specs.Prelude.{◌≡◌, ℕ, zero, suc, ◌+◌, ◌<◌, ◌≤◌, Bool, true, false, List, [], ◌∷◌, length, map, slice_get, Some}
use Rattle.std.specs.List.{AllByRecursion, range_with_len}
use Rattle.ror_statement.specs.declared.statement.Statement.{Statement}
use Rattle.ror_statement.specs.declared.question.QuestionKind.{QuestionKind}
use Rattle.ror_statement.specs.declared.question.QuestionKind.TheVariants.{Plain, Any, Every}
use Rattle.ror_statement.specs.declared.question.Question.{Question}
use Rattle.ror_statement.specs.declared.question.Conclusion.{Conclusion}
use Rattle.ror_statement.specs.declared.question.Conclusion.TheVariants as conclusions
use Rattle.ror_statement.specs.Questions.{kind_of}
use Rattle.ror_table.specs.Table.{DecisionTable}
use Rattle.ror_value.specs.Meaning.{Answers}
use Rattle.ror_system.specs.System.{LinearSystem, IsSolvable}
use Rattle.ror_system.specs.Acceptance.{IsAcceptedSolution, AreAcceptedMultipliers}
use Rattle.ror_rows.specs.Rows.{system_for, systems_of_question}
use Rattle.ror_proof.specs.declared.answer.Certificate.{Certificate}
use Rattle.ror_proof.specs.declared.answer.Certificate.TheVariants as certificates
use Rattle.ror_proof.specs.declared.answer.Part.{Part}
use Rattle.ror_proof.specs.declared.answer.Proof.{Proof}
use Rattle.ror_proof.specs.declared.answer.WideText.{WideText}
use Rattle.ror_proof.specs.declared.answer.Verdict.{Verdict}
use Rattle.ror_proof.specs.declared.answer.Verdict.TheVariants as verdicts
use Rattle.ror_proof.specs.declared.answer.Answer.{Answer}
use Rattle.ror_check.specs.declared.side.Side.{Side}
use Rattle.ror_check.specs.declared.side.Side.TheVariants.{Solvable, NotSolvable}

-- what is said of the conclusion and the proof of a verdict that has one
abbrev pub OfProof : (Conclusion → Proof → Type 0) → Verdict → Type 0
OfProof P (verdicts.Yes proof) = P conclusions.Yes proof
OfProof P (verdicts.No proof) = P conclusions.No proof
OfProof P (verdicts.Contradiction proof) = P conclusions.Contradiction proof
OfProof P (verdicts.Wide system note) = ⊥

-- the verdict with this conclusion and this proof
abbrev pub verdict_with : Conclusion → Proof → Verdict
verdict_with conclusions.Yes proof = verdicts.Yes proof
verdict_with conclusions.No proof = verdicts.No proof
verdict_with conclusions.Contradiction proof = verdicts.Contradiction proof

-- the verdict has no proof
abbrev pub IsWide : Verdict → Type 0
IsWide (verdicts.Wide system note) = Unit {0}
IsWide _ = ⊥

abbrev pub is_wide : Verdict → Bool
is_wide (verdicts.Wide system note) = true
is_wide _ = false

-- the system of the statements alone
abbrev pub base_system : DecisionTable → List Statement → LinearSystem
base_system t list = system_for t list []

-- the systems of a question, in order
abbrev pub question_systems_of : DecisionTable → List Statement → Question → List LinearSystem
question_systems_of t list q = map (system_for t list) (systems_of_question list q)

-- the certificate is accepted for the system, and shows this side of it: a solution the one, multipliers the other
abbrev pub Shows : Side → LinearSystem → Certificate → Type 0
Shows Solvable s (certificates.Solution x) = IsAcceptedSolution s x.steps
Shows NotSolvable s (certificates.Multipliers m) = AreAcceptedMultipliers s m.weak m.strict
Shows _ s _ = ⊥

-- a question that asks whether some function is compatible is answered yes or by a contradiction, and never no
abbrev pub may_conclude : QuestionKind → Conclusion → Bool
may_conclude Plain conclusions.No = false
may_conclude _ _ = true

-- what the base shows of the system of the statements alone
abbrev pub base_side : Conclusion → Side
base_side conclusions.Contradiction = NotSolvable
base_side _ = Solvable

-- What each part shows of its system, where there are parts. The one system of a question on some compatible function is of
-- those at which it holds: it is solvable where the answer is yes. The systems of a question on every one are of those at
-- which it fails: none of them is solvable where the answer is yes, one is where it is no.
abbrev pub part_side : QuestionKind → Conclusion → Side
part_side Any conclusions.Yes = Solvable
part_side Every conclusions.No = Solvable
part_side _ _ = NotSolvable

-- the numbers of the parts, where the question has so many systems: all of them in order, one of them, or none
abbrev pub AreNumbersFor : QuestionKind → Conclusion → ℕ → List ℕ → Type 0
AreNumbersFor k conclusions.Contradiction count numbers = numbers ≡ []
AreNumbersFor Plain _ count numbers = numbers ≡ []
AreNumbersFor Any _ count numbers = numbers ≡ range_with_len 1 count
AreNumbersFor Every conclusions.Yes count numbers = numbers ≡ range_with_len 1 count
AreNumbersFor Every conclusions.No count numbers = (n : ℕ) × (1 ≤ n) × (n ≤ count)
    × (numbers ≡ n ∷ [])

abbrev pub AreNumberedFor : List Statement → Question → Conclusion → List Part → Type 0
AreNumberedFor list q c parts =
    AreNumbersFor (kind_of q) c (length (systems_of_question list q)) (map (λ p. p.at) parts)

-- the part shows this side of the system that has its number
pub record ShowsOfItsSystem (side : Side) (systems : List LinearSystem) (p : Part) : Type 0 where
  pub system : LinearSystem
  pub before : ℕ
  pub counted : p.at ≡ before + 1
  pub there : slice_get systems before ≡ Some system
  pub shown : Shows side system p.body

-- the conclusion is one of those on such a question, and the base and the parts show what it wants, over the system of the
-- statements and the systems of the question
pub record Proves (t : DecisionTable) (list : List Statement) (q : Question) (c : Conclusion)
    (proof : Proof) : Type 0 where
  pub listed : may_conclude (kind_of q) c ≡ true
  pub base : Shows (base_side c) (base_system t list) proof.base
  pub numbered : AreNumberedFor list q c proof.parts
  pub parts : AllByRecursion (ShowsOfItsSystem (part_side (kind_of q) c)
      (question_systems_of t list q)) proof.parts

-- the answer is to this question, and its proof proves its verdict
pub record IsProvedAnswer (t : DecisionTable) (list : List Statement) (q : Question)
    (x : Answer) : Type 0 where
  pub question : x.question ≡ q
  pub proof : OfProof (Proves t list q) x.verdict

-- the conclusion of the verdict answers the question
abbrev pub IsTrueVerdict : DecisionTable → List Statement → Question → Verdict → Type 0
IsTrueVerdict t list q v = OfProof (λ c proof. Answers t list q c) v

-- the verdict concludes nothing, or its conclusion answers the question
abbrev pub IsWideOrTrue : DecisionTable → List Statement → Question → Verdict → Type 0
IsWideOrTrue t list q (verdicts.Wide system note) = Unit {0}
IsWideOrTrue t list q v = IsTrueVerdict t list q v

-- the verdict concludes nothing, or its proof proves it
abbrev pub IsWideOrProved : DecisionTable → List Statement → Question → Verdict → Type 0
IsWideOrProved t list q (verdicts.Wide system note) = Unit {0}
IsWideOrProved t list q v = OfProof (Proves t list q) v

-- ---- answers that are too wide

-- no system before this one is solvable, where the question asks of every compatible function
abbrev pub NoneSolvableBefore : QuestionKind → List LinearSystem → ℕ → Type 0
NoneSolvableBefore Every systems n = (i : ℕ) (s : LinearSystem) → i < n
    → slice_get systems i ≡ Some s → IsSolvable s → ⊥
NoneSolvableBefore _ systems n = Unit {0}

-- The system after so many others of the question has the note, and those before it decide nothing: the base, which is
-- number 0, is solvable, and none of them settles the question.
pub record IsWideAfter (HasNote : LinearSystem → WideText → Type 0) (t : DecisionTable)
    (list : List Statement) (q : Question) (before : ℕ) (note : WideText) : Type 0 where
  pub system : LinearSystem
  pub there : slice_get (question_systems_of t list q) before ≡ Some system
  pub noted : HasNote system note
  pub base : IsSolvable (base_system t list)
  pub undecided : NoneSolvableBefore (kind_of q) (question_systems_of t list q) before

abbrev pub IsWideAt : (LinearSystem → WideText → Type 0) → DecisionTable → List Statement
    → Question → ℕ → WideText → Type 0
IsWideAt HasNote t list q zero note = HasNote (base_system t list) note
IsWideAt HasNote t list q (suc before) note = IsWideAfter HasNote t list q before note

abbrev pub IsAllowedVerdict : (LinearSystem → WideText → Type 0) → DecisionTable → List Statement
    → Question → Verdict → Type 0
IsAllowedVerdict HasNote t list q (verdicts.Wide system note) = IsWideAt HasNote t list q system note
IsAllowedVerdict HasNote t list q v = OfProof (Proves t list q) v

-- The answer may be given: its proof proves its verdict, or it names the note of a system that is too wide. Which notes a
-- system has is for whoever speaks of a width to say.
pub record IsAllowedAnswer (HasNote : LinearSystem → WideText → Type 0) (t : DecisionTable)
    (list : List Statement) (q : Question) (x : Answer) : Type 0 where
  pub question : x.question ≡ q
  pub verdict : IsAllowedVerdict HasNote t list q x.verdict
