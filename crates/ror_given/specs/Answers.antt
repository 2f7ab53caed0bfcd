-- Which answers are given at a width.
use Rattle.std.specs.Prelude.{ℕ, List}
use Rattle.std.specs.List.{AllByRecursion}
use Rattle.ror_word.specs.Within.{IsWithin}
use Rattle.ror_statement.specs.declared.statement.Statement.{Statement}
use Rattle.ror_statement.specs.declared.question.Question.{Question}
use Rattle.ror_table.specs.Table.{DecisionTable}
use Rattle.ror_proof.specs.declared.answer.Certificate.{Certificate}
use Rattle.ror_proof.specs.declared.answer.Certificate.TheVariants as certificates
use Rattle.ror_proof.specs.declared.answer.Proof.{Proof}
use Rattle.ror_proof.specs.declared.answer.Verdict.{Verdict}
use Rattle.ror_proof.specs.declared.answer.Verdict.TheVariants as verdicts
use Rattle.ror_proof.specs.declared.answer.Answer.{Answer}
use Rattle.ror_check.specs.Proof.{IsAllowedAnswer, IsWideOrTrue}
use Rattle.ror_given.specs.Notes.{HasNoteAt}

-- no number of the certificate passes most
abbrev pub IsCertificateWithin : ℕ → Certificate → Type 0
IsCertificateWithin most (certificates.Solution x) = AllByRecursion (IsWithin most) x.steps
IsCertificateWithin most (certificates.Multipliers m) =
    AllByRecursion (IsWithin most) m.weak × AllByRecursion (IsWithin most) m.strict

pub record IsProofWithin (most : ℕ) (proof : Proof) : Type 0 where
  pub base : IsCertificateWithin most proof.base
  pub parts : AllByRecursion (λ p. IsCertificateWithin most p.body) proof.parts

-- no number of a certificate in the verdict passes most
abbrev pub IsVerdictWithin : ℕ → Verdict → Type 0
IsVerdictWithin most (verdicts.Yes proof) = IsProofWithin most proof
IsVerdictWithin most (verdicts.No proof) = IsProofWithin most proof
IsVerdictWithin most (verdicts.Contradiction proof) = IsProofWithin most proof
IsVerdictWithin most (verdicts.Wide system note) = Unit {0}

-- The answer is one that may be given at the width: its proof proves its verdict, or it names the first number that passes
-- most on the path of a system before which nothing is decided. Its certificates keep to the width, and its verdict is true.
pub record IsGiven (most : ℕ) (t : DecisionTable) (list : List Statement) (q : Question)
    (x : Answer) : Type 0 where
  pub allowed : IsAllowedAnswer (HasNoteAt most) t list q x
  pub narrow : IsVerdictWithin most x.verdict
  pub true_answer : IsWideOrTrue t list q x.verdict
