-- The certificates of the answers to kept lines, line by line and answer by answer.
use Rattle.std.specs.Prelude.{◌≡◌, ℕ, ◌+◌, Bool, true, false, List, [], ◌∷◌, ◌++◌, Option, Some}
use Rattle.ror_statement.specs.declared.statement.Numbered.{Numbered}
use Rattle.ror_table.specs.Table.{DecisionTable}
use Rattle.ror_proof.specs.declared.answer.Answer.{Answer}
use Rattle.ror_pivot.specs.declared.note.Bits.TheVariants.{B127}
use Rattle.ror_pivot.specs.Answers.{most_of}
use Rattle.ror_reason.specs.declared.reducts.Reason.{Reason}
use Rattle.ror_reason.specs.Reasons.{IsReasonWithin}
use Rattle.ror_report.specs.declared.block.Body.{Body}
use Rattle.ror_report.specs.declared.block.Body.TheVariants.{Answers}
use Rattle.ror_bench.specs.declared.kept.KeptLine.{KeptLine}
use Rattle.ror_show_find_reasons.specs.Carrying.{is_carried, IsReasonFor}
use Rattle.ror_show_forms.specs.declared.certificate.Certificate.{Certificate}
use Rattle.ror_show_forms.specs.CertificatePages.{certified_by}

-- these certify an answer that statements carry: a reason of it does, which may be one of several, and no number of it is too wide
pub record IsCertified (t : DecisionTable) (list : List Numbered) (line place : ℕ) (x : Answer) (xs : List Certificate) : Type 0 where
  pub reason : Reason
  pub is : IsReasonFor t list x.question x.verdict reason
  pub narrow : IsReasonWithin (most_of B127) reason
  pub are : xs ≡ certified_by line place reason

abbrev pub IsCertifiedWhere : Bool → DecisionTable → List Numbered → ℕ → ℕ → Answer → List Certificate → Type 0
IsCertifiedWhere true t list line place x xs = IsCertified t list line place x xs
IsCertifiedWhere false t list line place x xs = xs ≡ []

-- of each answer to a line, from this place on, counted from 1; of those that no statements carry none
abbrev pub AreCertified : DecisionTable → List Numbered → ℕ → ℕ → List Answer → List Certificate → Type 0
AreCertified t list line place [] xs = xs ≡ []
AreCertified t list line place (y ∷ ys) xs = (first : List Certificate) × (rest : List Certificate)
    × IsCertifiedWhere (is_carried y) t list line place y first × AreCertified t list line (place + 1) ys rest
    × (xs ≡ first ++ rest)

-- of a line without answers, or without what stood, none
abbrev pub IsLineCertified : DecisionTable → ℕ → Option (List Numbered) → Body → List Certificate → Type 0
IsLineCertified t line (Some list) (Answers ys) xs = AreCertified t list line 1 ys xs
IsLineCertified t line _ _ xs = xs ≡ []

-- of each kept line, in order
abbrev pub AreCertificatesOf : DecisionTable → List KeptLine → List Certificate → Type 0
AreCertificatesOf t [] xs = xs ≡ []
AreCertificatesOf t (y ∷ ys) xs = (first : List Certificate) × (rest : List Certificate)
    × IsLineCertified t y.block.line y.standing y.block.body first × AreCertificatesOf t ys rest × (xs ≡ first ++ rest)
