-- The one text of a certificate, and of several.
use Rattle.std.specs.Prelude.{◌≡◌, ℕ, ◌<◌, ◌^◌, ◌⊎◌, List, [], ◌∷◌, ◌++◌, length, map, codes, decimal}
use Rattle.std.specs.List.{flat_map, AllByRecursion}
use Rattle.ror_text.specs.SpacedLines.{line_text}
use Rattle.ror_table.specs.Table.{DecisionTable}
use Rattle.ror_proof.specs.Text.{answer_text, IsPrintable}
use Rattle.ror_report.specs.Text.{end_text}
use Rattle.ror_show_forms.specs.declared.certificate.Certificate.{Certificate}

-- the first line
unfoldable pub header_text : List ℕ
header_text = line_text (codes "ror-why" ∷ codes "1" ∷ [])

-- the line that says which answer is meant, and the numbers of the part
abbrev pub head_text : ℕ → ℕ → List ℕ → List ℕ
head_text line place numbers = line_text (codes "reduct" ∷ decimal line ∷ decimal place ∷ map decimal numbers)

-- that line, the answer over the part, and for each number the one over the others
unfoldable pub certificate_text : DecisionTable → Certificate → List ℕ
certificate_text t x =
    head_text x.line x.place x.reduct.numbers
    ++ (answer_text t x.reduct.answer ++ flat_map (answer_text t) x.reduct.others)

-- the certificates that have a text
pub record IsPrintableCertificate (t : DecisionTable) (x : Certificate) : Type 0 where
  pub line : x.line < 2 ^ 32
  pub place : x.place < 2 ^ 32
  pub numbers : AllByRecursion (λ n. n < 2 ^ 32) x.reduct.numbers
  pub as_many : length x.reduct.others ≡ length x.reduct.numbers
  pub answer : IsPrintable t x.reduct.answer
  pub others : AllByRecursion (IsPrintable t) x.reduct.others

-- ---- several

-- the answer of the first stands at an earlier line than that of the second, or before it at the same line
abbrev pub IsBefore : Certificate → Certificate → Type 0
IsBefore x y = (x.line < y.line) ⊎ ((x.line ≡ y.line) × (x.place < y.place))

-- each one stands before the next, so that no answer has two
abbrev pub AreInOrder : List Certificate → Type 0
AreInOrder [] = Unit {0}
AreInOrder (x ∷ []) = Unit {0}
AreInOrder (x ∷ y ∷ xs) = IsBefore x y × AreInOrder (y ∷ xs)

-- the first line, the certificates, and the line with their number
abbrev pub certificates_text : DecisionTable → List Certificate → List ℕ
certificates_text t xs = header_text ++ (flat_map (certificate_text t) xs ++ end_text (length xs))

-- The bytes are the text of these certificates, in order.
pub record IsCertificatesText (t : DecisionTable) (bytes : List ℕ) (xs : List Certificate) : Type 0 where
  pub text : bytes ≡ certificates_text t xs
  pub printable : AllByRecursion (IsPrintableCertificate t) xs
  pub in_order : AreInOrder xs
