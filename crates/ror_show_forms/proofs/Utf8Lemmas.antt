-- The text of a certificate, and of several, is UTF-8.
use Rattle.std.proofs.Common.{ℕ, ◌<◌, ◌^◌, List, [], ◌∷◌, ◌++◌, length, map, refl, sym, subst, arith}
use Rattle.std.specs.Prelude.{codes}
use Rattle.std.specs.Fmt.{decimal}
use Rattle.std.specs.List.{AllByRecursion, flat_map}
use Rattle.std.specs.Str.{IsUtf8}
use Rattle.std.proofs.lemmas.Str.{IsUtf8-append, IsUtf8-nil}
use Rattle.ror_table.specs.Table.{DecisionTable, IsTable}
use Rattle.ror_proof.specs.declared.answer.Answer.{Answer}
use Rattle.ror_proof.specs.Text.{answer_text, IsPrintable}
use Rattle.ror_proof.proofs.Utf8Lemmas.{ascii_is_utf8, decimal_is_utf8, line_text_is_utf8, answer_text_is_utf8}
use Rattle.ror_report.specs.Text.{end_text}
use Rattle.ror_report.proofs.Utf8Lemmas.{end_text_is_utf8}
use Rattle.ror_show_forms.specs.declared.certificate.Certificate.{Certificate}
use Rattle.ror_show_forms.specs.CertificateText.{header_text, head_text, certificate_text, IsPrintableCertificate, IsCertificatesText}

abbrev AreTexts : List (List ℕ) → Type 0
AreTexts words = AllByRecursion IsUtf8 words

numbers_are_texts : (ns : List ℕ) → AllByRecursion (λ n. n < 2 ^ 32) ns → AreTexts (map decimal ns)
numbers_are_texts [] small = tt
numbers_are_texts (n ∷ ns) small = (decimal_is_utf8 n (omega (arith, small.0)), numbers_are_texts ns small.1)

head_is_utf8 : (line place : ℕ) (numbers : List ℕ) → line < 2 ^ 32 → place < 2 ^ 32 → AllByRecursion (λ n. n < 2 ^ 32) numbers → IsUtf8 (head_text line place numbers)
head_is_utf8 line place numbers l p ns =
    line_text_is_utf8 (codes "reduct" ∷ decimal line ∷ decimal place ∷ map decimal numbers) (ascii_is_utf8 (codes "reduct") refl, (decimal_is_utf8 line (omega (arith, l)), (decimal_is_utf8 place (omega (arith, p)), numbers_are_texts numbers ns)))

answers_are_utf8 : (t : DecisionTable) (xs : List Answer) → IsTable t → AllByRecursion (IsPrintable t) xs → IsUtf8 (flat_map (answer_text t) xs)
answers_are_utf8 t [] table printable = IsUtf8-nil
answers_are_utf8 t (x ∷ xs) table printable =
    IsUtf8-append (answer_text t x) (flat_map (answer_text t) xs) (answer_text_is_utf8 t x table printable.0) (answers_are_utf8 t xs table printable.1)

pub certificate_is_utf8 : (t : DecisionTable) (x : Certificate) → IsTable t → IsPrintableCertificate t x → IsUtf8 (certificate_text t x)
unfolding certificate_text
certificate_is_utf8 t x table printable =
    let others = flat_map (answer_text t) x.reduct.others in
    IsUtf8-append (head_text x.line x.place x.reduct.numbers) (answer_text t x.reduct.answer ++ others) (head_is_utf8 x.line x.place x.reduct.numbers printable.line printable.place printable.numbers)
    (IsUtf8-append (answer_text t x.reduct.answer) others (answer_text_is_utf8 t x.reduct.answer table printable.answer) (answers_are_utf8 t x.reduct.others table printable.others))

pub header_is_utf8 : IsUtf8 header_text
unfolding header_text
header_is_utf8 = line_text_is_utf8 (codes "ror-why" ∷ codes "1" ∷ []) (ascii_is_utf8 (codes "ror-why") refl, (ascii_is_utf8 (codes "1") refl, tt))

certificates_are_utf8 : (t : DecisionTable) (xs : List Certificate) → IsTable t → AllByRecursion (IsPrintableCertificate t) xs → IsUtf8 (flat_map (certificate_text t) xs)
certificates_are_utf8 t [] table printable = IsUtf8-nil
certificates_are_utf8 t (x ∷ xs) table printable =
    IsUtf8-append (certificate_text t x) (flat_map (certificate_text t) xs) (certificate_is_utf8 t x table printable.0) (certificates_are_utf8 t xs table printable.1)

pub text_is_utf8 : (t : DecisionTable) (bytes : List ℕ) (xs : List Certificate) → IsTable t → IsCertificatesText t bytes xs → length xs < 2 ^ 32 → IsUtf8 bytes
text_is_utf8 t bytes xs table is few =
    let all = flat_map (certificate_text t) xs in
    let back = IsUtf8-append all (end_text (length xs)) (certificates_are_utf8 t xs table is.printable) (end_text_is_utf8 (length xs) few) in
    subst IsUtf8 (sym is.text) (IsUtf8-append header_text (all ++ end_text (length xs)) header_is_utf8 back)
