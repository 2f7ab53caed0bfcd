-- Texts of several certificates: each is of one list.
use Rattle.std.proofs.Common.{◌≡◌, ℕ, false, List, [], ◌∷◌, ◌++◌, length, refl, sym, ap, ◌∙◌, append_assoc}
use Rattle.std.specs.List.{flat_map, AllByRecursion}
use Rattle.std.proofs.lemmas.Bool.{false≢true}
use Rattle.std.proofs.lemmas.List.{append_cancel_left}
use Rattle.ror_text.specs.Cursor.{Cursor}
use Rattle.ror_table.specs.Table.{DecisionTable, IsTable}
use Rattle.ror_proof.specs.Reading.{begins_part}
use Rattle.ror_proof.proofs.WordLemmas.{ok_is}
use Rattle.ror_report.specs.Reading.{begins_end}
use Rattle.ror_report.specs.Text.{end_text}
use Rattle.ror_report.proofs.LineForms.{end_begins}
use Rattle.ror_show_forms.specs.declared.certificate.Certificate.{Certificate}
use Rattle.ror_show_forms.specs.CertificateText.{header_text, certificate_text, IsPrintableCertificate, IsCertificatesText}
use Rattle.ror_show_forms.specs.Reading.{certificate_at}
use Rattle.ror_show_forms.proofs.CertificateLemmas.{certificate_reads_back, certificate_begins}

-- no part stands behind the last of these
pub behind_no_part : (t : DecisionTable) (xs : List Certificate) (n : ℕ) → begins_part (flat_map (certificate_text t) xs ++ end_text n) ≡ false
behind_no_part t [] n = ap begins_part (end_begins n).1
behind_no_part t (x ∷ xs) n = ap (λ (l : List ℕ). begins_part ((l ++ flat_map (certificate_text t) xs) ++ end_text n)) (certificate_begins t x).1

-- a certificate begins as no last line does
pub begins_no_end : (t : DecisionTable) (x : Certificate) (rest : List ℕ) → begins_end (certificate_text t x ++ rest) ≡ false
begins_no_end t x rest = ap (λ (l : List ℕ). begins_end (l ++ rest)) (certificate_begins t x).1

more_begins_no_end : (t : DecisionTable) (x : Certificate) (xs : List Certificate) (n : ℕ) → begins_end (flat_map (certificate_text t) (x ∷ xs) ++ end_text n) ≡ false
more_begins_no_end t x xs n = ap (λ (l : List ℕ). begins_end ((l ++ flat_map (certificate_text t) xs) ++ end_text n)) (certificate_begins t x).1

same_rest : (t : DecisionTable) (xs ys : List Certificate) (m n : ℕ) → IsTable t → AllByRecursion (IsPrintableCertificate t) xs → AllByRecursion (IsPrintableCertificate t) ys
    → flat_map (certificate_text t) xs ++ end_text m ≡ flat_map (certificate_text t) ys ++ end_text n → xs ≡ ys
same_rest t [] [] m n table px py e = refl
same_rest t [] (y ∷ ys) m n table px py e = absurd (false≢true (sym (more_begins_no_end t y ys n) ∙ ap begins_end (sym e) ∙ ap begins_end (end_begins m).1))
same_rest t (x ∷ xs) [] m n table px py e = absurd (false≢true (sym (more_begins_no_end t x xs m) ∙ ap begins_end e ∙ ap begins_end (end_begins n).1))
same_rest t (x ∷ xs) (y ∷ ys) m n table px py e =
    let left = flat_map (certificate_text t) xs in
    let right = flat_map (certificate_text t) ys in
    let same = sym (append_assoc (certificate_text t x) left (end_text m)) ∙ e ∙ append_assoc (certificate_text t y) right (end_text n) in
    let of_x = certificate_reads_back t x 0 (left ++ end_text m) table px.0 (behind_no_part t xs m) in
    let of_y = certificate_reads_back t y 0 (right ++ end_text n) table py.0 (behind_no_part t ys n) in
    let read = ok_is _ _ (sym of_x ∙ ap (λ (r : List ℕ). certificate_at t (record { place = 0; rest = r })) same ∙ of_y) in
    let first : x ≡ y = ap (λ (z : Certificate × Cursor). z.0) read in
    let others = same_rest t xs ys m n table px.1 py.1 (ap (λ (z : Certificate × Cursor). z.1.rest) read) in
    ap (λ (z : Certificate). z ∷ xs) first ∙ ap (λ (zs : List Certificate). y ∷ zs) others

pub one_list : (t : DecisionTable) (bytes : List ℕ) (xs ys : List Certificate) → IsTable t → IsCertificatesText t bytes xs → IsCertificatesText t bytes ys → xs ≡ ys
one_list t bytes xs ys table a b = same_rest t xs ys (length xs) (length ys) table a.printable b.printable (append_cancel_left header_text _ _ (sym a.text ∙ b.text))
