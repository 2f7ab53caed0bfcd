-- A text of certificates is read exactly where it is one.
use Rattle.std.proofs.Common.{◌≡◌, ◌⊎◌, inl, inr, ℕ, zero, suc, ◌+◌, ◌-◌, ◌<◌, ◌≤◌, ◌^◌, Bool, true, false, not, eqb, List, [], ◌∷◌, ◌++◌, length, drop, Option, Some, None, Result, Ok, Err, refl, sym, ap, subst, ◌∙◌, append_assoc, length-append, arith}
use Rattle.std.specs.Prelude.{nat_eq, nat_lt, ◌↔◌, ◌||◌, ◌&&◌}
use Rattle.std.specs.List.{AllByRecursion, flat_map, starts_with}
use Rattle.std.specs.Str.{IsUtf8, is_utf8}
use Rattle.std.proofs.lemmas.Bool.{cases_Bool, eqb-true, not-false, leb-true, le-leb}
use Rattle.std.proofs.lemmas.Bool.Decides.{Decides-eqb}
use Rattle.std.proofs.lemmas.Slice.Eq.{starts_is}
use Rattle.std.proofs.lemmas.Str.{is_utf8-from_IsUtf8}
use Rattle.std.proofs.Math.Seq.{drop-append_seam}
use Rattle.ror_text.specs.Cursor.{Cursor, cursor_at}
use Rattle.ror_text.specs.Reading.{◌>>=◌, refuse}
use Rattle.ror_text.proofs.ReadingLemmas.{bind_ok, refuse_ok}
use Rattle.ror_table.specs.Table.{DecisionTable, IsTable}
use Rattle.ror_proof.specs.declared.read.ProofFault.{ProofFault}
use Rattle.ror_report.specs.Reading.{begins_end, end_at}
use Rattle.ror_report.specs.Text.{end_text}
use Rattle.ror_report.proofs.LineForms.{end_begins}
use Rattle.ror_report.proofs.ReportLemmas.{end_is_text, end_reads_back}
use Rattle.ror_show_forms.specs.declared.certificate.Certificate.{Certificate}
use Rattle.ror_show_forms.specs.Reading.{certificate_at}
use Rattle.ror_show_forms.specs.CertificateText.{header_text, certificate_text, IsPrintableCertificate, AreInOrder, IsCertificatesText}
use Rattle.ror_show_forms.proofs.CertificateLemmas.{certificate_is_text, certificate_reads_back, certificate_begins}
use Rattle.ror_show_forms.proofs.ListLemmas.{behind_no_part, begins_no_end}
use Rattle.ror_show_forms.proofs.Utf8Lemmas.{text_is_utf8}
use Rattle.ror_bench.specs.declared.report.Reason.TheVariants as reasons
use Rattle.ror_bench.specs.declared.report.Rejection.{Rejection}
use Rattle.ror_show_forms.specs.Listing.{at_block, in_block, comes_after, next_at, last_at, listed_at, certificates_of}
use Rattle.ror_show_forms.proofs.ListLoops.{listed_step, listed_last}

-- ---- results

abbrev done : {A : Type 0} → A → Result A Rejection
done x = Ok x

one_ok : {A : Type 0} (x y : A) → done x ≡ done y → x ≡ y
one_ok x y e = cc

read_in : {A : Type 0} (bytes : List ℕ) (block : ℕ) (reading : Result A ProofFault) (x : A) → in_block bytes block reading ≡ Ok x → reading ≡ Ok x
read_in {A} bytes block (Ok y) x e = ap (λ (z : A). Ok z) (one_ok y x e)
read_in {A} bytes block (Err f) x e = absurd cc

eqb_same : (n : ℕ) → eqb n n ≡ true
eqb_same n = (Decides-eqb n n).1 refl

-- ---- the order

abbrev place_of : Certificate → Option (ℕ × ℕ)
place_of x = Some (x.line, x.place)

-- each stands behind the one before, and the first behind this
abbrev AreBehind : Option (ℕ × ℕ) → List Certificate → Type 0
AreBehind last [] = Unit {0}
AreBehind last (x ∷ xs) = (comes_after last x.line x.place ≡ true) × AreBehind (place_of x) xs

before_of : (a b c d : ℕ) → (nat_lt a c || (eqb a c && nat_lt b d)) ≡ true → (a < c) ⊎ ((a ≡ c) × (b < d))
before_of a b c d is = by (nat_lt a c) (eqb a c) (nat_lt b d) refl refl refl is
  where
    by : (p q r : Bool) → nat_lt a c ≡ p → eqb a c ≡ q → nat_lt b d ≡ r → (p || (q && r)) ≡ true → (a < c) ⊎ ((a ≡ c) × (b < d))
    by true q r e f g is = inl (leb-true (suc a) c e)
    by false true true e f g is = inr (eqb-true a c f, leb-true (suc b) d g)
    by false true false e f g is = absurd cc
    by false false r e f g is = absurd cc

of_before : (a b c d : ℕ) → (a < c) ⊎ ((a ≡ c) × (b < d)) → (nat_lt a c || (eqb a c && nat_lt b d)) ≡ true
of_before a b c d (inl less) = rw (le-leb (suc a) c less) refl
of_before a b c d (inr same) = by (nat_lt a c)
  where
    by : (p : Bool) → (p || (eqb a c && nat_lt b d)) ≡ true
    by true = refl
    by false = rw (ap (λ (n : ℕ). eqb a n) (sym same.0) ∙ eqb_same a, le-leb (suc b) d same.1) refl

in_order : (last : Option (ℕ × ℕ)) (xs : List Certificate) → AreBehind last xs → AreInOrder xs
in_order last [] are = tt
in_order last (x ∷ []) are = tt
in_order last (x ∷ y ∷ xs) are = (before_of x.line x.place y.line y.place are.1.0, in_order (place_of x) (y ∷ xs) are.1)

behind : (x : Certificate) (xs : List Certificate) → AreInOrder (x ∷ xs) → AreBehind (place_of x) xs
behind x [] are = tt
behind x (y ∷ xs) are = (of_before x.line x.place y.line y.place are.0, behind y xs are.1)

all_behind : (xs : List Certificate) → AreInOrder xs → AreBehind None xs
all_behind [] are = tt
all_behind (x ∷ xs) are = (refl, behind x xs are)

-- ---- the next certificate, and the last line

next_is : (t : DecisionTable) (bytes : List ℕ) (block : ℕ) (last : Option (ℕ × ℕ)) (c : Cursor) (x : Certificate × Cursor) → next_at t bytes block last c ≡ Ok x → (certificate_at t c ≡ Ok x) × (comes_after last x.0.line x.0.place ≡ true)
unfolding next_at
next_is t bytes block last c x e =
    let wrong = at_block block reasons.WrongBlock in
    let a = bind_ok (in_block bytes block (certificate_at t c)) (λ found. refuse wrong (not (comes_after last found.0.line found.0.place)) >>= λ _. done found) x e in
    let b = bind_ok (refuse wrong (not (comes_after last a.0.0.line a.0.0.place))) (λ _. done a.0) x a.2 in
    let same = one_ok a.0 x b.2 in
    (read_in bytes block (certificate_at t c) a.0 a.1 ∙ ap (λ (y : Certificate × Cursor). Ok y) same, ap (λ (y : Certificate × Cursor). comes_after last y.0.line y.0.place) (sym same) ∙ not-false _ (refuse_ok _ _ b.0 b.1))

next_again : (t : DecisionTable) (bytes : List ℕ) (block : ℕ) (last : Option (ℕ × ℕ)) (c : Cursor) (x : Certificate × Cursor) → certificate_at t c ≡ Ok x → comes_after last x.0.line x.0.place ≡ true → next_at t bytes block last c ≡ Ok x
unfolding next_at
next_again t bytes block last c x read after = rw (read, after) refl

last_is : (bytes : List ℕ) (block : ℕ) (c : Cursor) (u : Unit {0}) → last_at bytes block c ≡ Ok u → end_at c ≡ Ok (block - 1)
unfolding last_at
last_is bytes block c u e =
    let wrong = at_block block reasons.WrongBlock in
    let a = bind_ok (in_block bytes block (end_at c)) (λ count. refuse wrong (not (eqb count (block - 1)))) u e in
    let same : a.0 ≡ block - 1 = eqb-true _ _ (not-false _ (refuse_ok _ _ u a.2)) in
    read_in bytes block (end_at c) a.0 a.1 ∙ ap (λ (n : ℕ). Ok n) same

last_again : (bytes : List ℕ) (block : ℕ) (c : Cursor) → end_at c ≡ Ok (block - 1) → last_at bytes block c ≡ Ok tt
unfolding last_at
last_again bytes block c read = rw (read, eqb_same (block - 1)) refl

-- ---- the list

-- what is read of a list
record IsListed (t : DecisionTable) (block : ℕ) (last : Option (ℕ × ℕ)) (c : Cursor) (xs : List Certificate) : Type 0 where
  text : c.rest ≡ flat_map (certificate_text t) xs ++ end_text (block - 1 + length xs)
  printable : AllByRecursion (IsPrintableCertificate t) xs
  order : AreBehind last xs

none_left : (t : DecisionTable) (bytes : List ℕ) (block : ℕ) (last : Option (ℕ × ℕ)) (c : Cursor) (xs : List Certificate) → listed_at t bytes zero block last c ≡ Ok xs → ⊥
unfolding listed_at
none_left t bytes block last c xs e = cc

listed_is : (t : DecisionTable) (bytes : List ℕ) (most block : ℕ) (last : Option (ℕ × ℕ)) (c : Cursor) (xs : List Certificate) → 0 < block → listed_at t bytes most block last c ≡ Ok xs → IsListed t block last c xs
listed_is t bytes zero block last c xs some e = absurd (none_left t bytes block last c xs e)
listed_is t bytes (suc most) block last c xs some e =
    elim (cases_Bool (begins_end c.rest)) [
      | inl ends ↦
          let a = bind_ok (last_at bytes block c) (λ _. done []) xs (sym (listed_last t bytes most block last c ends) ∙ e) in
          let read = end_is_text c (block - 1) (last_is bytes block c a.0 a.1) in
          let count : block - 1 ≡ block - 1 + 0 = omega arith in
          subst (IsListed t block last c) (one_ok [] xs a.2) (record { text = read.0 ∙ ap end_text count; printable = tt; order = tt })
      | inr more ↦
          let a = bind_ok (next_at t bytes block last c) (λ first. listed_at t bytes most (block + 1) (Some (first.0.line, first.0.place)) first.1 >>= λ others. done (first.0 ∷ others)) xs (sym (listed_step t bytes most block last c more) ∙ e) in
          let b = bind_ok (listed_at t bytes most (block + 1) (Some (a.0.0.line, a.0.0.place)) a.0.1) (λ others. done (a.0.0 ∷ others)) xs a.2 in
          let next = next_is t bytes block last c a.0 a.1 in
          let first = certificate_is_text t c a.0.0 a.0.1 next.0 in
          let others = listed_is t bytes most (block + 1) (Some (a.0.0.line, a.0.0.place)) a.0.1 b.0 (omega arith) b.1 in
          let count : block + 1 - 1 + length b.0 ≡ block - 1 + suc (length b.0) = omega (arith, some) in
          let one = certificate_text t a.0.0 in
          let rest = flat_map (certificate_text t) b.0 in
          let text : c.rest ≡ (one ++ rest) ++ end_text (block - 1 + suc (length b.0)) =
          first.text ∙ ap (λ (l : List ℕ). one ++ l) (others.text ∙ ap (λ (n : ℕ). rest ++ end_text n) count) ∙ sym (append_assoc one rest (end_text (block - 1 + suc (length b.0)))) in
          subst (IsListed t block last c) (one_ok (a.0.0 ∷ b.0) xs b.2) (record { text = text; printable = (first.printable, others.printable); order = (next.1, others.order) })
    ]

listed_again : (t : DecisionTable) (bytes : List ℕ) (most block place : ℕ) (last : Option (ℕ × ℕ)) (xs : List Certificate) → IsTable t → 0 < block → length xs < most → block - 1 + length xs < 2 ^ 32 → AllByRecursion (IsPrintableCertificate t) xs → AreBehind last xs
    → listed_at t bytes most block last (record { place = place; rest = flat_map (certificate_text t) xs ++ end_text (block - 1 + length xs) }) ≡ Ok xs
listed_again t bytes zero block place last xs table some room few printable order = absurd (omega arith)
listed_again t bytes (suc most) block place last [] table some room few printable order =
    let count : block - 1 + 0 ≡ block - 1 = omega arith in
    let c : Cursor = record { place = place; rest = end_text (block - 1 + 0) } in
    let ends : begins_end (end_text (block - 1 + 0)) ≡ true = ap begins_end (end_begins (block - 1 + 0)).1 in
    let read : end_at c ≡ Ok (block - 1) = end_reads_back place (block - 1 + 0) few ∙ ap (λ (n : ℕ). Ok n) count in
    listed_last t bytes most block last c ends ∙ rw (last_again bytes block c read) refl
listed_again t bytes (suc most) block place last (x ∷ xs) table some room few printable order =
    let one = certificate_text t x in
    let rest = flat_map (certificate_text t) xs in
    let end = end_text (block - 1 + suc (length xs)) in
    let count : block + 1 - 1 + length xs ≡ block - 1 + suc (length xs) = omega (arith, some) in
    let c : Cursor = record { place = place; rest = (one ++ rest) ++ end } in
    let regrouped : (one ++ rest) ++ end ≡ one ++ (rest ++ end) = append_assoc one rest end in
    let more : begins_end c.rest ≡ false = ap begins_end regrouped ∙ begins_no_end t x (rest ++ end) in
    let first : certificate_at t c ≡ Ok (x, record { place = place + length one; rest = rest ++ end }) = ap (λ (r : List ℕ). certificate_at t (record { place = place; rest = r })) regrouped ∙ certificate_reads_back t x place (rest ++ end) table printable.0 (behind_no_part t xs (block - 1 + suc (length xs))) in
    let next = next_again t bytes block last c (x, record { place = place + length one; rest = rest ++ end }) first order.0 in
    let later : listed_at t bytes most (block + 1) (Some (x.line, x.place)) (record { place = place + length one; rest = rest ++ end }) ≡ Ok xs =
    ap (λ (n : ℕ). listed_at t bytes most (block + 1) (Some (x.line, x.place)) (record { place = place + length one; rest = rest ++ end_text n })) (sym count)
    ∙ listed_again t bytes most (block + 1) (place + length one) (Some (x.line, x.place)) xs table (omega arith) (omega (arith, room)) (omega (arith, count, few)) printable.1 order.1 in
    listed_step t bytes most block last c more ∙ rw (next, later) refl

-- ---- the whole text

certificate_has_bytes : (t : DecisionTable) (x : Certificate) → 0 < length (certificate_text t x)
certificate_has_bytes t x = let begins = certificate_begins t x in omega (arith, ap length begins.1)

certificates_have_bytes : (t : DecisionTable) (xs : List Certificate) → length xs ≤ length (flat_map (certificate_text t) xs)
certificates_have_bytes t [] = omega arith
certificates_have_bytes t (x ∷ xs) = omega (arith, certificates_have_bytes t xs, certificate_has_bytes t x, length-append (certificate_text t x) (flat_map (certificate_text t) xs))

pub text_has_bytes : (t : DecisionTable) (bytes : List ℕ) (xs : List Certificate) → IsCertificatesText t bytes xs → length xs ≤ length bytes
text_has_bytes t bytes xs is =
    let all = flat_map (certificate_text t) xs in
    let whole = ap length is.text ∙ length-append header_text (all ++ end_text (length xs)) in
    omega (arith, whole, length-append all (end_text (length xs)), certificates_have_bytes t xs)

header_cut : (rest : List ℕ) → cursor_at (header_text ++ rest) (length header_text) ≡ record { place = length header_text; rest = rest }
header_cut rest = ap (λ (l : List ℕ). record { place = length header_text; rest = l }) (drop-append_seam header_text rest)

begins_again : (rest : List ℕ) → starts_with nat_eq (header_text ++ rest) header_text ≡ true
begins_again rest = (starts_is Decides-eqb (header_text ++ rest) header_text (starts_with nat_eq (header_text ++ rest) header_text) refl).1 rest refl

begins_is : (bytes : List ℕ) → starts_with nat_eq bytes header_text ≡ true → bytes ≡ header_text ++ drop (length header_text) bytes
begins_is bytes begins = (starts_is Decides-eqb bytes header_text (starts_with nat_eq bytes header_text) refl).0 begins

from_one : (xs : List Certificate) → 1 - 1 + length xs ≡ length xs
from_one xs = omega arith

pub text_of_read : (t : DecisionTable) (bytes : List ℕ) (xs : List Certificate) → certificates_of t bytes ≡ Ok xs → IsCertificatesText t bytes xs
unfolding certificates_of
text_of_read t bytes xs e =
    let first = refuse (at_block 0 reasons.NotUtf8) (not (is_utf8 bytes)) in
    let second = refuse (at_block 0 (reasons.BadLine 1)) (not (starts_with nat_eq bytes header_text)) in
    let start = cursor_at bytes (length header_text) in
    let a = bind_ok first (λ _. second >>= λ _. listed_at t bytes (suc (length bytes)) 1 None start) xs e in
    let b = bind_ok second (λ _. listed_at t bytes (suc (length bytes)) 1 None start) xs a.2 in
    let listed = listed_is t bytes (suc (length bytes)) 1 None start xs (omega arith) b.2 in
    let begins = begins_is bytes (not-false _ (refuse_ok _ _ b.0 b.1)) in
    record { text = begins ∙ ap (λ (l : List ℕ). header_text ++ l) (listed.text ∙ ap (λ (n : ℕ). flat_map (certificate_text t) xs ++ end_text n) (from_one xs)); printable = listed.printable; in_order = in_order None xs listed.order }

read_of_made : (t : DecisionTable) (rest : List ℕ) (xs : List Certificate) → is_utf8 (header_text ++ rest) ≡ true → listed_at t (header_text ++ rest) (suc (length (header_text ++ rest))) 1 None (record { place = length header_text; rest = rest }) ≡ Ok xs → certificates_of t (header_text ++ rest) ≡ Ok xs
unfolding certificates_of
read_of_made t rest xs utf8 listed = rw (utf8, begins_again rest, header_cut rest) listed

pub read_of_text : (t : DecisionTable) (bytes : List ℕ) (xs : List Certificate) → IsTable t → length bytes < 2 ^ 32 - 1 → IsCertificatesText t bytes xs → certificates_of t bytes ≡ Ok xs
read_of_text t bytes xs table short is =
    let rest = flat_map (certificate_text t) xs ++ end_text (length xs) in
    let many = text_has_bytes t bytes xs is in
    let long = ap length is.text in
    let utf8 : IsUtf8 bytes = text_is_utf8 t bytes xs table is (omega (arith, many, short)) in
    let listed = listed_again t (header_text ++ rest) (suc (length (header_text ++ rest))) 1 (length header_text) None xs table (omega arith) (omega (arith, many, long)) (omega (arith, many, short)) is.printable (all_behind xs is.in_order) in
    let whole = ap (λ (n : ℕ). listed_at t (header_text ++ rest) (suc (length (header_text ++ rest))) 1 None (record { place = length header_text; rest = flat_map (certificate_text t) xs ++ end_text n })) (sym (from_one xs)) ∙ listed in
    ap (certificates_of t) is.text ∙ read_of_made t rest xs (is_utf8-from_IsUtf8 (header_text ++ rest) (subst IsUtf8 is.text utf8)) whole

pub texts_are_read : (t : DecisionTable) (bytes : List ℕ) (xs : List Certificate) → IsTable t → length bytes < 2 ^ 32 - 1 → (certificates_of t bytes ≡ Ok xs) ↔ IsCertificatesText t bytes xs
texts_are_read t bytes xs table short = (text_of_read t bytes xs, read_of_text t bytes xs table short)
