-- The numbers of a standing list rise, where each addition has the number that was next when it came.
use Rattle.std.proofs.Common.{◌≡◌, ◌⊎◌, inl, inr, ℕ, ◌+◌, suc, max, not, nat_eq, List, [], ◌∷◌, ◌++◌, length, refl, ap, sym, subst, ◌∙◌, arith, append_assoc}
use Rattle.std.specs.List.{fold, filter}
use Rattle.std.specs.Set.{is_member}
use Rattle.std.proofs.lemmas.List.{append-nil}
use Rattle.std.proofs.lemmas.List.Sums.{fold-append}
use Rattle.ror_statement.specs.declared.statement.Statement.{Statement}
use Rattle.ror_history.specs.History.{Revision, addition, withdrawal, replacement, Revisions, revised, with_numbers_from, added_numbers, standing, next_number, with_revision}
use Rattle.ror_statement.specs.Statements.{numbers_in}
use Rattle.ror_history.specs.Laws.{AreNumberedInTurn}
use Rattle.ror_history.proofs.HistoryLemmas.{greatest}
use Rattle.ror_history.proofs.RisingLemmas.{Rise, Rise-more, Rise-filter, numbers-added, numbers-kept, numbers-replaced, Rise-opening}

abbrev pub made : List Statement → List Revision → Revisions
made opening surviving = record { opening = opening; surviving = surviving }

-- ---- one revision more

pub standing-more : (opening : List Statement) (before : List Revision) (x : Revision) → standing (made opening (before ++ x ∷ [])) ≡ revised (standing (made opening before)) x
standing-more opening before x = fold-append revised (with_numbers_from 1 opening) before (x ∷ [])

pub added_numbers-append : (xs ys : List Revision) → added_numbers (xs ++ ys) ≡ added_numbers xs ++ added_numbers ys
added_numbers-append [] ys = refl
added_numbers-append (addition n s ∷ xs) ys = ap (λ ns. n ∷ ns) (added_numbers-append xs ys)
added_numbers-append (withdrawal ns ∷ xs) ys = added_numbers-append xs ys
added_numbers-append (replacement n s ∷ xs) ys = added_numbers-append xs ys

pub next_number-more : (opening : List Statement) (before : List Revision) (x : Revision) → next_number (made opening (before ++ x ∷ [])) ≡ 1 + fold max (fold max 0 (numbers_in (with_numbers_from 1 opening) ++ added_numbers before)) (added_numbers (x ∷ []))
next_number-more opening before x =
    let first = numbers_in (with_numbers_from 1 opening) in
    let grown : first ++ added_numbers (before ++ x ∷ []) ≡ (first ++ added_numbers before) ++ added_numbers (x ∷ []) =
    ap (λ ns. first ++ ns) (added_numbers-append before (x ∷ [])) ∙ sym (append_assoc first (added_numbers before) (added_numbers (x ∷ []))) in
    ap (λ ns. 1 + fold max 0 ns) grown ∙ ap (λ n. 1 + n) (fold-append max 0 (first ++ added_numbers before) (added_numbers (x ∷ [])))

pub next_number-added : (opening : List Statement) (before : List Revision) (n : ℕ) (s : Statement) → n ≡ next_number (made opening before) → next_number (made opening (before ++ addition n s ∷ [])) ≡ suc n
next_number-added opening before n s e =
    let m = fold max 0 (numbers_in (with_numbers_from 1 opening) ++ added_numbers before) in
    let last : 1 + max m n ≡ suc n = omega (arith, e) in
    next_number-more opening before (addition n s) ∙ last

rise_step : (opening : List Statement) (before : List Revision) (x : Revision) → ((n : ℕ) (s : Statement) → x ≡ addition n s → n ≡ next_number (made opening before)) → Rise (numbers_in (standing (made opening before))) (next_number (made opening before)) → Rise (numbers_in (standing (made opening (before ++ x ∷ [])))) (next_number (made opening (before ++ x ∷ [])))
rise_step opening before (addition n s) turn h =
    let e = turn n s refl in
    let list = standing (made opening before) in
    let grown : numbers_in list ++ n ∷ [] ≡ numbers_in (standing (made opening (before ++ addition n s ∷ []))) = sym (ap numbers_in (standing-more opening before (addition n s)) ∙ numbers-added list n s) in
    let old : Rise (numbers_in list) n = subst (Rise (numbers_in list)) (sym e) h in
    subst (λ ns. Rise ns (next_number (made opening (before ++ addition n s ∷ [])))) grown (subst (Rise (numbers_in list ++ n ∷ [])) (sym (next_number-added opening before n s e)) (Rise-more (numbers_in list) n old))
rise_step opening before (withdrawal ns) turn h =
    let list = standing (made opening before) in
    let kept = λ (n : ℕ). not (is_member nat_eq ns n) in
    let left : filter kept (numbers_in list) ≡ numbers_in (standing (made opening (before ++ withdrawal ns ∷ []))) = sym (ap numbers_in (standing-more opening before (withdrawal ns)) ∙ numbers-kept kept list) in
    subst (λ xs. Rise xs (next_number (made opening (before ++ withdrawal ns ∷ [])))) left (subst (Rise (filter kept (numbers_in list))) (sym (next_number-more opening before (withdrawal ns))) (Rise-filter kept (numbers_in list) (next_number (made opening before)) h))
rise_step opening before (replacement n s) turn h =
    let list = standing (made opening before) in
    let same : numbers_in list ≡ numbers_in (standing (made opening (before ++ replacement n s ∷ []))) = sym (ap numbers_in (standing-more opening before (replacement n s)) ∙ numbers-replaced list n s) in
    subst (λ xs. Rise xs (next_number (made opening (before ++ replacement n s ∷ [])))) same (subst (Rise (numbers_in list)) (sym (next_number-more opening before (replacement n s))) h)

-- ---- all revisions

rise_after : (opening : List Statement) (before rest : List Revision) → AreNumberedInTurn (made opening (before ++ rest)) → Rise (numbers_in (standing (made opening before))) (next_number (made opening before)) → Rise (numbers_in (standing (made opening (before ++ rest)))) (next_number (made opening (before ++ rest)))
rise_after opening before [] turn h = subst (λ xs. Rise (numbers_in (standing (made opening xs))) (next_number (made opening xs))) (sym (append-nil before)) h
rise_after opening before (x ∷ rest) turn h =
    let split : (before ++ x ∷ []) ++ rest ≡ before ++ x ∷ rest = append_assoc before (x ∷ []) rest in
    let here = rise_step opening before x (λ n s e. turn before n s rest (ap (λ y. before ++ y ∷ rest) e)) h in
    let turn2 : AreNumberedInTurn (made opening ((before ++ x ∷ []) ++ rest)) = subst (λ xs. AreNumberedInTurn (made opening xs)) (sym split) turn in
    subst (λ xs. Rise (numbers_in (standing (made opening xs))) (next_number (made opening xs))) split (rise_after opening (before ++ x ∷ []) rest turn2 here)

pub next_number-first : (opening : List Statement) → next_number (made opening []) ≡ 1 + length opening
next_number-first opening =
    let whole : numbers_in (with_numbers_from 1 opening) ++ [] ≡ numbers_in (with_numbers_from 1 opening) = append-nil (numbers_in (with_numbers_from 1 opening)) in
    let count : 0 + length opening ≡ length opening = omega arith in
    ap (λ ns. 1 + fold max 0 ns) whole ∙ ap (λ n. 1 + n) (greatest 0 opening ∙ count)

pub numbers_rise : (r : Revisions) → AreNumberedInTurn r → Rise (numbers_in (standing r)) (next_number r)
numbers_rise r turn = rise_after r.opening [] r.surviving turn (subst (Rise (numbers_in (with_numbers_from 1 r.opening))) (sym (next_number-first r.opening)) (Rise-opening r.opening))

-- ---- numbered in turn

pub first_turn : (opening : List Statement) → AreNumberedInTurn (made opening [])
first_turn opening [] n s after e = absurd cc
first_turn opening (x ∷ before) n s after e = absurd cc

-- where a list that ends with x is cut at a place: there, or before
cut_last : (xs : List Revision) (x : Revision) (before : List Revision) (y : Revision) (after : List Revision) → xs ++ x ∷ [] ≡ before ++ y ∷ after → ((xs ≡ before) × (x ≡ y)) ⊎ ((rest : List Revision) × (xs ≡ before ++ y ∷ rest))
cut_last [] x [] y after e = inl (refl, cc)
cut_last [] x (b ∷ []) y after e = absurd cc
cut_last [] x (b ∷ c ∷ before) y after e = absurd cc
cut_last (a ∷ xs) x [] y after e = let same : a ≡ y = cc in inr (xs, ap (λ z. z ∷ xs) same)
cut_last (a ∷ xs) x (b ∷ before) y after e =
    let head : a ≡ b = cc in
    let tail : xs ++ x ∷ [] ≡ before ++ y ∷ after = cc in
    elim (cut_last xs x before y after tail) [
      | inl here ↦ let same = here.0 in inl (cc, here.1)
      | inr found ↦ let same = found.1 in inr (found.0, cc)
    ]

-- a revision that adds no statement, or one with the next number, keeps the turn
pub turn_more : (r : Revisions) (x : Revision) → ((n : ℕ) (s : Statement) → x ≡ addition n s → n ≡ next_number r) → AreNumberedInTurn r → AreNumberedInTurn (with_revision r x)
turn_more r x own turn before n t after e = elim (cut_last r.surviving x before (addition n t) after e) [
  | inl here ↦ own n t here.1 ∙ ap (λ xs. next_number (made r.opening xs)) here.0
  | inr found ↦ turn before n t found.0 found.1
]

pub turn_kept : (r : Revisions) (s : Statement) → AreNumberedInTurn r → AreNumberedInTurn (with_revision r (addition (next_number r) s))
turn_kept r s turn before n t after e = elim (cut_last r.surviving (addition (next_number r) s) before (addition n t) after e) [
  | inl here ↦ let same : next_number r ≡ n = let f = here.1 in cc in sym same ∙ ap (λ xs. next_number (made r.opening xs)) here.0
  | inr found ↦ turn before n t found.0 found.1
]

pub one_more : (r : Revisions) (s : Statement) → next_number (with_revision r (addition (next_number r) s)) ≡ 1 + next_number r
one_more r s = next_number-added r.opening r.surviving (next_number r) s refl ∙ (let e : suc (next_number r) ≡ 1 + next_number r = omega arith in e)

pub withdrawn_stays : (r : Revisions) (ns : List ℕ) → next_number (with_revision r (withdrawal ns)) ≡ next_number r
withdrawn_stays r ns = next_number-more r.opening r.surviving (withdrawal ns)

pub replaced_stays : (r : Revisions) (n : ℕ) (s : Statement) → next_number (with_revision r (replacement n s)) ≡ next_number r
replaced_stays r n s = next_number-more r.opening r.surviving (replacement n s)
