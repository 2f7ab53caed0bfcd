-- The numbers of a list rise and stay below a bound, whatever is added, withdrawn and replaced.
use Rattle.std.proofs.Common.{◌≡◌, ◌⊎◌, inl, inr, ℕ, ◌+◌, ◌<◌, ◌≤◌, suc, Bool, List, [], ◌∷◌, ◌++◌, length, get_or, refl, ap, sym, subst, ◌∙◌, arith, append_assoc, length-append}
use Rattle.std.specs.Prelude.{◌==◌}
use Rattle.std.specs.List.{filter, All}
use Rattle.std.specs.List.Sorted.{IsStrictlyIncreasing}
use Rattle.std.proofs.lemmas.Bool.{cases_lt, cases_Bool, eqb-true}
use Rattle.std.proofs.lemmas.List.{append-nil, get_or_append_left, get_or_at, map-append}
use Rattle.std.proofs.lemmas.List.Elements.{All-filter}
use Rattle.std.proofs.lemmas.List.Kept.{IsStrictlyIncreasing-filter}
use Rattle.ror_statement.specs.declared.statement.Statement.{Statement}
use Rattle.ror_statement.specs.declared.statement.Numbered.{Numbered}
use Rattle.ror_history.specs.History.{addition, replacement, revised, with_numbers_from}
use Rattle.ror_statement.specs.Statements.{numbers_in}

-- the numbers rise, and all are below the bound
pub record Rise (ns : List ℕ) (bound : ℕ) : Type 0 where
  pub rising : IsStrictlyIncreasing ns
  pub below : All (λ n. n < bound) ns

pub Rise-none : (bound : ℕ) → Rise [] bound
Rise-none bound = record { rising = λ k within. absurd (omega arith); below = λ k d within. absurd (omega arith) }

pub Rise-more : (ns : List ℕ) (n : ℕ) → Rise ns n → Rise (ns ++ n ∷ []) (suc n)
Rise-more ns n h = record { rising = λ k within. rises k within (cases_lt (k + 1) (length ns)); below = λ k d within. falls k d within (cases_lt k (length ns)) }
  where
    rises : (k : ℕ) → k + 1 < length (ns ++ n ∷ []) → (k + 1 < length ns) ⊎ (length ns ≤ k + 1) → get_or (ns ++ n ∷ []) k 0 < get_or (ns ++ n ∷ []) (k + 1) 0
    rises k within (inl l) =
        let here = get_or_append_left ns (n ∷ []) 0 k (omega arith) in
        let next = get_or_append_left ns (n ∷ []) 0 (k + 1) l in
        let old = h.rising k l in
        omega arith
    rises k within (inr l) =
        let count = length-append ns (n ∷ []) in
        let l2 : k < length ns = omega arith in
        let here = get_or_append_left ns (n ∷ []) 0 k l2 in
        let place : length ns ≡ k + 1 = omega arith in
        let next = get_or_at ns n [] 0 (k + 1) place in
        let old = h.below k 0 l2 in
        omega arith

    falls : (k d : ℕ) → k < length (ns ++ n ∷ []) → (k < length ns) ⊎ (length ns ≤ k) → get_or (ns ++ n ∷ []) k d < suc n
    falls k d within (inl l) =
        let here = get_or_append_left ns (n ∷ []) d k l in
        let old = h.below k d l in
        omega arith
    falls k d within (inr l) =
        let count = length-append ns (n ∷ []) in
        let place : length ns ≡ k = omega arith in
        let here = get_or_at ns n [] d k place in
        omega arith

pub Rise-filter : (p : ℕ → Bool) (ns : List ℕ) (bound : ℕ) → Rise ns bound → Rise (filter p ns) bound
Rise-filter p ns bound h = record { rising = IsStrictlyIncreasing-filter p ns h.rising; below = All-filter p (λ n. n < bound) ns h.below }

-- ---- each revision

pub numbers-added : (list : List Numbered) (n : ℕ) (s : Statement) → numbers_in (revised list (addition n s)) ≡ numbers_in list ++ n ∷ []
numbers-added list n s = map-append (λ (x : Numbered). x.number) list (record { number = n; statement = s } ∷ [])

pub numbers-kept : (p : ℕ → Bool) (list : List Numbered) → numbers_in (filter (λ x. p x.number) list) ≡ filter p (numbers_in list)
numbers-kept p [] = refl
numbers-kept p (x ∷ list) = elim (cases_Bool (p x.number)) [
  | inl yes_ ↦ rw (yes_) (ap (λ more. x.number ∷ more) (numbers-kept p list))
  | inr no_ ↦ rw (no_) (numbers-kept p list)
]

pub numbers-replaced : (list : List Numbered) (n : ℕ) (s : Statement) → numbers_in (revised list (replacement n s)) ≡ numbers_in list
numbers-replaced [] n s = refl
numbers-replaced (x ∷ list) n s = elim (cases_Bool (x.number == n)) [
  | inl same ↦ let e : n ≡ x.number = sym (eqb-true x.number n same) in rw same (ap (λ more. n ∷ more) (numbers-replaced list n s) ∙ ap (λ k. k ∷ numbers_in list) e)
  | inr other ↦ rw other (ap (λ more. x.number ∷ more) (numbers-replaced list n s))
]

-- ---- the opening list

pub Rise-numbered : (ns : List ℕ) (n : ℕ) (ss : List Statement) → Rise ns n → Rise (ns ++ numbers_in (with_numbers_from n ss)) (n + length ss)
Rise-numbered ns n [] h = let e : n ≡ n + 0 = omega arith in rw append-nil (subst (Rise ns) e h)
Rise-numbered ns n (s ∷ ss) h =
    let e : suc n + length ss ≡ n + suc (length ss) = omega arith in
    let more = Rise-numbered (ns ++ n ∷ []) (suc n) ss (Rise-more ns n h) in
    subst (Rise (ns ++ n ∷ numbers_in (with_numbers_from (suc n) ss))) e (subst (λ xs. Rise xs (suc n + length ss)) (append_assoc ns (n ∷ []) (numbers_in (with_numbers_from (suc n) ss))) more)

pub Rise-opening : (opening : List Statement) → Rise (numbers_in (with_numbers_from 1 opening)) (1 + length opening)
Rise-opening opening = Rise-numbered [] 1 opening (Rise-none 1)
