-- The levels that so many passes find, and how many alternatives are left without one.
use Rattle.std.proofs.Common.{◌≡◌, ◌≢◌, ℕ, zero, suc, ◌+◌, ◌-◌, ◌<◌, ◌≤◌, Bool, true, false, List, [], ◌∷◌, length, Option, Some, None, refl, sym, ap, ◌∙◌, arith, inl, inr, subst, cond}
use Rattle.std.specs.Prelude.{◌⊎◌, is_none, count_by, replicate, if◌then◌else◌}
use Rattle.std.proofs.lemmas.List.{get_or_past, length-replicate}
use Rattle.std.proofs.lemmas.List.Sums.{sum_by-cons}
use Rattle.std.proofs.lemmas.List.FromFn.{length-map-range_with_len, get_or-map-range_with_len}
use Rattle.ror_show_find_relation.specs.Relations.{Square, above, IsAbove, some_below}
use Rattle.ror_show_find_relation.specs.Levels.{level_at, IsBefore, HasAbove, IsInLevel, AreLevels}
use Rattle.ror_show_find_relation.specs.Passes.{is_open_above, first_level, next_level, next_levels}
use Rattle.ror_show_ground.proofs.Tests.{less_or, both-true}
use Rattle.ror_show_find_relation.proofs.Below.{some_there, some_found}
use Rattle.ror_show_find_relation.proofs.Parts.{above-there}

abbrev pub Levels : Type 0
Levels = List (Option ℕ)

abbrev pub left : Levels → ℕ
left found = count_by is_none found

-- ---- how many are left

left-none : (xs : Levels) → left (None ∷ xs) ≡ 1 + left xs
left-none xs = sum_by-cons (λ x. cond (is_none x) 1 0) None xs

left-some : (k : ℕ) (xs : Levels) → left (Some k ∷ xs) ≡ left xs
left-some k xs = let e = sum_by-cons (λ x. cond (is_none x) 1 0) (Some k) xs in omega (arith, e)

-- where each level stays, no more are left
pub left-falls : (xs ys : Levels) → length xs ≡ length ys → ((i k : ℕ) → level_at xs i ≡ Some k → level_at ys i ≡ Some k) → left ys ≤ left xs
left-falls [] [] same stay = omega arith
left-falls [] (y ∷ ys) same stay = absurd (omega arith)
left-falls (x ∷ xs) [] same stay = absurd (omega arith)
left-falls (x ∷ xs) (y ∷ ys) same stay = by x y (stay 0) (left-falls xs ys (omega arith) (λ i k. stay (suc i) k))
  where
    by : (x y : Option ℕ) → ((k : ℕ) → x ≡ Some k → y ≡ Some k) → left ys ≤ left xs → left (y ∷ ys) ≤ left (x ∷ xs)
    by None None here rest = let e = left-none xs in let f = left-none ys in omega (arith, rest)
    by None (Some k) here rest = let e = left-none xs in let f = left-some k ys in omega (arith, rest)
    by (Some k) None here rest = let e = here k refl in absurd cc
    by (Some k) (Some j) here rest = let e = left-some k xs in let f = left-some j ys in omega (arith, rest)

-- and where as many are left, it is the same ones
pub left-same : (xs ys : Levels) → length xs ≡ length ys → ((i k : ℕ) → level_at xs i ≡ Some k → level_at ys i ≡ Some k) → left ys ≡ left xs → (i : ℕ) → level_at xs i ≡ None → level_at ys i ≡ None
left-same [] [] same stay as_many i none = refl
left-same [] (y ∷ ys) same stay as_many i none = absurd (omega arith)
left-same (x ∷ xs) [] same stay as_many i none = absurd (omega arith)
left-same (x ∷ xs) (y ∷ ys) same stay as_many i none = by x y (stay 0) as_many i none (left-falls xs ys (omega arith) (λ i k. stay (suc i) k)) (left-same xs ys (omega arith) (λ i k. stay (suc i) k))
  where
    by : (x y : Option ℕ) → ((k : ℕ) → x ≡ Some k → y ≡ Some k) → left (y ∷ ys) ≡ left (x ∷ xs) → (i : ℕ) → level_at (x ∷ xs) i ≡ None → left ys ≤ left xs → (left ys ≡ left xs → (i : ℕ) → level_at xs i ≡ None → level_at ys i ≡ None) → level_at (y ∷ ys) i ≡ None
    by None None here as_many zero none falls rest = refl
    by None None here as_many (suc i) none falls rest = let e = left-none xs in let f = left-none ys in rest (omega arith) i none
    by None (Some k) here as_many i none falls rest = let e = left-none xs in let f = left-some k ys in absurd (omega arith)
    by (Some k) None here as_many i none falls rest = let e = here k refl in absurd cc
    by (Some k) (Some j) here as_many zero none falls rest = absurd cc
    by (Some k) (Some j) here as_many (suc i) none falls rest = let e = left-some k xs in let f = left-some j ys in rest (omega arith) i none

-- where none is left, each has a level
pub none-left : (xs : Levels) (i : ℕ) → left xs ≡ 0 → i < length xs → level_at xs i ≡ None → ⊥
none-left [] i all within none = omega arith
none-left (None ∷ xs) i all within none = let e = left-none xs in omega arith
none-left (Some k ∷ xs) zero all within none = cc
none-left (Some k ∷ xs) (suc i) all within none = let e = left-some k xs in none-left xs i (omega arith) (omega arith) none

pub all-left : (n : ℕ) → left (replicate n None) ≡ n
all-left zero = refl
all-left (suc n) = let rest = all-left n in let e = left-none (replicate n None) in omega arith

pub none-yet : (n i : ℕ) → level_at (replicate n None) i ≡ None
none-yet zero i = refl
none-yet (suc n) zero = refl
none-yet (suc n) (suc i) = none-yet n i

-- ---- after so many passes

-- Those that have a level are in it, of the first k. Each of the others has something above it that is in none, or in the last
-- of these.
pub record Upto (r : Square) (found : Levels) (k : ℕ) : Type 0 where
  pub each : length found ≡ length r
  pub some : (a j : ℕ) → level_at found a ≡ Some j → IsInLevel r found a j
  pub few : (a j : ℕ) → level_at found a ≡ Some j → j ≤ k
  pub none : (a : ℕ) → a < length r → level_at found a ≡ None → 0 < k → (c : ℕ) × IsAbove r c a × ((j : ℕ) → level_at found c ≡ Some j → k ≤ j)

pub there : (found : Levels) (a j : ℕ) → level_at found a ≡ Some j → a < length found
there found a j is = by (less_or a (length found))
  where
    by : (a < length found) ⊎ (length found ≤ a) → a < length found
    by (inl within) = within
    by (inr past) = let nothing : level_at found a ≡ None = get_or_past found a None past in absurd cc

pub at_start : (r : Square) → Upto r (replicate (length r) None) 0
at_start r = record {
  each = length-replicate (length r) None;
  some = λ a j is. let nothing = none-yet (length r) a in absurd cc;
  few = λ a j is. let nothing = none-yet (length r) a in absurd cc;
  none = λ a within is first. absurd (omega arith);
}

-- ---- one pass more

pub next-each : (r : Square) (found : Levels) (k : ℕ) → length (next_levels r found k) ≡ length r
next-each r found k = length-map-range_with_len (next_level r found k) 0 (length r)

pub next-at : (r : Square) (found : Levels) (k a : ℕ) → a < length r → level_at (next_levels r found k) a ≡ next_level r found k a
next-at r found k a within = get_or-map-range_with_len (next_level r found k) 0 (length r) a a None within (omega arith)

pub next-stays : (r : Square) (found : Levels) (k : ℕ) → length found ≡ length r → (a j : ℕ) → level_at found a ≡ Some j → level_at (next_levels r found k) a ≡ Some j
next-stays r found k each a j is =
    let within : a < length r = (let in_found = there found a j is in omega arith) in
    next-at r found k a within ∙ ap (first_level r found k a) is

-- what an alternative without a level has next
pub record IsFree (r : Square) (found : Levels) (a : ℕ) : Type 0 where
  pub placed : (c : ℕ) → IsAbove r c a → level_at found c ≡ None → ⊥

pub free : (r : Square) (found : Levels) (a : ℕ) → some_below (is_open_above r found a) (length r) ≡ false → IsFree r found a
free r found a none_open = record {
  placed = λ c over none.
      (let is_one : is_open_above r found a c ≡ true = rw (over, none) in
      let found_one : some_below (is_open_above r found a) (length r) ≡ true = some_there (is_open_above r found a) (length r) c (above-there r c a over).0 is_one in cc);
}

pub is-none : (o : Option ℕ) → is_none o ≡ true → o ≡ None
is-none None is = refl
is-none (Some k) is = absurd cc

pub held : (r : Square) (found : Levels) (a : ℕ) → some_below (is_open_above r found a) (length r) ≡ true → HasAbove r found a None
held r found a some_open =
    let one = some_found (is_open_above r found a) (length r) some_open in
    let parts = both-true (above r one.0 a) (is_none (level_at found one.0)) one.2 in
    record { upper = one.0; above = parts.0; at = is-none (level_at found one.0) parts.1 }

-- an alternative that has no level then is held by one without a level
pub next-none : (r : Square) (found : Levels) (k a : ℕ) → a < length r → level_at (next_levels r found k) a ≡ None → HasAbove r found a None
next-none r found k a within none = by (level_at found a) refl (some_below (is_open_above r found a) (length r)) refl
  where
    by : (o : Option ℕ) → level_at found a ≡ o → (t : Bool) → some_below (is_open_above r found a) (length r) ≡ t → HasAbove r found a None
    by (Some j) is t held_is = let e = sym (next-at r found k a within) ∙ none in let f : next_level r found k a ≡ Some j = ap (first_level r found k a) is in absurd cc
    by None is true held_is = held r found a held_is
    by None is false held_is =
        let e = sym (next-at r found k a within) ∙ none in
        let f : next_level r found k a ≡ (if some_below (is_open_above r found a) (length r) then None else Some k) = ap (first_level r found k a) is in
        let g : (if some_below (is_open_above r found a) (length r) then None else Some k) ≡ Some k = ap (λ (t : Bool). if t then None else Some k) held_is in
        absurd cc

-- one that has a level then had it, or is free and gets the new one
pub data NextCase (r : Square) (found : Levels) (k a j : ℕ) : Type 0 where
  kept : level_at found a ≡ Some j → NextCase r found k a j
  placed : level_at found a ≡ None → IsFree r found a → j ≡ k → NextCase r found k a j

pub next-some : (r : Square) (found : Levels) (k a j : ℕ) → a < length r → level_at (next_levels r found k) a ≡ Some j → NextCase r found k a j
next-some r found k a j within some = by (level_at found a) refl (some_below (is_open_above r found a) (length r)) refl
  where
    by : (o : Option ℕ) → level_at found a ≡ o → (t : Bool) → some_below (is_open_above r found a) (length r) ≡ t → NextCase r found k a j
    by (Some i) is t held_is =
        let e = sym (next-at r found k a within) ∙ some in
        let f : next_level r found k a ≡ Some i = ap (first_level r found k a) is in
        kept cc
    by None is t held_is =
        let e = sym (next-at r found k a within) ∙ some in
        let f : next_level r found k a ≡ (if some_below (is_open_above r found a) (length r) then None else Some k) = ap (first_level r found k a) is in
        let g : (if some_below (is_open_above r found a) (length r) then None else Some k) ≡ (if t then None else Some k) = ap (λ (t : Bool). if t then None else Some k) held_is in
        last is t held_is (sym g ∙ sym f ∙ e)
      where
        last : level_at found a ≡ None → (t : Bool) → some_below (is_open_above r found a) (length r) ≡ t → (if t then None else Some k) ≡ Some j → NextCase r found k a j
        last is true held_is e = absurd cc
        last is false held_is e = placed is (free r found a held_is) cc

-- a level stays one when more are found
pub in-level-stays : (r : Square) (old new : Levels) → ((c i : ℕ) → level_at old c ≡ Some i → level_at new c ≡ Some i) → (a j : ℕ) → IsInLevel r old a j → IsInLevel r new a j
in-level-stays r old new stay a j x = record {
  first = x.first;
  last = x.last;
  under_all = λ c over. (let b = x.under_all c over in record { level = b.level; at = stay c b.level b.at; before = b.before });
  under_one = λ more. (let h = x.under_one more in record { upper = h.upper; above = h.above; at = stay h.upper (j - 1) h.at });
}

-- an alternative that gets the new level is in it
pub placed-in : (r : Square) (found : Levels) (k a : ℕ) → Upto r found k → k < length r → a < length r → level_at found a ≡ None → IsFree r found a → IsInLevel r (next_levels r found (suc k)) a (suc k)
placed-in r found k a upto room within none is_free = record {
  first = omega arith;
  last = omega arith;
  under_all = λ c over. under c (level_at found c) refl over;
  under_one = λ more. (let h = upto.none a within none (omega arith) in just h.0 (level_at found h.0) refl h.1 h.2);
}
  where
    under : (c : ℕ) (o : Option ℕ) → level_at found c ≡ o → IsAbove r c a → IsBefore (next_levels r found (suc k)) (suc k) c
    under c None is over = absurd (is_free.placed c over is)
    under c (Some i) is over = let low = upto.few c i is in record { level = i; at = next-stays r found (suc k) upto.each c i is; before = omega arith }

    just : (c : ℕ) (o : Option ℕ) → level_at found c ≡ o → IsAbove r c a → ((j : ℕ) → level_at found c ≡ Some j → k ≤ j) → HasAbove r (next_levels r found (suc k)) a (Some (suc k - 1))
    just c None is over least = absurd (is_free.placed c over is)
    just c (Some i) is over least =
        let low = upto.few c i is in
        let high = least i is in
        let same : i ≡ suc k - 1 = omega arith in
        record { upper = c; above = over; at = next-stays r found (suc k) upto.each c i is ∙ ap Some same }

pub one_more : (r : Square) (found : Levels) (k : ℕ) → Upto r found k → k < length r → Upto r (next_levels r found (suc k)) (suc k)
one_more r found k upto room = record {
  each = next-each r found (suc k);
  some = λ a j is. (let w = within a j is in some_of a j w (next-some r found (suc k) a j w is));
  few = λ a j is. (let w = within a j is in few_of a j (next-some r found (suc k) a j w is));
  none = λ a w is first. (let h = next-none r found (suc k) a w is in (h.upper, h.above, λ j at. late h.upper j (within h.upper j at) h.at (next-some r found (suc k) h.upper j (within h.upper j at) at)));
}
  where
    within : (a j : ℕ) → level_at (next_levels r found (suc k)) a ≡ Some j → a < length r
    within a j is = let w = there (next_levels r found (suc k)) a j is in let e = next-each r found (suc k) in omega arith

    some_of : (a j : ℕ) → a < length r → NextCase r found (suc k) a j → IsInLevel r (next_levels r found (suc k)) a j
    some_of a j w (kept is) = in-level-stays r found (next_levels r found (suc k)) (λ c i. next-stays r found (suc k) upto.each c i) a j (upto.some a j is)
    some_of a j w (placed none is_free same) = subst (IsInLevel r (next_levels r found (suc k)) a) (sym same) (placed-in r found k a upto room w none is_free)

    few_of : (a j : ℕ) → NextCase r found (suc k) a j → j ≤ suc k
    few_of a j (kept is) = let few = upto.few a j is in omega arith
    few_of a j (placed none is_free same) = omega arith

    late : (c j : ℕ) → c < length r → level_at found c ≡ None → NextCase r found (suc k) c j → suc k ≤ j
    late c j w none (kept is) = absurd cc
    late c j w none (placed _ is_free same) = omega arith

-- ---- the end

pub none_left : (r : Square) (found : Levels) (k : ℕ) → Upto r found k → left found ≡ 0 → AreLevels r found
none_left r found k upto all = record {
  each = upto.each;
  some = upto.some;
  none = λ a within is. absurd (none-left found a all (let e = upto.each in omega arith) is);
}

pub as_many_left : (r : Square) (found : Levels) (k : ℕ) → Upto r found k → left (next_levels r found (suc k)) ≡ left found → AreLevels r found
as_many_left r found k upto as_many = record {
  each = upto.each;
  some = upto.some;
  none = λ a within is. next-none r found (suc k) a within
      (left-same found (next_levels r found (suc k)) (upto.each ∙ sym (next-each r found (suc k))) (λ i j. next-stays r found (suc k) upto.each i j) as_many a is);
}

pub fewer_left : (r : Square) (found : Levels) (k : ℕ) → Upto r found k → left (next_levels r found (suc k)) ≢ left found → left (next_levels r found (suc k)) < left found
fewer_left r found k upto other =
    let falls = left-falls found (next_levels r found (suc k)) (upto.each ∙ sym (next-each r found (suc k))) (λ i j. next-stays r found (suc k) upto.each i j) in
    omega (arith, other)

-- ---- the loop

next-plus : (r : Square) (found next : Levels) (k : ℕ) → next ≡ next_levels r found (k + 1) → next ≡ next_levels r found (suc k)
next-plus r found next k is = is ∙ ap (next_levels r found) (omega arith)

pub loop_stops : (r : Square) (found next : Levels) (k : ℕ) → Upto r found k → next ≡ next_levels r found (k + 1) → left next ≡ left found → AreLevels r found
loop_stops r found next k upto is as_many = as_many_left r found k upto (ap left (sym (next-plus r found next k is)) ∙ as_many)

pub record Goes (r : Square) (next : Levels) (k : ℕ) : Type 0 where
  pub found : Upto r next (k + 1)
  pub room : left next + (k + 1) ≤ length r

pub loop_goes : (r : Square) (found next : Levels) (k : ℕ) → Upto r found k → left found + k ≤ length r → k < length r → next ≡ next_levels r found (k + 1) → left next ≢ left found → Goes r next k
loop_goes r found next k upto room more is other =
    let same : next_levels r found (suc k) ≡ next = sym (next-plus r found next k is) in
    let plus : suc k ≡ k + 1 = omega arith in
    let fewer : left next < left found = subst (λ (xs : Levels). left xs < left found) same (fewer_left r found k upto (λ e. other (ap left (sym same) ∙ e))) in
    record {
      found = subst (Upto r next) plus (subst (λ (xs : Levels). Upto r xs (suc k)) same (one_more r found k upto more));
      room = omega arith;
    }

pub some_open : (r : Square) (found : Levels) (a c : ℕ) → above r c a ≡ true → level_at found c ≡ None → some_below (is_open_above r found a) (length r) ≡ true
some_open r found a c over none = some_there (is_open_above r found a) (length r) c (above-there r c a over).0 (rw (over, none))
