-- Sets of other alternatives in order of the table: those that are left by a test are one, and none has repeats.
use Rattle.std.proofs.Common.{◌≡◌, ℕ, zero, suc, ◌+◌, ◌<◌, ◌≤◌, Bool, true, false, List, [], ◌∷◌, length, refl, sym, ◌∙◌, arith}
use Rattle.std.specs.Prelude.{nat_eq, not, ◌==◌}
use Rattle.std.specs.List.{AllByRecursion, IsDistinct, filter, range_with_len}
use Rattle.std.specs.Set.{is_member}
use Rattle.std.proofs.lemmas.Bool.{not-true, ne_eqb, false_from_ne_true, true≢false}
use Rattle.std.proofs.lemmas.Map.Keys.{IsDistinct-cons}
use Rattle.ror_text.proofs.Everywhere.{all-by}
use Rattle.ror_table.specs.Table.{DecisionTable}
use Rattle.ror_ranks.specs.Ranks.{others}
use Rattle.ror_ranks.specs.Conflicts.{are_others, are_others_from, others_but, others_among}
use Rattle.ror_ranks.specs.Trees.{share}
use Rattle.ror_ranks.proofs.Sets.{IsWithinSet, all_member, any_some, distinct_none, fewer, member_filter, member_filter_parts}
use Rattle.ror_ranks.proofs.Counting.{IsOther, other_member, set_others, set_parts, set_of_parts, others_number}

-- the same from an earlier place on
others_earlier : (n a from start : ℕ) (xs : List ℕ) → start ≤ from → are_others_from n a from xs ≡ true → are_others_from n a start xs ≡ true
others_earlier n a from start [] le are = refl
others_earlier n a from start (b ∷ bs) le are =
    let parts = set_parts n a from b bs are in
    let low = parts.low in
    set_of_parts n a start b bs (record { low = omega (arith, le, low); of_table = parts.of_table; apart = parts.apart; rest = parts.rest })

-- one more in front
others_cons : (n a s : ℕ) (xs : List ℕ) → s < n → (s == a) ≡ false → are_others_from n a (s + 1) xs ≡ true → are_others_from n a s (s ∷ xs) ≡ true
others_cons n a s xs of_table apart rest = set_of_parts n a s s xs (record { low = omega arith; of_table = of_table; apart = apart; rest = rest })

-- what is left of the others by a test
filtered_others : (n a : ℕ) (p : ℕ → Bool) (m s : ℕ) → s + m ≡ n → are_others_from n a s (filter p (filter (λ b. not (b == a)) (range_with_len s m))) ≡ true
filtered_others n a p zero s e = refl
filtered_others n a p (suc m) s e = by (s == a) (p s) refl refl (filtered_others n a p m (s + 1) (omega (arith, e)))
  where
    left : List ℕ
    left = filter p (filter (λ b. not (b == a)) (range_with_len (s + 1) m))

    by : (same test : Bool) → (s == a) ≡ same → p s ≡ test → are_others_from n a (s + 1) (filter p (filter (λ b. not (b == a)) (range_with_len (s + 1) m))) ≡ true
        → are_others_from n a s (filter p (filter (λ b. not (b == a)) (range_with_len s (suc m)))) ≡ true
    by true test same is rest = rw same (others_earlier n a (s + 1) s left (omega arith) rest)
    by false true apart is rest = rw (apart, is) (others_cons n a s left (omega (arith, e)) apart rest)
    by false false apart is rest = rw (apart, is) (others_earlier n a (s + 1) s left (omega arith) rest)

pub others_but_are : (t : DecisionTable) (a : ℕ) (except : List ℕ) → are_others t a (others_but t a except) ≡ true
others_but_are t a except = filtered_others (length t.alternatives) a (λ b. not (is_member nat_eq except b)) (length t.alternatives) 0 (omega arith)

pub others_among_are : (t : DecisionTable) (a : ℕ) (some : List ℕ) → are_others t a (others_among t a some) ≡ true
others_among_are t a some = filtered_others (length t.alternatives) a (λ b. is_member nat_eq some b) (length t.alternatives) 0 (omega arith)

-- ---- no repeats

above_from : (n a from : ℕ) (xs : List ℕ) → are_others_from n a from xs ≡ true → AllByRecursion (λ y. from ≤ y) xs
above_from n a from [] are = tt
above_from n a from (b ∷ bs) are =
    let parts = set_parts n a from b bs are in
    let low = parts.low in
    (low, all-by (λ y. b + 1 ≤ y) (λ y. from ≤ y) bs (λ y more. omega (arith, low, more)) (above_from n a (b + 1) bs parts.rest))

pub set_distinct : (n a from : ℕ) (xs : List ℕ) → are_others_from n a from xs ≡ true → IsDistinct nat_eq xs
set_distinct n a from [] are = distinct_none
set_distinct n a from (b ∷ bs) are =
    let parts = set_parts n a from b bs are in
    let more = above_from n a (b + 1) bs parts.rest in
    IsDistinct-cons nat_eq b bs (all-by (λ y. b + 1 ≤ y) (λ y. nat_eq b y ≡ false) bs (λ y above. ne_eqb b y (λ e. omega arith)) more) (set_distinct n a (b + 1) bs parts.rest)

-- a set of others has fewer than the table
pub set_few : (t : DecisionTable) (a : ℕ) (xs : List ℕ) → a < length t.alternatives → are_others t a xs ≡ true → length xs + 1 ≤ length t.alternatives
set_few t a xs of_table are =
    let few = fewer xs (others t a) (set_distinct (length t.alternatives) a 0 xs are) within in
    let number = others_number t a of_table in
    omega (arith, few, number)
  where
    within : IsWithinSet xs (others t a)
    within q h = other_member t a q (all_member (IsOther t a) xs q (set_others t a 0 xs are) h)

-- ---- what is met and what is not

-- the others but those that are met share nothing with what is met
pub rest_apart : (t : DecisionTable) (a : ℕ) (met : List ℕ) → share (others_but t a (others_among t a met)) met ≡ false
rest_apart t a met = false_from_ne_true (share (others_but t a (others_among t a met)) met) none
  where
    none : share (others_but t a (others_among t a met)) met ≡ true → ⊥
    none h =
        let found = any_some (λ b. is_member nat_eq met b) (others_but t a (others_among t a met)) h in
        let parts = member_filter_parts (λ b. not (is_member nat_eq (others_among t a met) b)) (others t a) found.0 found.1 in
        let is_met = member_filter (λ b. is_member nat_eq met b) (others t a) found.0 parts.0 found.2 in
        true≢false (sym is_met ∙ not-true (is_member nat_eq (others_among t a met) found.0) parts.1)
