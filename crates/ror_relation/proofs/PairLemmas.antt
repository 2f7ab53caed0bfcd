-- The ordered pairs of alternatives and the questions on them: those on one more, that each is of different alternatives of
-- the table, and how many they are.
use Rattle.std.proofs.Common.{◌≡◌, ◌≢◌, ℕ, zero, suc, ◌+◌, ◌-◌, ◌*◌, ◌<◌, ◌≤◌, ◌++◌, Bool, true, false, List, [], ◌∷◌, length, take, get_or, refl, sym, ap, ◌∙◌, arith, append_assoc, length-append}
use Rattle.std.specs.Prelude.{◌==◌, if◌then◌else◌}
use Rattle.std.specs.List.{AllByRecursion, flat_map, range_with_len}
use Rattle.std.proofs.lemmas.Bool.{eqb-true, eqb-false}
use Rattle.std.proofs.lemmas.List.{append-nil, take_more}
use Rattle.std.proofs.lemmas.List.Concat.{flat_map-append}
use Rattle.std.proofs.lemmas.Nat.{mul-le}
use Rattle.ror_text.proofs.Everywhere.{all-pieces, all-by}
use Rattle.ror_text.proofs.ListLemmas.{range_more}
use Rattle.ror_table.specs.Table.{DecisionTable}
use Rattle.ror_value.specs.Over.{IsAskedIn}
use Rattle.ror_relation.specs.Pairs.{pair_of_different, pairs_from, ordered_pairs, AreDifferentOf, pair_questions, relation_questions}

-- the piece of one alternative more
pub questions_more : {X : Type 0} (f : ℕ → List X) (i : ℕ) (old before after : List X) → before ≡ old ++ flat_map f (range_with_len 0 i) → after ≡ before ++ f i → after ≡ old ++ flat_map f (range_with_len 0 (i + 1))
questions_more {X} f i old before after so_far pushed =
    let all : flat_map f (range_with_len 0 (i + 1)) ≡ flat_map f (range_with_len 0 i) ++ f i =
    (ap (flat_map f) (range_more 0 i i (omega arith)) ∙ flat_map-append f (range_with_len 0 i) (i ∷ []) ∙ ap (λ (qs : List X). flat_map f (range_with_len 0 i) ++ qs) (append-nil (f i))) in
    pushed ∙ ap (λ (qs : List X). qs ++ f i) so_far ∙ append_assoc old (flat_map f (range_with_len 0 i)) (f i) ∙ ap (λ (qs : List X). old ++ qs) (sym all)

-- the piece of one element more
pub piece_more : {X Y : Type 0} (f : X → List Y) (xs : List X) (i : ℕ) (x : X) → i < length xs → flat_map f (take (i + 1) xs) ≡ flat_map f (take i xs) ++ f (get_or xs i x)
piece_more {X} {Y} f xs i x within =
    ap (flat_map f) (take_more xs i x within) ∙ flat_map-append f (take i xs) (get_or xs i x ∷ []) ∙ ap (λ (ys : List Y). flat_map f (take i xs) ++ ys) (append-nil (f (get_or xs i x)))

-- ---- of different alternatives

all_below : (P : ℕ → Type 0) (a n : ℕ) → ((j : ℕ) → j < a + n → P j) → AllByRecursion P (range_with_len a n)
all_below P a zero h = tt
all_below P a (suc n) h = (h a (omega arith), all_below P (a + 1) n (λ j l. h j (omega arith)))

pair_different : (n a b : ℕ) → a < n → b < n → AllByRecursion (AreDifferentOf n) (pair_of_different a b)
pair_different n a b l m = by (a == b) refl
  where
    by : (same : Bool) → (a == b) ≡ same → AllByRecursion (AreDifferentOf n) (if same then [] else (a, b) ∷ [])
    by true is = tt
    by false is = ((eqb-false a b is, l, m), tt)

pub ordered_pairs-different : (n : ℕ) → AllByRecursion (AreDifferentOf n) (ordered_pairs n)
ordered_pairs-different n =
    all-pieces (AreDifferentOf n) (pairs_from n) (range_with_len 0 n)
    (all_below (λ a. AllByRecursion (AreDifferentOf n) (pairs_from n a)) 0 n
    (λ a l. all-pieces (AreDifferentOf n) (pair_of_different a) (range_with_len 0 n)
    (all_below (λ b. AllByRecursion (AreDifferentOf n) (pair_of_different a b)) 0 n (λ b m. pair_different n a b (omega arith) (omega arith)))))

pub all_asked : (t : DecisionTable) → AllByRecursion (IsAskedIn t) (relation_questions (length t.alternatives))
all_asked t =
    let n : ℕ = length t.alternatives in
    all-pieces (IsAskedIn t) pair_questions (ordered_pairs n)
    (all-by (AreDifferentOf n) (λ p. AllByRecursion (IsAskedIn t) (pair_questions p)) (ordered_pairs n) (λ p different. ((different.1, different.2), ((different.1, different.2), tt))) (ordered_pairs-different n))

-- ---- how many they are

-- all of these alternatives differ from the one
others : (a first n : ℕ) → ((j : ℕ) → j < n → a ≢ first + j) → length (flat_map (pair_of_different a) (range_with_len first n)) ≡ n
others a first zero h = refl
others a first (suc n) h = by (a == first) refl (others a (first + 1) n (λ j l is. h (j + 1) (omega arith) (omega arith)))
  where
    by : (same : Bool) → (a == first) ≡ same → length (flat_map (pair_of_different a) (range_with_len (first + 1) n)) ≡ n → length ((if same then [] else (a, first) ∷ []) ++ flat_map (pair_of_different a) (range_with_len (first + 1) n)) ≡ suc n
    by true is rest = absurd (h 0 (omega arith) (let e = eqb-true a first is in omega arith))
    by false is rest = ap suc rest

-- one of these alternatives is the one
pub others_of : (a first n : ℕ) → first ≤ a → a < first + n → length (flat_map (pair_of_different a) (range_with_len first n)) + 1 ≡ n
others_of a first zero least most = absurd (omega arith)
others_of a first (suc n) least most = by (a == first) refl (λ after. others_of a (first + 1) n after (omega arith))
  where
    by : (same : Bool) → (a == first) ≡ same → (first + 1 ≤ a → length (flat_map (pair_of_different a) (range_with_len (first + 1) n)) + 1 ≡ n) → length ((if same then [] else (a, first) ∷ []) ++ flat_map (pair_of_different a) (range_with_len (first + 1) n)) + 1 ≡ suc n
    by true is more =
        let e = eqb-true a first is in
        let rest = others a (first + 1) n (λ j l is. omega arith) in
        omega (arith, rest)
    by false is more =
        let e = eqb-false a first is in
        let after : first + 1 ≤ a = omega arith in
        let rest = more after in
        omega (arith, rest)

each_with_others : (n first k : ℕ) → first + k ≤ n → length (flat_map (pairs_from n) (range_with_len first k)) + k ≡ k * n
each_with_others n first zero few = omega arith
each_with_others n first (suc k) few =
    let here = others_of first 0 n (omega arith) (omega arith) in
    let rest = each_with_others n (first + 1) k (omega arith) in
    let long = length-append (pairs_from n first) (flat_map (pairs_from n) (range_with_len (first + 1) k)) in
    omega (arith, here, rest, long)

-- together with the pairs of one alternative
pub ordered_pairs-and_same : (n : ℕ) → length (ordered_pairs n) + n ≡ n * n
ordered_pairs-and_same n = each_with_others n 0 n (omega arith)

pub ordered_pairs-count : (n : ℕ) → length (ordered_pairs n) ≡ n * (n - 1)
ordered_pairs-count n = by n (ordered_pairs-and_same n)
  where
    by : (m : ℕ) → length (ordered_pairs n) + m ≡ m * m → length (ordered_pairs n) ≡ m * (m - 1)
    by zero all = omega (arith, all)
    by (suc m) all = let e : suc m - 1 ≡ m = omega arith in rw e (omega (arith, all))

two_each : (ps : List (ℕ × ℕ)) → length (flat_map pair_questions ps) ≡ length ps * 2
two_each [] = refl
two_each (p ∷ ps) = let rest = two_each ps in omega (arith, rest)

pub few_questions : (n : ℕ) → length (relation_questions n) ≤ n * (n * 2)
few_questions n =
    let all = ordered_pairs-and_same n in
    let twice = two_each (ordered_pairs n) in
    omega (arith, all, twice)

pub few_pairs : (n : ℕ) → n ≤ 200 → length (ordered_pairs n) ≤ 40000
few_pairs n few =
    let all = ordered_pairs-and_same n in
    let most = mul-le n n 200 200 few few in
    omega (arith, all, most)
