-- Ranks, steps and columns: how they follow from levels, and how they compare.
use Rattle.std.proofs.Common.{get_or, ◌≡◌, ℕ, ◌+◌, ◌-◌, ◌<◌, ◌≤◌, Bool, true, false, cond, ◌&&◌, ◌||◌, List, [], ◌∷◌, length, filter, zero, suc, All, Contains, refl, sym, ap, subst, ◌∙◌, arith, add-zero, inl, inr}
use Rattle.std.specs.Prelude.{sum_by, min, unwrap_or, ◌==◌, pos, ◌≢◌, ◌⊎◌}
use Rattle.std.specs.List.{IsDistinct, AllByRecursion, range_with_len, find}
use Rattle.std.specs.Cmp.{both_ways}
use Rattle.std.specs.Set.{is_member, unique_keys}
use Rattle.std.proofs.Math.Nat.{min-eq_left, min-le_left}
use Rattle.std.proofs.lemmas.Bool.{cases_Bool, false≢true}
use Rattle.std.proofs.lemmas.Bool.Decides.{Decides-eqb}
use Rattle.std.proofs.lemmas.List.{length-map, get_or_default}
use Rattle.std.proofs.lemmas.List.Elements.{Contains-get_or, All-map}
use Rattle.std.proofs.lemmas.List.Kept.{AllPairs-filter}
use Rattle.std.proofs.lemmas.List.Sums.{sum_by_push}
use Rattle.std.proofs.lemmas.Map.Keys.{IsDistinct-cons}
use Rattle.std.proofs.lemmas.Map.Made.{Contains-tail, is_member-Decides, is_member-filter, length-from_keys, length-le_from_is_member, AllPairs-from_IsDistinct, IsDistinct-from_AllPairs}
use Rattle.ror_text.proofs.ListLemmas.{range_more}
use Rattle.ror_table.specs.declared.amount.Amount.{Amount}
use Rattle.ror_table.specs.declared.direction.Direction.{Direction}
use Rattle.ror_table.specs.Amounts.{IsAmount, whole, is_worse, is_same}
use Rattle.ror_table.specs.Table.{DecisionTable, Alternative, IsTable, IsEvaluated, levels_count, direction_at, is_linear, performances_on, performance_of, performance_at, rank, rank_of, level, steps, width, offset, column, columns}
use Rattle.ror_table.specs.Levels.{IsLevels}
use Rattle.ror_table.proofs.AmountLemmas.{is_same-Decides, is_same-equiv, is_worse-itself}
use Rattle.ror_table.proofs.LevelLemmas.{worse_than_level, member_more, levels_exist}

-- ---- levels

IsDistinct-filter : (p : Amount → Bool) (xs : List Amount) → IsDistinct is_same xs → IsDistinct is_same (filter p xs)
IsDistinct-filter p xs h = IsDistinct-from_AllPairs is_same-Decides (filter p xs) (AllPairs-filter (λ x y. x ≢ y) p xs (AllPairs-from_IsDistinct is_same-Decides xs h))

alike : (p : Amount → Bool) (q x : Amount) → is_same q x ≡ true → p q ≡ p x
alike p q x h = ap p ((is_same-Decides q x).0 h)

-- there are as many levels as distinct performances
pub levels_count-IsLevels : (direction : Direction) (performances levels : List Amount) → IsLevels direction performances levels → length levels ≡ levels_count performances
unfolding levels_count
levels_count-IsLevels direction performances levels up = length-from_keys is_same-equiv levels performances up.distinct up.members

-- as many levels are worse than v as distinct performances
pub levels_count-worse : (direction : Direction) (performances levels : List Amount) (v : Amount) → IsLevels direction performances levels
    → length (filter (λ level. is_worse direction level v) levels) ≡ levels_count (filter (λ p. is_worse direction p v) performances)
unfolding levels_count
levels_count-worse direction performances levels v up =
    let worse : Amount → Bool = λ p. is_worse direction p v in
    length-from_keys is_same-equiv (filter worse levels) (filter worse performances) (IsDistinct-filter worse levels up.distinct)
    (λ q. is_member-filter is_same-equiv worse q (alike worse q) levels ∙ ap (λ b. b && worse q) (up.members q) ∙ sym (is_member-filter is_same-equiv worse q (alike worse q) performances))

-- ---- distinct performances

pub or_cases : (a b : Bool) → (a || b) ≡ true → (a ≡ true) ⊎ (b ≡ true)
or_cases true b h = inl refl
or_cases false b h = inr h

pub or_neither : (a b : Bool) → (a || b) ≡ false → (a ≡ false) × (b ≡ false)
or_neither true b h = absurd cc
or_neither false b h = (refl, h)

members_by : (x : Amount) (xs : List Amount) (q : Amount) (b : Bool) → is_member is_same xs x ≡ b → is_member is_same (unique_keys is_same xs) q ≡ is_member is_same xs q → is_member is_same (cond b (unique_keys is_same xs) (x ∷ unique_keys is_same xs)) q ≡ (is_same q x || is_member is_same xs q)
members_by x xs q true there rest = rest ∙ member_more x xs q there
members_by x xs q false there rest = ap (λ b. is_same q x || b) rest

is_member-unique_keys : (xs : List Amount) (q : Amount) → is_member is_same (unique_keys is_same xs) q ≡ is_member is_same xs q
is_member-unique_keys [] q = refl
is_member-unique_keys (x ∷ xs) q = members_by x xs q (is_member is_same xs x) refl (is_member-unique_keys xs q)

none_same : (x : Amount) (xs : List Amount) → is_member is_same xs x ≡ false → AllByRecursion (λ y. is_same x y ≡ false) xs
none_same x [] h = tt
none_same x (y ∷ ys) h = let n = or_neither (is_same x y) (is_member is_same ys x) h in (n.0, none_same x ys n.1)

distinct_by : (x : Amount) (xs : List Amount) (b : Bool) → is_member is_same xs x ≡ b → IsDistinct is_same (unique_keys is_same xs) → IsDistinct is_same (cond b (unique_keys is_same xs) (x ∷ unique_keys is_same xs))
distinct_by x xs true there rest = rest
distinct_by x xs false there rest = IsDistinct-cons is_same x (unique_keys is_same xs) (none_same x (unique_keys is_same xs) (is_member-unique_keys xs x ∙ there)) rest

IsDistinct-unique_keys : (xs : List Amount) → IsDistinct is_same (unique_keys is_same xs)
IsDistinct-unique_keys [] = IsDistinct-from_AllPairs is_same-Decides [] (λ i j d lt in'. absurd (omega arith))
IsDistinct-unique_keys (x ∷ xs) = distinct_by x xs (is_member is_same xs x) refl (IsDistinct-unique_keys xs)

-- ---- ranks

and_left : (a b : Bool) → (a && b) ≡ true → a ≡ true
and_left true b h = refl
and_left false b h = absurd cc

and_false : (a : Bool) → (a && false) ≡ false
and_false true = refl
and_false false = refl

-- where v is one of the performances, those worse than it are fewer
pub levels_count-worse_lt : (direction : Direction) (performances : List Amount) (v : Amount) → Contains performances v → levels_count (filter (λ p. is_worse direction p v) performances) + 1 ≤ levels_count performances
unfolding levels_count
levels_count-worse_lt direction performances v there =
    let worse : Amount → Bool = λ p. is_worse direction p v in
    let fewer : List Amount = unique_keys is_same (filter worse performances) in
    let among : (q : Amount) → is_member is_same fewer q ≡ (is_member is_same performances q && worse q) = λ q. is_member-unique_keys (filter worse performances) q ∙ is_member-filter is_same-equiv worse q (alike worse q) performances in
    let itself : is_member is_same performances v ≡ true = (is_member-Decides is_same-Decides performances v).1 there in
    let apart : is_member is_same fewer v ≡ false = among v ∙ ap (λ b. is_member is_same performances v && b) (is_worse-itself direction v) ∙ and_false (is_member is_same performances v) in
    let distinct : IsDistinct is_same (v ∷ fewer) = IsDistinct-cons is_same v fewer (none_same v fewer apart) (IsDistinct-unique_keys (filter worse performances)) in
    let kept : (q : Amount) → is_member is_same (v ∷ fewer) q ≡ true → is_member is_same (unique_keys is_same performances) q ≡ true = λ q h. is_member-unique_keys performances q ∙ (elim (or_cases (is_same q v) (is_member is_same fewer q) h) [
      | inl same ↦ subst (λ y. is_member is_same performances y ≡ true) (sym ((is_same-Decides q v).0 same)) itself
      | inr in' ↦ and_left (is_member is_same performances q) (worse q) (sym (among q) ∙ in')
    ]) in
    let bound = length-le_from_is_member is_same-equiv (v ∷ fewer) (unique_keys is_same performances) distinct kept in
    omega (arith, bound)

-- a rank is at most the number of steps
pub rank-le-steps : (t : DecisionTable) (a i : ℕ) → a < length t.alternatives → rank t a i ≤ steps t i
rank-le-steps t a i within =
    let there : Contains (performances_on t i) (performance_at t a i) = Contains-get_or (performances_on t i) a (whole (pos 0)) (omega (arith, length-map t.alternatives (λ x. performance_of x i))) in
    omega (arith, levels_count-worse_lt (direction_at t i) (performances_on t i) (performance_at t a i) there)

-- ---- the levels of a criterion

pub steps-levels : (t : DecisionTable) (i : ℕ) (levels : List Amount) → IsLevels (direction_at t i) (performances_on t i) levels → steps t i ≡ length levels - 1
steps-levels t i levels up = ap (λ n. n - 1) (sym (levels_count-IsLevels (direction_at t i) (performances_on t i) levels up))

-- a performance is a level
pub Contains-level : (direction : Direction) (performances levels : List Amount) (p : Amount) → IsLevels direction performances levels → Contains performances p → Contains levels p
Contains-level direction performances levels p up there = (is_member-Decides is_same-Decides levels p).0 (up.members p ∙ (is_member-Decides is_same-Decides performances p).1 there)

-- and a level is a performance
pub Contains-performance : (direction : Direction) (performances levels : List Amount) (p : Amount) → IsLevels direction performances levels → Contains levels p → Contains performances p
Contains-performance direction performances levels p up there = (is_member-Decides is_same-Decides performances p).0 (sym (up.members p) ∙ (is_member-Decides is_same-Decides levels p).1 there)

-- there is a level where there is an alternative
pub length-levels_steps : (t : DecisionTable) (i : ℕ) (levels : List Amount) → 0 < length t.alternatives → IsLevels (direction_at t i) (performances_on t i) levels → length levels ≡ steps t i + 1
length-levels_steps t i levels some up =
    let there : Contains (performances_on t i) (performance_at t 0 i) = Contains-get_or (performances_on t i) 0 (whole (pos 0)) (omega (arith, length-map t.alternatives (λ x. performance_of x i))) in
    let at = Contains-level (direction_at t i) (performances_on t i) levels (performance_at t 0 i) up there in
    omega (arith, at.1, steps-levels t i levels up)

-- the rank of a level is its number
pub rank_of-level : (t : DecisionTable) (i r : ℕ) (levels : List Amount) (d : Amount) → IsLevels (direction_at t i) (performances_on t i) levels → r < length levels → rank_of t i (get_or levels r d) ≡ r
rank_of-level t i r levels d up within = sym (levels_count-worse (direction_at t i) (performances_on t i) levels (get_or levels r d) up) ∙ worse_than_level (direction_at t i) levels r d up.rises within

-- what is found is the only element that passes the test
find_only : {X : Type 0} (p : X → Bool) (xs : List X) (v d : X) → Contains xs v → p v ≡ true → ((x : X) → Contains xs x → p x ≡ true → x ≡ v) → unwrap_or (find p xs) d ≡ v
find_only p [] v d there pass only = absurd (omega (arith, there.1))
find_only {X} p (x ∷ xs) v d there pass only = elim (cases_Bool (p x)) [
  | inl kept ↦ rw kept (only x (0, omega arith, refl) kept)
  | inr fails ↦ rw fails (find_only p xs v d (Contains-tail x xs v (λ (e : x ≡ v). false≢true (sym fails ∙ ap p e ∙ pass)) there) pass (λ y in' h. only y (suc in'.0, omega (arith, in'.1), in'.2) h))
]

-- the level of a rank stands at this place of the levels
pub level_at-IsLevels : (t : DecisionTable) (i r : ℕ) (levels : List Amount) (d : Amount) → IsLevels (direction_at t i) (performances_on t i) levels → r < length levels → level t i r ≡ get_or levels r d
level_at-IsLevels t i r levels d up within =
    let v : Amount = get_or levels r d in
    let most : min r (steps t i) ≡ r = min-eq_left (omega (arith, steps-levels t i levels up)) in
    let here : rank_of t i v ≡ r = rank_of-level t i r levels d up within in
    find_only (λ p. rank_of t i p == min r (steps t i)) (performances_on t i) v (whole (pos 0))
    (Contains-performance (direction_at t i) (performances_on t i) levels v up (Contains-get_or levels r d within))
    ((Decides-eqb (rank_of t i v) (min r (steps t i))).1 (here ∙ sym most))
    (λ x in' same.
    let at = Contains-level (direction_at t i) (performances_on t i) levels x up in' in
    let number : at.0 ≡ r = sym (rank_of-level t i at.0 levels x up at.1) ∙ ap (rank_of t i) at.2 ∙ (Decides-eqb (rank_of t i x) (min r (steps t i))).0 same ∙ most in
    sym at.2 ∙ ap (λ n. get_or levels n x) number ∙ get_or_default levels r x d within)

-- the performances on a criterion are amounts
pub performances_amounts : (t : DecisionTable) (i : ℕ) → All (IsEvaluated (length t.criteria)) t.alternatives → i < length t.criteria → All IsAmount (performances_on t i)
performances_amounts t i evaluated within = All-map IsAmount (λ a. performance_of a i) t.alternatives (λ k a lt.
    let row = evaluated k a lt in
    row.amounts i (whole (pos 0)) (omega (arith, row.width)))

-- each rank up to the steps has its level
pub ranks_have_levels : (t : DecisionTable) (i r : ℕ) → IsTable t → i < length t.criteria → r ≤ steps t i → Contains (performances_on t i) (level t i r) × (rank_of t i (level t i r) ≡ r)
ranks_have_levels t i r table within le =
    let made = levels_exist (direction_at t i) (performances_on t i) (performances_amounts t i table.evaluated within) in
    let levels : List Amount = made.0 in
    let up : IsLevels (direction_at t i) (performances_on t i) levels = made.1 in
    let d : Amount = whole (pos 0) in
    let there : r < length levels = omega (arith, length-levels_steps t i levels table.some_alternative up) in
    let at : level t i r ≡ get_or levels r d = level_at-IsLevels t i r levels d up there in (
      rw at (Contains-performance (direction_at t i) (performances_on t i) levels (get_or levels r d) up (Contains-get_or levels r d there)),
      rw at (rank_of-level t i r levels d up there),
    )

-- ---- columns

width_by : (b : Bool) (n : ℕ) → cond b (min n 1) n ≤ n
width_by true n = min-le_left n 1
width_by false n = omega arith

pub width-le-steps : (t : DecisionTable) (i : ℕ) → width t i ≤ steps t i
width-le-steps t i = width_by (is_linear t i) (steps t i)

-- the columns of one criterion more
pub offset-suc : (t : DecisionTable) (i : ℕ) → offset t (i + 1) ≡ offset t i + width t i
offset-suc t i = ap (sum_by (width t)) (range_more 0 i i (omega arith)) ∙ sum_by_push (width t) (range_with_len 0 i) i

pub offset-le : (t : DecisionTable) (i n : ℕ) → offset t i ≤ offset t (i + n)
offset-le t i zero = subst (λ m. offset t i ≤ offset t m) (sym (add-zero i)) (omega arith)
offset-le t i (suc n) =
    let next : (i + n) + 1 ≡ i + suc n = omega arith in
    subst (λ m. offset t i ≤ offset t m) next (omega (arith, offset-le t i n, offset-suc t (i + n)))

-- each column of a criterion is a column
pub column-lt-columns : (t : DecisionTable) (i k : ℕ) → i < length t.criteria → 0 < k → k ≤ width t i → column t i k < columns t
column-lt-columns t i k within positive le =
    let n : ℕ = length t.criteria - (i + 1) in
    let all : (i + 1) + n ≡ length t.criteria = omega arith in
    let upto : offset t (i + 1) ≤ columns t = subst (λ m. offset t (i + 1) ≤ offset t m) all (offset-le t (i + 1) n) in
    omega (arith, offset-suc t i)

-- no step has the column of another: the columns of a criterion end before those of the next begin
pub column-le-offset : (t : DecisionTable) (i k : ℕ) → 0 < k → k ≤ width t i → column t i k < offset t (i + 1)
column-le-offset t i k positive le = omega (arith, offset-suc t i)

-- a performance is an amount
pub performance_amount : (t : DecisionTable) (a i : ℕ) → All (IsEvaluated (length t.criteria)) t.alternatives → a < length t.alternatives → i < length t.criteria → IsAmount (performance_at t a i)
performance_amount t a i evaluated there within = performances_amounts t i evaluated within a (whole (pos 0)) (omega (arith, length-map t.alternatives (λ x. performance_of x i)))

-- an alternative's performance is the level of its rank
pub level-rank : (t : DecisionTable) (a i : ℕ) → IsTable t → a < length t.alternatives → i < length t.criteria → level t i (rank t a i) ≡ performance_at t a i
level-rank t a i table there within =
    let made = levels_exist (direction_at t i) (performances_on t i) (performances_amounts t i table.evaluated within) in
    let levels : List Amount = made.0 in
    let up : IsLevels (direction_at t i) (performances_on t i) levels = made.1 in
    let p : Amount = performance_at t a i in
    let performed : Contains (performances_on t i) p = Contains-get_or (performances_on t i) a (whole (pos 0)) (omega (arith, length-map t.alternatives (λ x. performance_of x i))) in
    let at = Contains-level (direction_at t i) (performances_on t i) levels p up performed in
    let number : rank t a i ≡ at.0 = ap (rank_of t i) (sym at.2) ∙ rank_of-level t i at.0 levels p up at.1 in
    ap (level t i) number ∙ level_at-IsLevels t i at.0 levels p up at.1 ∙ at.2
