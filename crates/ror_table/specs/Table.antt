-- Decision tables, and what is read off them: ranks, steps, weights and columns.
use Rattle.std.specs.Prelude.{◌≡◌, ◌≢◌, ℕ, ◌+◌, ◌-◌, ◌/◌, ◌<◌, ◌≤◌, min, Bool, false, ◌&&◌, ◌||◌, ◌==◌, nat_lt, nat_le, List, [], length, map, filter, Option, Some, None, unwrap_or, if◌then◌else◌, slice_get, slice_index_or, ℤ, pos, ◌*ℤ◌, ◌-ℤ◌, unsigned_abs, All, AllPairs, Contains, sum_by, position}
use Rattle.std.specs.Option.{option_map}
use Rattle.std.specs.List.{find, fold, list_any, range_with_len}
use Rattle.std.specs.Set.{distinct_count}
use Rattle.std.specs.Str.{bytes_eq}
use Rattle.ror_integers.specs.Gcd.{least_common_multiple}
use Rattle.ror_integers.specs.LowestTerms.{reduced}
use Rattle.ror_integers.specs.Vectors.{entry}
use Rattle.ror_text.specs.Ids.{IsId}
use Rattle.ror_table.specs.declared.amount.Amount.{Amount}
use Rattle.ror_table.specs.declared.direction.Direction.{Direction}
use Rattle.ror_table.specs.declared.direction.Direction.TheVariants.{Max}
use Rattle.ror_table.specs.declared.limits.TheConstants.{AMOUNT_LIMIT, MOST_ALTERNATIVES, MOST_CLASSES, MOST_CRITERIA, MOST_STEPS}
use Rattle.ror_table.specs.Amounts.{IsAmount, whole, is_worse, is_same}

-- a criterion, on which value functions are linear between the worst and the best level, or any that step from level to level
pub record Criterion : Type 0 where
  pub id : List ℕ
  pub direction : Direction
  pub linear : Bool

-- an alternative and its performances, one for each criterion in their order
pub record Alternative : Type 0 where
  pub id : List ℕ
  pub performances : List Amount

-- what a table holds
pub record DecisionTable : Type 0 where
  pub criteria : List Criterion
  pub alternatives : List Alternative
  pub classes : ℕ

abbrev pub criterion_ids : DecisionTable → List (List ℕ)
criterion_ids t = map (λ c. c.id) t.criteria

abbrev pub alternative_ids : DecisionTable → List (List ℕ)
alternative_ids t = map (λ a. a.id) t.alternatives

-- the place of the id among the ids, or None where it is nowhere
abbrev pub HasPlace : List (List ℕ) → List ℕ → Option ℕ → Type 0
HasPlace ids id None = Contains ids id → ⊥
HasPlace ids id (Some k) = slice_get ids k ≡ Some id

-- the place of the id among the ids, if one of them is it
abbrev pub place_of : List (List ℕ) → List ℕ → Option ℕ
place_of ids id = position (λ other. bytes_eq other id) ids

-- the alternative that has this id, if there is one
abbrev pub alternative_named : DecisionTable → List ℕ → Option ℕ
alternative_named t id = place_of (alternative_ids t) id

-- the criterion that has this id, if there is one
abbrev pub criterion_named : DecisionTable → List ℕ → Option ℕ
criterion_named t id = place_of (criterion_ids t) id

-- an alternative's id
abbrev pub id_of : DecisionTable → ℕ → List ℕ
id_of t a = slice_index_or (alternative_ids t) a []

-- a criterion's id
abbrev pub criterion_id_of : DecisionTable → ℕ → List ℕ
criterion_id_of t i = slice_index_or (criterion_ids t) i []

-- no two ids are equal
abbrev pub AreDistinct : List (List ℕ) → Type 0
AreDistinct ids = AllPairs (λ x y. x ≢ y) ids

abbrev pub direction_at : DecisionTable → ℕ → Direction
direction_at t i = unwrap_or (option_map (λ c. c.direction) (slice_get t.criteria i)) Max

abbrev pub is_linear : DecisionTable → ℕ → Bool
is_linear t i = unwrap_or (option_map (λ c. c.linear) (slice_get t.criteria i)) false

abbrev pub performance_of : Alternative → ℕ → Amount
performance_of a i = slice_index_or a.performances i (whole (pos 0))

-- the performances of all alternatives on a criterion
abbrev pub performances_on : DecisionTable → ℕ → List Amount
performances_on t i = map (λ a. performance_of a i) t.alternatives

abbrev pub performance_at : DecisionTable → ℕ → ℕ → Amount
performance_at t a i = slice_index_or (performances_on t i) a (whole (pos 0))

-- how many distinct performances there are among these
unfoldable pub levels_count : List Amount → ℕ
levels_count performances = distinct_count is_same performances

-- how many distinct performances on the criterion are worse than this one
abbrev pub rank_of : DecisionTable → ℕ → Amount → ℕ
rank_of t i p =
    levels_count (filter (λ other. is_worse (direction_at t i) other p) (performances_on t i))

-- how many are worse than the alternative's
abbrev pub rank : DecisionTable → ℕ → ℕ → ℕ
rank t a i = rank_of t i (performance_at t a i)

-- how many distinct performances there are on the criterion, less one
abbrev pub steps : DecisionTable → ℕ → ℕ
steps t i = levels_count (performances_on t i) - 1

-- how many columns the criterion has: one for each step, or one in all where it is linear and has steps
abbrev pub width : DecisionTable → ℕ → ℕ
width t i = if is_linear t i then min (steps t i) 1 else steps t i

-- how many columns the criteria before i have
abbrev pub offset : DecisionTable → ℕ → ℕ
offset t i = sum_by (width t) (range_with_len 0 i)

-- column k of criterion i, where k is from 1 to the criterion's width
abbrev pub column : DecisionTable → ℕ → ℕ → ℕ
column t i k = offset t i + (k - 1)

abbrev pub columns : DecisionTable → ℕ
columns t = offset t (length t.criteria)

-- the performance on the criterion that has this rank; past the best level, that of the best
abbrev pub level : DecisionTable → ℕ → ℕ → Amount
level t i r =
    unwrap_or (find (λ p. rank_of t i p == min r (steps t i)) (performances_on t i)) (whole (pos 0))

-- the least common multiple of the denominators of the amounts
abbrev pub common_denominator : List Amount → ℕ
common_denominator ps = fold (λ d p. least_common_multiple d (unsigned_abs p.den)) 1 ps

-- an amount times n, where its denominator divides n
abbrev pub multiple : ℕ → Amount → ℤ
multiple n p = pos (n / unsigned_abs p.den) *ℤ p.num

-- how far the level lies from the worst one, times the least common multiple of the criterion's denominators
abbrev pub distance : DecisionTable → ℕ → ℕ → ℕ
distance t i r =
    unsigned_abs (multiple (common_denominator (performances_on t i)) (level t i r)
    -ℤ multiple (common_denominator (performances_on t i)) (level t i 0))

-- the weights of the levels, from the worst to the best: their distances from the worst one, as the least whole numbers in
-- these ratios
abbrev pub weights : DecisionTable → ℕ → List ℤ
weights t i = reduced (map (λ r. pos (distance t i r)) (range_with_len 0 (steps t i + 1)))

-- the weight of the level of a rank; past the best level, that of the best
abbrev pub weight : DecisionTable → ℕ → ℕ → ℤ
weight t i r = entry (weights t i) (min r (steps t i))

-- whether the criterion is linear and not all of its performances are the same
abbrev pub has_weights : DecisionTable → ℕ → Bool
has_weights t i = is_linear t i && nat_lt 0 (steps t i)

-- whether, on the linear criterion, the common denominator or the best level's distance passes what an amount may be
abbrev pub has_wide_weights : DecisionTable → ℕ → Bool
has_wide_weights t i =
    has_weights t i && (nat_le AMOUNT_LIMIT (common_denominator (performances_on t i))
    || nat_le AMOUNT_LIMIT (distance t i (steps t i)))

-- whether that is so on some criterion
abbrev pub has_wide_scale : DecisionTable → Bool
has_wide_scale t = list_any (has_wide_weights t) (range_with_len 0 (length t.criteria))

-- one performance for each of n criteria
pub record IsEvaluated (n : ℕ) (a : Alternative) : Type 0 where
  pub width : length a.performances ≡ n
  pub amounts : All IsAmount a.performances

-- what is a decision table
pub record IsTable (t : DecisionTable) : Type 0 where
  pub some_criterion : 0 < length t.criteria
  pub some_alternative : 0 < length t.alternatives
  pub criteria_limit : length t.criteria ≤ MOST_CRITERIA
  pub alternatives_limit : length t.alternatives ≤ MOST_ALTERNATIVES
  pub classes_limit : t.classes ≤ MOST_CLASSES
  pub columns_limit : columns t ≤ MOST_STEPS
  pub scale_limit : has_wide_scale t ≡ false
  pub criterion_ids_valid : All IsId (criterion_ids t)
  pub alternative_ids_valid : All IsId (alternative_ids t)
  pub criterion_ids_distinct : AreDistinct (criterion_ids t)
  pub alternative_ids_distinct : AreDistinct (alternative_ids t)
  pub evaluated : All (IsEvaluated (length t.criteria)) t.alternatives
