-- What ranks over all compatible functions are, and how they compare.
use Rattle.std.proofs.Common.{◌≡◌, ◌↔◌, ℕ, ◌+◌, ◌<◌, ◌≤◌, true, List, [], ◌∷◌, ◌++◌, length, ℤ, ◌≤ℤ◌, ◌<ℤ◌, inl, inr, sym, ◌∙◌, arith}
use Rattle.std.specs.Prelude.{nat_eq, option_to_list}
use Rattle.std.specs.List.{AllByRecursion, flat_map, range_with_len}
use Rattle.std.specs.Set.{is_member}
use Rattle.std.proofs.lemmas.Bool.{cases_Bool, true≢false}
use Rattle.ror_text.proofs.Everywhere.{all-append, all-front, all-back}
use Rattle.ror_statement.specs.declared.comparison.Comparison.{Comparison}
use Rattle.ror_statement.specs.declared.statement.Statement.{Statement}
use Rattle.ror_statement.specs.Statements.{comparison_of, outranking, class_comparisons, comparisons_of}
use Rattle.ror_table.specs.Table.{DecisionTable}
use Rattle.ror_value.specs.Value.{value}
use Rattle.ror_value.specs.Meaning.{Holds, IsCompatible}
use Rattle.ror_ranks.specs.declared.extreme.Side.{Side}
use Rattle.ror_ranks.specs.declared.extreme.Side.TheVariants.{Best, Worst}
use Rattle.ror_ranks.specs.Ranks.{is_above, above, rank_by, EveryRankIsFrom, EveryRankIsTo, IsBestRank, IsWorstRank, IsExtremeRank}
use Rattle.ror_ranks.specs.Laws.{AreAlwaysAbove, IsFirstBy}
use Rattle.ror_ranks.proofs.Sets.{IsWithinSet, all_member, in_range, fewer, member_filter, member_filter_parts, range_below, range_distinct, distinct_filter}
use Rattle.ror_ranks.proofs.Counting.{more_is_above, not_above_is_no_more, no_more_is_not_above, ranks_are_counts, counted_few}

-- ---- one extreme rank

pub one_extreme_rank : (t : DecisionTable) (list : List Statement) (side : Side) (a r s : ℕ) → IsExtremeRank t list side a r → IsExtremeRank t list side a s → r ≡ s
one_extreme_rank t list Best a r s x y =
    let v = x.given in
    let w = y.given in
    let low = x.least w.0 w.1 in
    let high = y.least v.0 v.1 in
    let one = v.2 in
    let two = w.2 in
    omega (arith, low, high, one, two)
one_extreme_rank t list Worst a r s x y =
    let v = x.given in
    let w = y.given in
    let low = x.greatest w.0 w.1 in
    let high = y.greatest v.0 v.1 in
    let one = v.2 in
    let two = w.2 in
    omega (arith, low, high, one, two)

-- ---- their order

pub best_to_worst : (t : DecisionTable) (list : List Statement) (a best worst : ℕ) → IsBestRank t list a best → IsWorstRank t list a worst → best ≤ worst
best_to_worst t list a best worst x y =
    let w = y.given in
    let low = x.least w.0 w.1 in
    let is = w.2 in
    omega (arith, low, is)

-- by each function a rank is one of the table
rank_within : (t : DecisionTable) (w : List ℤ) (a : ℕ) → a < length t.alternatives → (1 ≤ rank_by t w a) × (rank_by t w a ≤ length t.alternatives)
rank_within t w a of_table =
    let e = ranks_are_counts t w Best a of_table in
    let few = counted_few t w Best a of_table in
    (omega arith, omega (arith, e, few))

pub extreme_within : (t : DecisionTable) (list : List Statement) (side : Side) (a r : ℕ) → a < length t.alternatives → IsExtremeRank t list side a r → (1 ≤ r) × (r ≤ length t.alternatives)
extreme_within t list Best a r of_table x =
    let w = x.given in
    let is = w.2 in
    let within = rank_within t w.0 a of_table in
    let low = within.0 in
    let high = within.1 in
    (omega (arith, is, low), omega (arith, is, high))
extreme_within t list Worst a r of_table x =
    let w = x.given in
    let is = w.2 in
    let within = rank_within t w.0 a of_table in
    let low = within.0 in
    let high = within.1 in
    (omega (arith, is, low), omega (arith, is, high))

-- ---- what is always above

above_member : (t : DecisionTable) (w : List ℤ) (a b : ℕ) → b < length t.alternatives → is_above t w a b ≡ true → is_member nat_eq (above t w a) b ≡ true
above_member t w a b of_table is =
    let n = length t.alternatives in
    member_filter (is_above t w a) (range_with_len 0 n) b (in_range b n 0 (omega arith) (omega arith)) is

always_above : (t : DecisionTable) (list : List Statement) (a : ℕ) (bs : List ℕ) (w : List ℤ) → AreAlwaysAbove t list a bs → IsCompatible t list w → length bs + 1 ≤ rank_by t w a
always_above t list a bs w are compatible = let few = fewer bs (above t w a) are.different within in omega (arith, few)
  where
    more : (q : ℕ) → is_member nat_eq bs q ≡ true → value t w a <ℤ value t w q
    more q h = all_member (λ b. (v : List ℤ) → IsCompatible t list v → value t v a <ℤ value t v b) bs q are.more h w compatible

    within : IsWithinSet bs (above t w a)
    within q h = above_member t w a q (all_member (λ b. b < length t.alternatives) bs q are.of_table h) (more_is_above t w a q (more q h))

pub always_above_counts : (t : DecisionTable) (list : List Statement) (side : Side) (a r : ℕ) (bs : List ℕ) → AreAlwaysAbove t list a bs → IsExtremeRank t list side a r → length bs + 1 ≤ r
always_above_counts t list Best a r bs are x =
    let w = x.given in
    let many = always_above t list a bs w.0 are w.1 in
    let is = w.2 in
    omega (arith, many, is)
always_above_counts t list Worst a r bs are x =
    let w = x.given in
    let many = always_above t list a bs w.0 are w.1 in
    let is = w.2 in
    omega (arith, many, is)

-- ---- more statements

front-pieces : {X Y : Type 0} (P : Y → Type 0) (f : X → List Y) (xs ys : List X) → AllByRecursion P (flat_map f (xs ++ ys)) → AllByRecursion P (flat_map f xs)
front-pieces P f [] ys all = tt
front-pieces P f (x ∷ xs) ys all =
    all-append P (f x) (flat_map f xs) (all-front P (f x) (flat_map f (xs ++ ys)) all) (front-pieces P f xs ys (all-back P (f x) (flat_map f (xs ++ ys)) all))

-- of each of some, the pieces by all of a list, and so by the first of it
fewer-pieces : {X Y : Type 0} (P : Y → Type 0) (f : X → X → List Y) (zs xs ys : List X) → AllByRecursion P (flat_map (λ r. flat_map (f r) (xs ++ ys)) zs) → AllByRecursion P (flat_map (λ r. flat_map (f r) xs) zs)
fewer-pieces P f [] xs ys all = tt
fewer-pieces P f (z ∷ zs) xs ys all =
    let here = flat_map (f z) (xs ++ ys) in
    let more = flat_map (λ r. flat_map (f r) (xs ++ ys)) zs in
    all-append P (flat_map (f z) xs) (flat_map (λ r. flat_map (f r) xs) zs)
    (front-pieces P (f z) xs ys (all-front P here more all))
    (fewer-pieces P f zs xs ys (all-back P here more all))

said_before : (P : Comparison → Type 0) (xs ys : List Statement) → AllByRecursion P (comparisons_of (xs ++ ys)) → AllByRecursion P (comparisons_of xs)
said_before P xs ys all =
    let own = flat_map (λ s. option_to_list (comparison_of s)) (xs ++ ys) in
    let pairs = class_comparisons (xs ++ ys) in
    all-append P (flat_map (λ s. option_to_list (comparison_of s)) xs) (class_comparisons xs)
    (front-pieces P (λ s. option_to_list (comparison_of s)) xs ys (all-front P own pairs all))
    (fewer-pieces P outranking xs xs ys (front-pieces P (λ r. flat_map (outranking r) (xs ++ ys)) xs ys (all-back P own pairs all)))

-- a function that is compatible with more is compatible with less
pub compatible_before : (t : DecisionTable) (list more : List Statement) (w : List ℤ) → IsCompatible t (list ++ more) w → IsCompatible t list w
compatible_before t list more w compatible = record {
  function = compatible.function;
  meets = said_before (Holds t w) list more compatible.meets;
}

pub from_stays : (t : DecisionTable) (list more : List Statement) (a r : ℕ) → EveryRankIsFrom t list a r → EveryRankIsFrom t (list ++ more) a r
from_stays t list more a r every w compatible = every w (compatible_before t list more w compatible)

pub to_stays : (t : DecisionTable) (list more : List Statement) (a r : ℕ) → EveryRankIsTo t list a r → EveryRankIsTo t (list ++ more) a r
to_stays t list more a r every w compatible = every w (compatible_before t list more w compatible)

pub best_stays : (t : DecisionTable) (list more : List Statement) (a r s : ℕ) → IsBestRank t list a r → IsBestRank t (list ++ more) a s → r ≤ s
best_stays t list more a r s x y =
    let w = y.given in
    let low = from_stays t list more a r x.least w.0 w.1 in
    let is = w.2 in
    omega (arith, low, is)

pub worst_stays : (t : DecisionTable) (list more : List Statement) (a r s : ℕ) → IsWorstRank t list a r → IsWorstRank t (list ++ more) a s → s ≤ r
worst_stays t list more a r s x y =
    let w = y.given in
    let high = to_stays t list more a r x.greatest w.0 w.1 in
    let is = w.2 in
    omega (arith, high, is)

-- ---- best rank 1

has_one : (xs : List ℕ) (q : ℕ) → is_member nat_eq xs q ≡ true → 1 ≤ length xs
has_one [] q h = absurd cc
has_one (x ∷ xs) q h = omega arith

-- where the rank is 1, none is worth more
none_more : (t : DecisionTable) (w : List ℤ) (a b : ℕ) → rank_by t w a ≡ 1 → b < length t.alternatives → value t w b ≤ℤ value t w a
none_more t w a b first of_table = elim (cases_Bool (is_above t w a b)) [
  | inl is ↦ let one = has_one (above t w a) b (above_member t w a b of_table is) in absurd (omega (arith, one, first))
  | inr no_ ↦ not_above_is_no_more t w a b no_
]

none_is_above : (t : DecisionTable) (w : List ℤ) (a : ℕ) → ((b : ℕ) → b < length t.alternatives → value t w b ≤ℤ value t w a) → rank_by t w a ≡ 1
none_is_above t w a none =
    let n = length t.alternatives in
    let few = fewer (above t w a) [] (distinct_filter (is_above t w a) (range_with_len 0 n) (range_distinct n 0)) empty in
    omega (arith, few)
  where
    empty : IsWithinSet (above t w a) []
    empty q h =
        let n = length t.alternatives in
        let parts = member_filter_parts (is_above t w a) (range_with_len 0 n) q h in
        let of_table = all_member (λ k. k < n) (range_with_len 0 n) q (range_below n 0 n (omega arith)) parts.0 in
        absurd (true≢false (sym parts.1 ∙ no_more_is_not_above t w a q (none q of_table)))

pub best_rank_one : (t : DecisionTable) (list : List Statement) (a : ℕ) → IsBestRank t list a 1 ↔ ((w : List ℤ) × IsFirstBy t list a w)
best_rank_one t list a = (
  λ x. let w = x.given in (w.0, record { compatible = w.1; above_none = λ b of_table. none_more t w.0 a b w.2 of_table }),
  λ h. record { given = (h.0, h.1.compatible, none_is_above t h.0 a h.1.above_none); least = λ w compatible. omega arith },
)
