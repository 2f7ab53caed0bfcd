-- The alternatives that count on a side: how many they are for each rank, and what the rows of a side say of them.
use Rattle.std.proofs.Common.{◌≡◌, ◌↔◌, ℕ, zero, suc, ◌+◌, ◌<◌, ◌≤◌, true, false, List, [], ◌∷◌, length, ℤ, ◌≤ℤ◌, ◌<ℤ◌, int_lt, inl, inr, refl, sym, ap, subst, arith}
use Rattle.std.specs.Prelude.{nat_eq, nat_lt, nat_le, not, ◌==◌, ◌&&◌}
use Rattle.std.specs.List.{AllByRecursion, IsDistinct, filter, range_with_len}
use Rattle.std.specs.Set.{is_member}
use Rattle.std.proofs.lemmas.Bool.{cases_Bool, and_parts, and_from, not-true, not-false, not_from_false, not_from_true, leb-true, ltb-true, le-leb, lt-ltb, eqb-true, eq-eqb, ne_eqb, cases_eq}
use Rattle.std.proofs.lemmas.Int.{ints}
use Rattle.std.proofs.lemmas.List.Filters.{length-filter_both}
use Rattle.ror_statement.specs.declared.statement.Statement.{Statement}
use Rattle.ror_table.specs.Table.{DecisionTable}
use Rattle.ror_system.specs.System.{LinearSystem, Solves}
use Rattle.ror_value.specs.Over.{IsLawfulIn}
use Rattle.ror_value.specs.Value.{value}
use Rattle.ror_value.specs.Meaning.{Holds, IsCompatible}
use Rattle.ror_rows.specs.Rows.{comparison_of_extra, system_for}
use Rattle.ror_rows.specs.Laws.{AreNamed}
use Rattle.ror_rows.proofs.Extending.{extended_is}
use Rattle.ror_rows.proofs.Holding.{rows_hold_extra}
use Rattle.ror_check.specs.Proof.{base_system}
use Rattle.ror_ranks.specs.declared.extreme.Side.{Side}
use Rattle.ror_ranks.specs.declared.extreme.Side.TheVariants.{Best, Worst}
use Rattle.ror_ranks.specs.Ranks.{is_above, above, rank_by, others, counts, counted, rank_of_count}
use Rattle.ror_ranks.specs.Conflicts.{are_others_from, others_but, row_on, comparisons_on, side_system}
use Rattle.ror_ranks.proofs.Sets.{all_member, all_members, range_below, range_distinct, in_range, member_filter, member_filter_parts, distinct_filter, filter_twice}

-- ---- comparisons of values

is_less : (x y : ℤ) → int_lt x y ≡ true → x <ℤ y
is_less x y is = grind (arith, ints)

is_no_less : (x y : ℤ) → int_lt x y ≡ false → y ≤ℤ x
is_no_less x y is = grind (arith, ints)

less_is : (x y : ℤ) → x <ℤ y → int_lt x y ≡ true
less_is x y less = elim (cases_Bool (int_lt x y)) [
  | inl yes_ ↦ yes_
  | inr no_ ↦ absurd (grind (arith, ints))
]

no_less_is : (x y : ℤ) → y ≤ℤ x → int_lt x y ≡ false
no_less_is x y le = elim (cases_Bool (int_lt x y)) [
  | inl yes_ ↦ absurd (grind (arith, ints))
  | inr no_ ↦ no_
]

pub above_is_more : (t : DecisionTable) (w : List ℤ) (a b : ℕ) → is_above t w a b ≡ true → value t w a <ℤ value t w b
above_is_more t w a b is = is_less (value t w a) (value t w b) is

pub more_is_above : (t : DecisionTable) (w : List ℤ) (a b : ℕ) → value t w a <ℤ value t w b → is_above t w a b ≡ true
more_is_above t w a b more = less_is (value t w a) (value t w b) more

pub not_above_is_no_more : (t : DecisionTable) (w : List ℤ) (a b : ℕ) → is_above t w a b ≡ false → value t w b ≤ℤ value t w a
not_above_is_no_more t w a b is = is_no_less (value t w a) (value t w b) is

pub no_more_is_not_above : (t : DecisionTable) (w : List ℤ) (a b : ℕ) → value t w b ≤ℤ value t w a → is_above t w a b ≡ false
no_more_is_not_above t w a b le = no_less_is (value t w a) (value t w b) le

-- ---- the others

pub record IsOther (t : DecisionTable) (a b : ℕ) : Type 0 where
  pub of_table : b < length t.alternatives
  pub apart : (b == a) ≡ false

pub other_member : (t : DecisionTable) (a b : ℕ) → IsOther t a b → is_member nat_eq (others t a) b ≡ true
other_member t a b other =
    let n = length t.alternatives in
    let there = other.of_table in
    member_filter (λ c. not (c == a)) (range_with_len 0 n) b (in_range b n 0 (omega arith) (omega arith)) (not_from_false (b == a) other.apart)

pub member_other : (t : DecisionTable) (a b : ℕ) → is_member nat_eq (others t a) b ≡ true → IsOther t a b
member_other t a b h =
    let n = length t.alternatives in
    let parts = member_filter_parts (λ c. not (c == a)) (range_with_len 0 n) b h in record {
      of_table = all_member (λ k. k < n) (range_with_len 0 n) b (range_below n 0 n (omega arith)) parts.0;
      apart = not-true (b == a) parts.1;
    }

pub others_distinct : (t : DecisionTable) (a : ℕ) → IsDistinct nat_eq (others t a)
others_distinct t a = distinct_filter (λ b. not (b == a)) (range_with_len 0 (length t.alternatives)) (range_distinct (length t.alternatives) 0)

-- the first of a set, and the rest behind it
pub record IsFirstOfSet (n a from b : ℕ) (bs : List ℕ) : Type 0 where
  pub low : from ≤ b
  pub of_table : b < n
  pub apart : (b == a) ≡ false
  pub rest : are_others_from n a (b + 1) bs ≡ true

pub set_parts : (n a from b : ℕ) (bs : List ℕ) → are_others_from n a from (b ∷ bs) ≡ true → IsFirstOfSet n a from b bs
set_parts n a from b bs are =
    let parts = and_parts (nat_le from b && nat_lt b n && not (b == a)) (are_others_from n a (b + 1) bs) are in
    let front = and_parts (nat_le from b && nat_lt b n) (not (b == a)) parts.0 in
    let ends = and_parts (nat_le from b) (nat_lt b n) front.0 in
    record { low = leb-true from b ends.0; of_table = ltb-true b n ends.1; apart = not-true (b == a) front.1; rest = parts.1 }

pub set_of_parts : (n a from b : ℕ) (bs : List ℕ) → IsFirstOfSet n a from b bs → are_others_from n a from (b ∷ bs) ≡ true
set_of_parts n a from b bs is =
    and_from (nat_le from b && nat_lt b n && not (b == a)) (are_others_from n a (b + 1) bs)
    (and_from (nat_le from b && nat_lt b n) (not (b == a)) (and_from (nat_le from b) (nat_lt b n) (le-leb from b is.low) (lt-ltb b n is.of_table)) (not_from_false (b == a) is.apart))
    is.rest

-- a set of others has others alone
pub set_others : (t : DecisionTable) (a from : ℕ) (members : List ℕ) → are_others_from (length t.alternatives) a from members ≡ true → AllByRecursion (IsOther t a) members
set_others t a from [] are = tt
set_others t a from (b ∷ bs) are =
    let parts = set_parts (length t.alternatives) a from b bs are in
    (record { of_table = parts.of_table; apart = parts.apart }, set_others t a (b + 1) bs parts.rest)

pub others_but_others : (t : DecisionTable) (a : ℕ) (except : List ℕ) → AllByRecursion (IsOther t a) (others_but t a except)
others_but_others t a except = all_members (IsOther t a) (others_but t a except)
    (λ b h. member_other t a b (member_filter_parts (λ c. not (is_member nat_eq except c)) (others t a) b h).0)

-- ---- how many

-- all places but one
all_but_one : (a m s : ℕ) → s ≤ a → a < s + m → length (filter (λ b. not (b == a)) (range_with_len s m)) + 1 ≡ m
all_but_one a zero s low high = absurd (omega arith)
all_but_one a (suc m) s low high = elim (cases_eq s a) [
  | inl same ↦ let here : (s == a) ≡ true = eq-eqb s a same in let rest = all_past a m (s + 1) (omega arith) in rw here (omega (arith, rest))
  | inr apart ↦
      let here : (s == a) ≡ false = ne_eqb s a apart in
      let rest = all_but_one a m (s + 1) (grind (arith, apart)) (omega arith) in
      rw here (omega (arith, rest))
]
  where
    all_past : (a m s : ℕ) → a < s → length (filter (λ b. not (b == a)) (range_with_len s m)) ≡ m
    all_past a zero s past = refl
    all_past a (suc m) s past =
        let here : (s == a) ≡ false = ne_eqb s a (λ e. omega arith) in
        let rest = all_past a m (s + 1) (omega arith) in
        rw here (omega (arith, rest))

pub others_number : (t : DecisionTable) (a : ℕ) → a < length t.alternatives → length (others t a) + 1 ≡ length t.alternatives
others_number t a of_table = all_but_one a (length t.alternatives) 0 (omega arith) (omega arith)

-- what is above an alternative is another one
not_itself : (t : DecisionTable) (w : List ℤ) (a b : ℕ) → is_above t w a b ≡ true → not (b == a) ≡ true
not_itself t w a b is = elim (cases_Bool (b == a)) [
  | inl same ↦
      let e : b ≡ a = eqb-true b a same in
      let more : value t w a <ℤ value t w a = subst (λ (c : ℕ). value t w a <ℤ value t w c) e (above_is_more t w a b is) in
      absurd (grind (arith, ints))
  | inr apart ↦ not_from_false (b == a) apart
]

above_others : (t : DecisionTable) (w : List ℤ) (a : ℕ) → filter (is_above t w a) (others t a) ≡ above t w a
above_others t w a = filter_twice (is_above t w a) (λ b. not (b == a)) (range_with_len 0 (length t.alternatives)) (not_itself t w a)

-- by a function the rank is that of how many of the others count
pub ranks_are_counts : (t : DecisionTable) (w : List ℤ) (side : Side) (a : ℕ) → a < length t.alternatives
    → rank_by t w a ≡ rank_of_count side (length t.alternatives) (length (counted t w side a))
ranks_are_counts t w Best a of_table =
    let e = ap length (above_others t w a) in
    omega (arith, e)
ranks_are_counts t w Worst a of_table =
    let e = ap length (above_others t w a) in
    let both = length-filter_both (is_above t w a) (λ b. not (is_above t w a b)) (λ b. refl) (others t a) in
    let number = others_number t a of_table in
    omega (arith, e, both, number)

-- no more count than there are others
pub counted_few : (t : DecisionTable) (w : List ℤ) (side : Side) (a : ℕ) → a < length t.alternatives → length (counted t w side a) + 1 ≤ length t.alternatives
counted_few t w side a of_table =
    let p = counts t w side a in
    let both = length-filter_both p (λ b. not (p b)) (λ b. refl) (others t a) in
    let number = others_number t a of_table in
    omega (arith, both, number)

pub counted_distinct : (t : DecisionTable) (w : List ℤ) (side : Side) (a : ℕ) → IsDistinct nat_eq (counted t w side a)
counted_distinct t w side a = distinct_filter (counts t w side a) (others t a) (others_distinct t a)

-- ---- what the rows of a side say

module _ (t : DecisionTable) (list : List Statement) (a : ℕ) where
  row_holds : (w : List ℤ) (side : Side) (b : ℕ) → (counts t w side a b ≡ false) ↔ Holds t w (comparison_of_extra (row_on side a b))
  row_holds w Best b = (λ no. not_above_is_no_more t w a b no, λ holds. no_more_is_not_above t w a b holds)
  row_holds w Worst b = (
    λ no. above_is_more t w a b (not-false (is_above t w a b) no),
    λ holds. not_from_true (is_above t w a b) (more_is_above t w a b holds),
  )

  pub rows_hold : (w : List ℤ) (side : Side) (members : List ℕ) → AllByRecursion (λ b. counts t w side a b ≡ false) members ↔ AllByRecursion (Holds t w) (comparisons_on side a members)
  rows_hold w side [] = (λ none. tt, λ none. tt)
  rows_hold w side (b ∷ bs) =
      let here = row_holds w side b in
      let rest = rows_hold w side bs in
      (λ no. (here.0 no.0, rest.0 no.1), λ hold. (here.1 hold.0, rest.1 hold.1))

  pub rows_named : (side : Side) (members : List ℕ) → a < length t.alternatives → AllByRecursion (IsOther t a) members → AreNamed t (comparisons_on side a members)
  rows_named side [] of_table are = tt
  rows_named Best (b ∷ bs) of_table are = ((of_table, are.0.of_table), rows_named Best bs of_table are.1)
  rows_named Worst (b ∷ bs) of_table are = ((are.0.of_table, of_table), rows_named Worst bs of_table are.1)

  pub side_system_is : (side : Side) (members : List ℕ) → side_system t (base_system t list) side a members ≡ system_for t list (comparisons_on side a members)
  side_system_is side members =
      extended_is t list (comparisons_on side a members) (base_system t list) (side_system t (base_system t list) side a members) refl refl

  -- what solves the system of a set is compatible with the list, and by it none of the set counts
  pub side_solves : (w : List ℤ) (side : Side) (members : List ℕ) → IsLawfulIn t list → a < length t.alternatives → AllByRecursion (IsOther t a) members
      → (IsCompatible t list w × AllByRecursion (λ b. counts t w side a b ≡ false) members) ↔ Solves (side_system t (base_system t list) side a members) w
  side_solves w side members lawful of_table are =
      let e = side_system_is side members in
      let both = rows_hold_extra t list (comparisons_on side a members) w lawful (rows_named side members of_table are) in
      let rows = rows_hold w side members in (
        λ h. subst (λ (s : LinearSystem). Solves s w) (sym e) (both.0 (h.0, rows.0 h.1)),
        λ s. let h = both.1 (subst (λ (s : LinearSystem). Solves s w) e s) in (h.0, rows.1 h.1),
      )
