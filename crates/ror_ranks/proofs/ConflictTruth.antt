-- What is proved of conflicts, functions and intervals is true of all compatible functions.
use Rattle.std.proofs.Common.{◌≡◌, ℕ, ◌<◌, ◌≤◌, true, false, List, [], ◌∷◌, length, ℤ, inl, inr, sym, subst, ◌∙◌, arith}
use Rattle.std.specs.Prelude.{nat_eq, not}
use Rattle.std.specs.List.{AllByRecursion, list_any, range_with_len}
use Rattle.std.specs.Set.{is_member}
use Rattle.std.proofs.lemmas.Bool.{cases_Bool, not_from_false, true≢false}
use Rattle.ror_text.proofs.Everywhere.{all-map, all-by, all-pieces}
use Rattle.ror_statement.specs.declared.statement.Statement.{Statement}
use Rattle.ror_table.specs.Table.{DecisionTable}
use Rattle.ror_system.proofs.Motzkin.{not_both}
use Rattle.ror_value.specs.Over.{IsLawfulIn}
use Rattle.ror_value.specs.Meaning.{IsCompatible}
use Rattle.ror_check.specs.Proof.{base_system}
use Rattle.ror_ranks.specs.declared.extreme.Side.{Side}
use Rattle.ror_ranks.specs.declared.extreme.Side.TheVariants.{Best, Worst}
use Rattle.ror_ranks.specs.declared.extreme.Conflict.{Conflict}
use Rattle.ror_ranks.specs.declared.extreme.Interval.{Interval}
use Rattle.ror_ranks.specs.declared.extreme.Extreme.{Extreme}
use Rattle.ror_ranks.specs.declared.extreme.Said.{Said}
use Rattle.ror_ranks.specs.declared.extreme.Said.TheVariants as said
use Rattle.ror_ranks.specs.Ranks.{rank_by, others, counts, counted}
use Rattle.ror_ranks.specs.Conflicts.{others_but, side_system, IsConflict, IsProvedConflict}
use Rattle.ror_ranks.specs.Trees.{share}
use Rattle.ror_ranks.specs.Proof.{fewest, allowed, IsProvedOfAll, IsProvedOfOne, IsProvedInterval, IsTrueInterval, IsProvedSaid, IsTrueSaid, IsProvedExtreme, IsTrueExtreme, both_sides, due_extremes, extreme_of, AreDue, AreProvedRanks, AreTrueRanks, AreEnds}
use Rattle.ror_ranks.specs.Laws.{MeetsEach}
use Rattle.ror_ranks.proofs.Sets.{IsWithinSet, contains_member, any_some, any_none, all_member, share_from, fewer, member_filter, member_filter_parts, range_below}
use Rattle.ror_ranks.proofs.Counting.{IsOther, other_member, set_others, others_but_others, ranks_are_counts, counted_distinct, side_solves}
use Rattle.ror_ranks.proofs.TreeCounts.{trees_count}

module _ (t : DecisionTable) (list : List Statement) (lawful : IsLawfulIn t list) (side : Side) (a : ℕ) (of_table : a < length t.alternatives) where
  -- ---- conflicts

  -- a member that counts, by a compatible function
  counting : (w : List ℤ) (c : Conflict) → IsCompatible t list w → IsProvedConflict t (base_system t list) side a c
      → (b : ℕ) × (is_member nat_eq c.members b ≡ true) × (counts t w side a b ≡ true)
  counting w c compatible proved = elim (cases_Bool (list_any (counts t w side a) c.members)) [
    | inl some ↦ any_some (counts t w side a) c.members some
    | inr none ↦
        let are = set_others t a 0 c.members proved.others in
        let solves = (side_solves t list a w side c.members lawful of_table are).0 (compatible, any_none (counts t w side a) c.members none) in
        absurd (not_both (side_system t (base_system t list) side a c.members) c.multipliers.weak c.multipliers.strict proved.refuted.refute (w, solves))
  ]

  pub conflict_true : (c : Conflict) → IsProvedConflict t (base_system t list) side a c → IsConflict t list side a c.members
  conflict_true c proved w compatible = let r = counting w c compatible proved in (r.0, contains_member c.members r.0 r.1, r.2)

  -- what counts by a compatible function meets each proved conflict
  meets_one : (w : List ℤ) (c : Conflict) → IsCompatible t list w → IsProvedConflict t (base_system t list) side a c → share c.members (counted t w side a) ≡ true
  meets_one w c compatible proved =
      let r = counting w c compatible proved in
      let other : IsOther t a r.0 = all_member (IsOther t a) c.members r.0 (set_others t a 0 c.members proved.others) r.1 in
      share_from c.members (counted t w side a) r.0 r.1 (member_filter (counts t w side a) (others t a) r.0 (other_member t a r.0 other) r.2)

  meets_each : (w : List ℤ) (conflicts : List Conflict) → IsCompatible t list w → AllByRecursion (IsProvedConflict t (base_system t list) side a) conflicts → MeetsEach conflicts (counted t w side a)
  meets_each w conflicts compatible proved =
      all-by (IsProvedConflict t (base_system t list) side a) (λ c. share c.members (counted t w side a) ≡ true) conflicts (λ c one. meets_one w c compatible one) proved

  -- ---- the two bounds

  -- by every compatible function as many count as the tree shows
  pub many_count : (x : Interval) (w : List ℤ) → IsProvedOfAll t (base_system t list) side a x → IsCompatible t list w
      → fewest side (length t.alternatives) x ≤ length (counted t w side a)
  many_count x w proved compatible =
      trees_count x.conflicts (fewest side (length t.alternatives) x) x.tree (counted t w side a) proved.tree (counted_distinct t w side a) (meets_each w x.conflicts compatible proved.conflicts)

  -- the steps of the function are compatible, and by them none counts but the exceptions
  reached : (x : Interval) → IsProvedOfOne t (base_system t list) side a x
      → IsCompatible t list x.function.steps × AllByRecursion (λ b. counts t x.function.steps side a b ≡ false) (others_but t a x.except)
  reached x proved =
      (side_solves t list a x.function.steps side (others_but t a x.except) lawful of_table (others_but_others t a x.except)).1 proved.reached.accepted.solves

  counted_excepted : (x : Interval) → IsProvedOfOne t (base_system t list) side a x → IsWithinSet (counted t x.function.steps side a) x.except
  counted_excepted x proved q h = elim (cases_Bool (is_member nat_eq x.except q)) [
    | inl excepted ↦ excepted
    | inr no_ ↦
        let parts = member_filter_parts (counts t x.function.steps side a) (others t a) q h in
        let rest : is_member nat_eq (others_but t a x.except) q ≡ true = member_filter (λ b. not (is_member nat_eq x.except b)) (others t a) q parts.0 (not_from_false (is_member nat_eq x.except q) no_) in
        let none : counts t x.function.steps side a q ≡ false = all_member (λ b. counts t x.function.steps side a b ≡ false) (others_but t a x.except) q (reached x proved).1 rest in
        absurd (true≢false (sym parts.1 ∙ none))
  ]

  few_count : (x : Interval) → IsProvedOfOne t (base_system t list) side a x → length (counted t x.function.steps side a) ≤ allowed side (length t.alternatives) x
  few_count x proved =
      let few = fewer (counted t x.function.steps side a) x.except (counted_distinct t x.function.steps side a) (counted_excepted x proved) in
      let number = proved.number in
      omega (arith, few, number)

-- ---- ranks by counts

module _ (t : DecisionTable) (a : ℕ) (of_table : a < length t.alternatives) (x : Interval) (ends : AreEnds t x) where
  -- a count within the bounds is a rank within the ends
  from_best : (w : List ℤ) → fewest Best (length t.alternatives) x ≤ length (counted t w Best a) → x.from ≤ rank_by t w a
  from_best w many = let e = ranks_are_counts t w Best a of_table in let first = ends.first in omega (arith, e, many, first)

  to_best : (w : List ℤ) → length (counted t w Best a) ≤ allowed Best (length t.alternatives) x → rank_by t w a ≤ x.to
  to_best w few =
      let e = ranks_are_counts t w Best a of_table in
      let first = ends.first in
      let ordered = ends.ordered in
      omega (arith, e, few, first, ordered)

  to_worst : (w : List ℤ) → fewest Worst (length t.alternatives) x ≤ length (counted t w Worst a) → rank_by t w a ≤ x.to
  to_worst w many = let e = ranks_are_counts t w Worst a of_table in let last = ends.last in omega (arith, e, many, last)

  from_worst : (w : List ℤ) → length (counted t w Worst a) ≤ allowed Worst (length t.alternatives) x → x.from ≤ rank_by t w a
  from_worst w few =
      let e = ranks_are_counts t w Worst a of_table in
      let last = ends.last in
      let ordered = ends.ordered in
      omega (arith, e, few, last, ordered)

  -- where the ends are one, what is within them is it
  between : (r : ℕ) → x.from ≤ r → r ≤ x.to → x.from ≡ x.to → r ≡ x.from
  between r low high same = omega (arith, low, high, same)

-- ---- intervals

module _ (t : DecisionTable) (list : List Statement) (lawful : IsLawfulIn t list) (a : ℕ) (of_table : a < length t.alternatives) (x : Interval) where
  best_true : IsProvedInterval t (base_system t list) Best a x → IsTrueInterval t list Best a x
  best_true proved = record {
    within = (low, (w, compatible, high));
    one = λ same. record {
      given = (w, compatible, between t a of_table x proved.ends (rank_by t w a) (low w compatible) high same);
      least = low;
    };
  }
    where
      w : List ℤ
      w = x.function.steps

      compatible : IsCompatible t list w
      compatible = (reached t list lawful Best a of_table x proved.of_one).0

      low : (v : List ℤ) → IsCompatible t list v → x.from ≤ rank_by t v a
      low v is = from_best t a of_table x proved.ends v (many_count t list lawful Best a of_table x v proved.of_all is)

      high : rank_by t w a ≤ x.to
      high = to_best t a of_table x proved.ends w (few_count t list lawful Best a of_table x proved.of_one)

  worst_true : IsProvedInterval t (base_system t list) Worst a x → IsTrueInterval t list Worst a x
  worst_true proved = record {
    within = ((w, compatible, low), high);
    one = λ same. record {
      given = (w, compatible, between t a of_table x proved.ends (rank_by t w a) low (high w compatible) same);
      greatest = λ v is. subst (λ (n : ℕ). rank_by t v a ≤ n) (sym same) (high v is);
    };
  }
    where
      w : List ℤ
      w = x.function.steps

      compatible : IsCompatible t list w
      compatible = (reached t list lawful Worst a of_table x proved.of_one).0

      high : (v : List ℤ) → IsCompatible t list v → rank_by t v a ≤ x.to
      high v is = to_worst t a of_table x proved.ends v (many_count t list lawful Worst a of_table x v proved.of_all is)

      low : x.from ≤ rank_by t w a
      low = from_worst t a of_table x proved.ends w (few_count t list lawful Worst a of_table x proved.of_one)

pub interval_true : (t : DecisionTable) (list : List Statement) (side : Side) (a : ℕ) (x : Interval) → IsLawfulIn t list → a < length t.alternatives
    → IsProvedInterval t (base_system t list) side a x → IsTrueInterval t list side a x
interval_true t list Best a x lawful of_table proved = best_true t list lawful a of_table x proved
interval_true t list Worst a x lawful of_table proved = worst_true t list lawful a of_table x proved

said_true : (t : DecisionTable) (list : List Statement) (side : Side) (a : ℕ) (s : Said) → IsLawfulIn t list → a < length t.alternatives
    → IsProvedSaid t (base_system t list) side a s → IsTrueSaid t list side a s
said_true t list side a (said.Within x) lawful of_table proved = interval_true t list side a x lawful of_table proved
said_true t list side a (said.Wide x) lawful of_table proved = tt

-- ---- all extreme ranks

-- what is due is of the table
due_of_table : (n : ℕ) → AllByRecursion (λ (p : ℕ × Side). p.0 < n) (due_extremes n)
due_of_table n = all-pieces (λ (p : ℕ × Side). p.0 < n) both_sides (range_with_len 0 n)
    (all-by (λ k. k < n) (λ k. AllByRecursion (λ (p : ℕ × Side). p.0 < n) (both_sides k)) (range_with_len 0 n) (λ k within. (within, (within, tt))) (range_below n 0 n (omega arith)))

pub due_within : (t : DecisionTable) (xs : List Extreme) → AreDue t xs → AllByRecursion (λ (x : Extreme). x.alternative < length t.alternatives) xs
due_within t xs due =
    let n = length t.alternatives in
    (all-map (λ (p : ℕ × Side). p.0 < n) extreme_of xs).1 (subst (AllByRecursion (λ (p : ℕ × Side). p.0 < n)) (sym due) (due_of_table n))

each_true : (t : DecisionTable) (list : List Statement) (xs : List Extreme) → IsLawfulIn t list → AllByRecursion (λ (x : Extreme). x.alternative < length t.alternatives) xs
    → AllByRecursion (IsProvedExtreme t (base_system t list)) xs → AllByRecursion (IsTrueExtreme t list) xs
each_true t list [] lawful of_table proved = tt
each_true t list (x ∷ xs) lawful of_table proved =
    (said_true t list x.side x.alternative x.said lawful of_table.0 proved.0, each_true t list xs lawful of_table.1 proved.1)

-- what is proved of the extreme ranks over a list is true
pub proved_ranks_true : (t : DecisionTable) (list : List Statement) (xs : List Extreme) → IsLawfulIn t list → AreProvedRanks t list xs → AreTrueRanks t list xs
proved_ranks_true t list xs lawful proved = record {
  due = proved.due;
  each = each_true t list xs lawful (due_within t xs proved.due) proved.each;
}

pub proved_conflicts_true : (t : DecisionTable) (list : List Statement) (side : Side) (a : ℕ) (c : Conflict) → IsLawfulIn t list → a < length t.alternatives
    → IsProvedConflict t (base_system t list) side a c → IsConflict t list side a c.members
proved_conflicts_true t list side a c lawful of_table proved = conflict_true t list lawful side a of_table c proved
