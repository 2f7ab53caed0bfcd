-- The alternatives that may count by a function meet each conflict, so that no tree shows more than they are.
use Rattle.std.proofs.Common.{◌≡◌, ℕ, ◌≤◌, true, false, List, [], ◌∷◌, length, ℤ, pos, ◌≤ℤ◌, ◌<ℤ◌, inl, inr, sym, subst}
use Rattle.std.specs.Prelude.{nat_eq, not}
use Rattle.std.specs.List.{AllByRecursion, flat_map}
use Rattle.std.specs.Set.{is_member}
use Rattle.std.proofs.lemmas.Bool.{cases_Bool, not_from_false}
use Rattle.ror_integers.specs.Vectors.{dot}
use Rattle.ror_text.proofs.Everywhere.{all-append, all-front, all-back, all-by}
use Rattle.ror_statement.specs.declared.comparison.Comparison.{Comparison}
use Rattle.ror_table.specs.Table.{DecisionTable}
use Rattle.ror_system.specs.System.{LinearSystem, Solves}
use Rattle.ror_system.specs.declared.accept.Solution.{Solution}
use Rattle.ror_system.proofs.Motzkin.{not_both}
use Rattle.ror_rows.specs.Rows.{comparison_of_extra, weak_rows, strict_rows, weak_rows_for, strict_rows_for}
use Rattle.ror_check.proofs.Numbers.{member-here, member-later, member-cases}
use Rattle.ror_ranks.specs.declared.extreme.Side.{Side}
use Rattle.ror_ranks.specs.declared.extreme.Conflict.{Conflict}
use Rattle.ror_ranks.specs.declared.extreme.Node.{Node}
use Rattle.ror_ranks.specs.Ranks.{others}
use Rattle.ror_ranks.specs.Conflicts.{others_but, row_on, comparisons_on, side_system, IsProvedConflict, IsReached}
use Rattle.ror_ranks.specs.Trees.{share, IsTree}
use Rattle.ror_ranks.proofs.Sets.{IsWithinSet, all_member, share_none, member_filter}
use Rattle.ror_ranks.proofs.Counting.{IsOther, other_member, set_others}
use Rattle.ror_ranks.proofs.OthersLemmas.{set_distinct}
use Rattle.ror_ranks.proofs.TreeCounts.{trees_count}

-- ---- the rows of some of a set

module _ {X : Type 0} (P : X → Type 0) (f : Comparison → List X) (side : Side) (a : ℕ) where
  rows_of_member : (set : List ℕ) (b : ℕ) → is_member nat_eq set b ≡ true → AllByRecursion P (flat_map f (comparisons_on side a set)) → AllByRecursion P (f (comparison_of_extra (row_on side a b)))
  rows_of_member [] b h all = absurd cc
  rows_of_member (x ∷ xs) b h all = elim (member-cases x b xs h) [
    | inl same ↦ subst (λ (n : ℕ). AllByRecursion P (f (comparison_of_extra (row_on side a n)))) (sym same)
        (all-front P (f (comparison_of_extra (row_on side a x))) (flat_map f (comparisons_on side a xs)) all)
    | inr later ↦ rows_of_member xs b later (all-back P (f (comparison_of_extra (row_on side a x))) (flat_map f (comparisons_on side a xs)) all)
  ]

  rows_of_part : (set part : List ℕ) → IsWithinSet part set → AllByRecursion P (flat_map f (comparisons_on side a set)) → AllByRecursion P (flat_map f (comparisons_on side a part))
  rows_of_part set [] within all = tt
  rows_of_part set (b ∷ bs) within all =
      all-append P (f (comparison_of_extra (row_on side a b))) (flat_map f (comparisons_on side a bs))
      (rows_of_member set b (within b (member-here b bs)) all)
      (rows_of_part set bs (λ q h. within q (member-later b q bs h)) all)

abbrev IsWeak : List ℤ → List ℤ → Type 0
IsWeak w row = pos 0 ≤ℤ dot row w

abbrev IsStrict : List ℤ → List ℤ → Type 0
IsStrict w row = pos 0 <ℤ dot row w

module _ (t : DecisionTable) (base : LinearSystem) (side : Side) (a : ℕ) where
  -- what solves the system of a set solves that of a part of it
  solves_part : (w : List ℤ) (set part : List ℕ) → IsWithinSet part set → Solves (side_system t base side a set) w → Solves (side_system t base side a part) w
  solves_part w set part within s = record {
    one_for_each_column = s.one_for_each_column;
    rows = record {
      none_negative = s.rows.none_negative;
      weak_hold = all-append (IsWeak w) base.weak (weak_rows t (comparisons_on side a part)) (all-front (IsWeak w) base.weak (weak_rows t (comparisons_on side a set)) s.rows.weak_hold)
          (rows_of_part (IsWeak w) (λ c. weak_rows_for t c.relation c.form) side a set part within (all-back (IsWeak w) base.weak (weak_rows t (comparisons_on side a set)) s.rows.weak_hold));
      strict_hold = all-append (IsStrict w) base.strict (strict_rows t (comparisons_on side a part)) (all-front (IsStrict w) base.strict (strict_rows t (comparisons_on side a set)) s.rows.strict_hold)
          (rows_of_part (IsStrict w) (λ c. strict_rows_for t c.relation c.form) side a set part within (all-back (IsStrict w) base.strict (strict_rows t (comparisons_on side a set)) s.rows.strict_hold));
    };
  }

  -- the exceptions meet each conflict
  reached_meets : (except : List ℕ) (x : Solution) (c : Conflict) → IsReached t base side a except x → IsProvedConflict t base side a c → share c.members except ≡ true
  reached_meets except x c reached proved = elim (cases_Bool (share c.members except)) [
    | inl yes_ ↦ yes_
    | inr none ↦ absurd (not_both (side_system t base side a c.members) c.multipliers.weak c.multipliers.strict proved.refuted.refute (x.steps, solves_part x.steps (others_but t a except) c.members (all_rest none) reached.accepted.solves))
  ]
    where
      all_rest : share c.members except ≡ false → IsWithinSet c.members (others_but t a except)
      all_rest none q h =
          let other : IsOther t a q = all_member (IsOther t a) c.members q (set_others t a 0 c.members proved.others) h in
          member_filter (λ b. not (is_member nat_eq except b)) (others t a) q (other_member t a q other) (not_from_false (is_member nat_eq except q) (share_none c.members except q none h))

  pub tree_within_reach : (conflicts : List Conflict) (goal : ℕ) (nodes : List Node) (except : List ℕ) (x : Solution) → IsReached t base side a except x
      → AllByRecursion (IsProvedConflict t base side a) conflicts → IsTree conflicts goal nodes → goal ≤ length except
  tree_within_reach conflicts goal nodes except x reached proved tree =
      trees_count conflicts goal nodes except tree (set_distinct (length t.alternatives) a 0 except reached.others)
      (all-by (IsProvedConflict t base side a) (λ c. share c.members except ≡ true) conflicts (λ c one. reached_meets except x c reached one) proved)
