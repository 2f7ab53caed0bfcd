-- What a tree shows: no fewer alternatives than its goal meet all conflicts.
use Rattle.std.proofs.Common.{◌≡◌, ℕ, zero, suc, ◌+◌, ◌<◌, ◌≤◌, Bool, true, false, List, [], ◌∷◌, ◌++◌, length, map, Some, None, refl, arith}
use Rattle.std.specs.Prelude.{nat_eq, nat_lt, not, ◌==◌, if◌then◌else◌}
use Rattle.std.specs.List.{AllByRecursion, IsDistinct}
use Rattle.std.specs.Set.{is_member}
use Rattle.std.proofs.lemmas.Bool.{and_parts, ltb-true, eqb-true, not-true}
use Rattle.std.proofs.lemmas.Cmp.{nat_eq_equiv}
use Rattle.std.proofs.lemmas.Map.Keys.{IsDistinct-push}
use Rattle.ror_text.proofs.Everywhere.{all-front, all-back}
use Rattle.ror_ranks.specs.declared.extreme.Conflict.{Conflict}
use Rattle.ror_ranks.specs.declared.extreme.Node.{Node}
use Rattle.ror_ranks.specs.declared.extreme.Node.TheVariants.{Leaf, Branch}
use Rattle.ror_ranks.specs.Trees.{members_at, share, is_apart, are_apart, may_stand, sets_below, sets_left, root_sets, IsTree}
use Rattle.ror_ranks.specs.Laws.{MeetsEach}
use Rattle.ror_ranks.proofs.Sets.{IsWithinSet, member_front, member_back, all_member, share_some, share_none, distinct_none, fewer, distinct_more, within_cons, within_push}

-- a set that meets each conflict meets the one at a place
pub meets_at : (conflicts : List Conflict) (met : List ℕ) (place : ℕ) → MeetsEach conflicts met → place < length conflicts → share (members_at conflicts place) met ≡ true
meets_at [] met place meets within = absurd (omega arith)
meets_at (c ∷ cs) met zero meets within = meets.0
meets_at (c ∷ cs) met (suc place) meets within = meets_at cs met place meets.1 (omega arith)

-- of each element's image, so of that of a member
image_member : {X : Type 0} (P : X → Type 0) (f : ℕ → X) (xs : List ℕ) (b : ℕ) → AllByRecursion P (map f xs) → is_member nat_eq xs b ≡ true → P (f b)
image_member P f xs b all h = all_member (λ x. P (f x)) xs b (turned xs all) h
  where
    turned : (ys : List ℕ) → AllByRecursion P (map f ys) → AllByRecursion (λ x. P (f x)) ys
    turned [] none = tt
    turned (y ∷ ys) some = (some.0, turned ys some.1)

module _ (conflicts : List Conflict) (met : List ℕ) (meets : MeetsEach conflicts met) where
  -- a conflict that is apart from a set has a member that is met and not of the set
  record IsNewlyMet (used : List ℕ) (place b : ℕ) : Type 0 where
    member : is_member nat_eq (members_at conflicts place) b ≡ true
    is_met : is_member nat_eq met b ≡ true
    absent : is_member nat_eq used b ≡ false

  newly_met : (used : List ℕ) (place : ℕ) → is_apart conflicts used place ≡ true → (b : ℕ) × IsNewlyMet used place b
  newly_met used place apart =
      let parts = and_parts (nat_lt place (length conflicts)) (not (share (members_at conflicts place) used)) apart in
      let within : place < length conflicts = ltb-true place (length conflicts) parts.0 in
      let found = share_some (members_at conflicts place) met (meets_at conflicts met place meets within) in
      let none : share (members_at conflicts place) used ≡ false = not-true (share (members_at conflicts place) used) parts.1 in (
        found.0,
        record {
          member = found.1;
          is_met = found.2;
          absent = share_none (members_at conflicts place) used found.0 none found.1;
        },
      )

  -- One more is met for each conflict of a leaf. Those chosen so far are among the ones that the conflicts to come are apart from.
  apart_count : (used chosen : List ℕ) (places : List ℕ) → IsDistinct nat_eq chosen → IsWithinSet chosen met → IsWithinSet chosen used
      → are_apart conflicts used places ≡ true → length chosen + length places ≤ length met
  apart_count used chosen [] distinct within among apart = let few = fewer chosen met distinct within in omega arith
  apart_count used chosen (place ∷ places) distinct within among apart =
      let members = members_at conflicts place in
      let parts = and_parts (is_apart conflicts used place) (are_apart conflicts (used ++ members) places) apart in
      let new = newly_met used place parts.0 in
      let more = apart_count (used ++ members) (new.0 ∷ chosen) places (distinct_more new.0 chosen used distinct among new.1.absent)
      (within_cons new.0 chosen met new.1.is_met within)
      (within_cons new.0 chosen (used ++ members) (member_back used members new.0 new.1.member) (λ q h. member_front used members q (among q h))) parts.1 in
      omega arith

  module _ (goal : ℕ) where
    -- a set without repeats, of which all are met, is part of what is met, and so much is met at least
    abbrev Shows : List ℕ → Type 0
    Shows set = IsDistinct nat_eq set → IsWithinSet set met → goal ≤ length met

    branch_shows : (set : List ℕ) (place : ℕ) → is_apart conflicts set place ≡ true
        → AllByRecursion Shows (map (λ b. set ++ b ∷ []) (members_at conflicts place)) → Shows set
    branch_shows set place apart below distinct within =
        let new = newly_met set place apart in
        let b = new.0 in
        image_member Shows (λ b. set ++ b ∷ []) (members_at conflicts place) b below new.1.member
        (IsDistinct-push nat_eq_equiv set b distinct new.1.absent)
        (within_push b set met new.1.is_met within)

    node_shows : (set : List ℕ) (node : Node) → may_stand conflicts goal set node ≡ true
        → AllByRecursion Shows (sets_below conflicts set node) → Shows set
    node_shows set (Leaf places) stands below = λ distinct within.
        let parts = and_parts (are_apart conflicts set places) (length set + length places == goal) stands in
        let many = apart_count set set places distinct within (λ q h. h) parts.0 in
        let whole = eqb-true (length set + length places) goal parts.1 in
        omega arith
    node_shows set (Branch place) stands below = branch_shows set place stands below

    all_show : (sets : List (List ℕ)) (nodes : List Node) → sets_left conflicts goal sets nodes ≡ Some [] → AllByRecursion Shows sets
    all_show [] [] left = tt
    all_show (set ∷ sets) [] left = absurd cc
    all_show [] (node ∷ nodes) left = tt
    all_show (set ∷ sets) (node ∷ nodes) left = by (may_stand conflicts goal set node) refl left (all_show (sets_below conflicts set node ++ sets) nodes)
      where
        by : (b : Bool) → may_stand conflicts goal set node ≡ b
            → (if b then sets_left conflicts goal (sets_below conflicts set node ++ sets) nodes else None) ≡ Some []
            → (sets_left conflicts goal (sets_below conflicts set node ++ sets) nodes ≡ Some [] → AllByRecursion Shows (sets_below conflicts set node ++ sets))
            → AllByRecursion Shows (set ∷ sets)
        by true stands rest all =
            let shown = all rest in
            (node_shows set node stands (all-front Shows (sets_below conflicts set node) sets shown), all-back Shows (sets_below conflicts set node) sets shown)
        by false stands rest all = absurd cc

-- where the nodes are a tree for so many, no fewer alternatives meet each conflict
pub trees_count : (conflicts : List Conflict) (goal : ℕ) (nodes : List Node) (met : List ℕ) → IsTree conflicts goal nodes → IsDistinct nat_eq met → MeetsEach conflicts met → goal ≤ length met
trees_count conflicts goal nodes met tree distinct meets =
    (all_show conflicts met meets goal root_sets nodes tree).0 distinct_none (λ q none. absurd cc)
