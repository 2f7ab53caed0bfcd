-- Making conflicts small, and taking a new one.
use Rattle.std.proofs.Common.{◌≡◌, ℕ, ◌≤◌, true, false, List, [], ◌∷◌, ◌++◌, length, length-append, refl, sym, ap, subst, ◌∙◌, arith}
use Rattle.std.specs.Prelude.{nat_eq, nat_lt, not}
use Rattle.std.specs.Set.{is_member}
use Rattle.std.proofs.lemmas.Bool.{and_from, false_from_ne_true, true≢false, lt-ltb, not_from_false}
use Rattle.ror_text.proofs.Everywhere.{all-by}
use Rattle.ror_table.specs.Table.{DecisionTable}
use Rattle.ror_ranks.specs.declared.extreme.Conflict.{Conflict}
use Rattle.ror_ranks.specs.declared.sides.Asked.{Asked}
use Rattle.ror_ranks_find.specs.declared.sought.Sought.{Sought}
use Rattle.ror_ranks.specs.Ranks.{others}
use Rattle.ror_ranks.specs.Conflicts.{others_among}
use Rattle.ror_ranks.specs.Trees.{share, members_at, is_apart}
use Rattle.ror_ranks_find.specs.Search.{AreConflictsFor, AreAmong, IsPartOf, IsOneWithin}
use Rattle.ror_ranks.proofs.Sets.{all_member, all_members, share_some, share_from, fewer, distinct_filter, member_filter_parts}
use Rattle.ror_ranks.proofs.Counting.{others_distinct}
use Rattle.ror_ranks.proofs.OthersLemmas.{others_among_are}

-- ---- parts

pub among_own : (whole : List ℕ) → AreAmong whole whole
among_own whole = all_members (λ b. is_member nat_eq whole b ≡ true) whole (λ b h. h)

pub among_then : (whole part less : List ℕ) → AreAmong whole part → AreAmong part less → AreAmong whole less
among_then whole part less first second =
    all-by (λ b. is_member nat_eq part b ≡ true) (λ b. is_member nat_eq whole b ≡ true) less (λ b h. all_member (λ q. is_member nat_eq whole q ≡ true) part b first h) second

-- put in order of the table
pub ordered_among : (t : DecisionTable) (a : ℕ) (whole part : List ℕ) → AreAmong whole part → AreAmong whole (others_among t a part)
ordered_among t a whole part among = all_members (λ b. is_member nat_eq whole b ≡ true) (others_among t a part)
    (λ b h. all_member (λ q. is_member nat_eq whole q ≡ true) part b among (member_filter_parts (λ q. is_member nat_eq part q) (others t a) b h).1)

pub ordered_part : (x : Asked) (whole part : List ℕ) → AreAmong whole part → IsPartOf x whole (others_among x.table.now x.alternative part)
ordered_part x whole part among = (others_among_are x.table.now x.alternative part, ordered_among x.table.now x.alternative whole part among)

-- the same of the list that it is
pub ordered_is_part : (x : Asked) (whole part ordered : List ℕ) → AreAmong whole part → ordered ≡ others_among x.table.now x.alternative part → IsPartOf x whole ordered
ordered_is_part x whole part ordered among is = subst (λ (bs : List ℕ). IsPartOf x whole bs) (sym is) (ordered_part x whole part among)

-- what is among some is no more
pub ordered_few : (t : DecisionTable) (a : ℕ) (met : List ℕ) → length (others_among t a met) ≤ length met
ordered_few t a met = fewer (others_among t a met) met (distinct_filter (λ b. is_member nat_eq met b) (others t a) (others_distinct t a))
    (λ b h. (member_filter_parts (λ q. is_member nat_eq met q) (others t a) b h).1)

-- ---- conflicts alone in their lists

pub one_stays : (s : Sought) (conflict : List Conflict) → AreConflictsFor s conflict → length conflict ≡ 1 → IsOneWithin s conflict conflict
one_stays s conflict are one = record { conflicts = are; one = one; within = among_own (members_at conflict 0) }

pub one_then : (s : Sought) (a b c : List Conflict) → IsOneWithin s a b → IsOneWithin s b c → IsOneWithin s a c
one_then s a b c first second = record {
  conflicts = second.conflicts;
  one = second.one;
  within = among_then (members_at a 0) (members_at b 0) (members_at c 0) first.within second.within;
}

-- a part of what shares nothing shares nothing
pub share_fewer : (whole part met : List ℕ) → AreAmong whole part → share whole met ≡ false → share part met ≡ false
share_fewer whole part met among none = false_from_ne_true (share part met) some
  where
    some : share part met ≡ true → ⊥
    some h =
        let b = share_some part met h in
        true≢false (sym (share_from whole met b.0 (all_member (λ q. is_member nat_eq whole q ≡ true) part b.0 among b.1) b.2) ∙ none)

-- ---- a new conflict, behind those that were there

members_behind : (conflicts new : List Conflict) → members_at (conflicts ++ new) (length conflicts) ≡ members_at new 0
members_behind [] new = refl
members_behind (c ∷ cs) new = members_behind cs new

pub new_apart : (before now new : List Conflict) (met : List ℕ) → now ≡ before ++ new → length new ≡ 1 → share (members_at new 0) met ≡ false → is_apart now met (length before) ≡ true
new_apart before now new met is one none =
    let long = ap length is ∙ length-append before new in
    and_from (nat_lt (length before) (length now)) (not (share (members_at now (length before)) met))
    (lt-ltb (length before) (length now) (omega (arith, long, one)))
    (not_from_false (share (members_at now (length before)) met) (ap (λ (cs : List Conflict). share (members_at cs (length before)) met) is ∙ ap (λ (members : List ℕ). share members met) (members_behind before new) ∙ none))
