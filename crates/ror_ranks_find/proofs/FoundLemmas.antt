-- What is found, one thing more: what a system comes to, a conflict, a function, and a number that is too wide.
use Rattle.std.proofs.Common.{◌≡◌, ◌≢◌, ℕ, ◌+◌, ◌<◌, ◌≤◌, Bool, true, false, List, [], ◌∷◌, ◌++◌, length, length-append, append-nil, refl, sym, ap, subst, ◌∙◌, arith}
use Rattle.std.specs.Global.{Vec}
use Rattle.std.specs.Prelude.{nat_eq, slice_get, Some}
use Rattle.std.specs.List.{AllByRecursion, filter}
use Rattle.std.specs.Set.{is_member}
use Rattle.ror_text.proofs.Everywhere.{all-append, all-by, all_by_places}
use Rattle.ror_word.specs.Within.{IsWithin as FitsWithin}
use Rattle.ror_table.specs.Table.{DecisionTable}
use Rattle.ror_system.specs.System.{LinearSystem}
use Rattle.ror_system.specs.Acceptance.{IsAcceptedSolution, AreAcceptedMultipliers}
use Rattle.ror_system.specs.declared.accept.Solution.{Solution}
use Rattle.ror_system.specs.declared.accept.Multipliers.{Multipliers}
use Rattle.ror_pivot.specs.declared.note.SolveFault.TheVariants.{Wide}
use Rattle.ror_pivot.specs.declared.note.WideNote.{WideNote}
use Rattle.ror_pivot.specs.Answers.{most_of}
use Rattle.ror_warm.specs.Engine.{IsFaultOf}
use Rattle.ror_ranks.specs.declared.extreme.Conflict.{Conflict}
use Rattle.ror_ranks.specs.declared.extreme.WideExtreme.{WideExtreme}
use Rattle.ror_ranks.specs.declared.sides.Asked.{Asked}
use Rattle.ror_ranks.specs.Conflicts.{are_others, others_but, others_among}
use Rattle.ror_ranks.specs.Trees.{share, members_at}
use Rattle.ror_ranks.specs.Finding.{AreWithin}
use Rattle.ror_ranks_find.specs.declared.found.Found.{Found}
use Rattle.ror_ranks_find.specs.declared.sought.Sought.{Sought}
use Rattle.ror_ranks_find.specs.declared.sought.Tried.TheVariants as tried
use Rattle.ror_ranks_find.specs.Search.{system_without, IsOther, IsTried, IsConflictFor, AreConflictsFor, IsReachedFor, IsWideFor, IsFoundFor, HasMore, AreAmong, AreCopiedFrom}
use Rattle.ror_ranks.proofs.Sets.{all_members, member_filter_parts}
use Rattle.ror_ranks.proofs.Counting as counting
use Rattle.ror_ranks.proofs.Counting.{set_of_parts, others_but_others}
use Rattle.ror_ranks.proofs.OthersLemmas.{others_among_are, rest_apart}
use Rattle.ror_ranks_find.proofs.SmallLemmas.{ordered_few}

-- ---- what a system comes to

pub tried_function : (s : Sought) (members : List ℕ) (l : LinearSystem) (x : Solution) → l ≡ system_without s.asked members → IsAcceptedSolution l x.steps → AllByRecursion (FitsWithin (most_of s.bits)) x.steps
    → IsTried s members (tried.Function x)
tried_function s members l x is accepted narrow = (subst (λ (m : LinearSystem). IsAcceptedSolution m x.steps) is accepted, narrow)

pub tried_conflict : (s : Sought) (members : List ℕ) (l : LinearSystem) (m : Multipliers) → l ≡ system_without s.asked members → are_others s.asked.table.now s.asked.alternative members ≡ true
    → AreAcceptedMultipliers l m.weak m.strict → AreWithin (most_of s.bits) m → IsTried s members (tried.Conflict (record { members = members; multipliers = m }))
tried_conflict s members l m is are accepted narrow =
    (refl, (record { others = are; refuted = subst (λ (k : LinearSystem). AreAcceptedMultipliers k m.weak m.strict) is accepted }, narrow))

pub tried_wide : (s : Sought) (members : List ℕ) (l : LinearSystem) (note : WideNote) → l ≡ system_without s.asked members → are_others s.asked.table.now s.asked.alternative members ≡ true
    → IsFaultOf (most_of s.bits) l (Wide note) → IsTried s members (tried.Wide (record { members = members; note = note }))
tried_wide s members l note is are noted = (refl, record { others = are; noted = subst (λ (k : LinearSystem). IsFaultOf (most_of s.bits) k (Wide note)) is noted })

-- the same under another name of the members
pub tried_wide_as : (s : Sought) (members named : List ℕ) (l : LinearSystem) (note : WideNote) → named ≡ members → l ≡ system_without s.asked members → are_others s.asked.table.now s.asked.alternative members ≡ true
    → IsFaultOf (most_of s.bits) l (Wide note) → IsTried s members (tried.Wide (record { members = named; note = note }))
tried_wide_as s members named l note same is are noted = subst (λ (m : List ℕ). IsTried s members (tried.Wide (record { members = m; note = note }))) (sym same) (tried_wide s members l note is are noted)

-- ---- one conflict more

module _ (s : Sought) (before now : Found) (more : List Conflict) (conflicts : now.conflicts.items ≡ before.conflicts.items ++ more) where
  pub found_added : IsFoundFor s before → AreConflictsFor s more → length more ≡ 1 → length before.conflicts.items < 4294967295 → now.except ≡ before.except → now.function ≡ before.function → now.wide ≡ before.wide
      → IsFoundFor s now
  found_added holds are one room except function wide = record {
    conflicts = subst (λ (cs : List Conflict). AreConflictsFor s cs) (sym conflicts) (all-append (IsConflictFor s) before.conflicts.items more holds.conflicts are);
    few = (let long = ap length conflicts ∙ length-append before.conflicts.items more in omega (arith, long, one, room));
    reached = subst (λ (e : List ℕ). IsReachedFor s e now.function) (sym except) (subst (λ (f : Solution). IsReachedFor s before.except f) (sym function) holds.reached);
    wide = subst (λ (v : Vec WideExtreme). AllByRecursion (IsWideFor s) v.items) (sym wide) holds.wide;
  }

  pub has_added : now.except ≡ before.except → now.wide ≡ before.wide → HasMore before now
  has_added except wide = record {
    added = more;
    conflicts = conflicts;
    except = (let same = ap length except in omega (arith, same));
    noted = [];
    wide = ap (λ (v : Vec WideExtreme). v.items) wide ∙ sym (append-nil before.wide.items);
  }

-- ---- a number that is too wide

module _ (s : Sought) (before now : Found) (x : WideExtreme) (noted : now.wide.items ≡ before.wide.items ++ x ∷ []) where
  pub found_noted : IsFoundFor s before → IsWideFor s x → now.conflicts ≡ before.conflicts → now.except ≡ before.except → now.function ≡ before.function → IsFoundFor s now
  found_noted holds is conflicts except function = record {
    conflicts = subst (λ (v : Vec Conflict). AreConflictsFor s v.items) (sym conflicts) holds.conflicts;
    few = subst (λ (v : Vec Conflict). length v.items ≤ 4294967295) (sym conflicts) holds.few;
    reached = subst (λ (e : List ℕ). IsReachedFor s e now.function) (sym except) (subst (λ (f : Solution). IsReachedFor s before.except f) (sym function) holds.reached);
    wide = subst (λ (xs : List WideExtreme). AllByRecursion (IsWideFor s) xs) (sym noted) (all-append (IsWideFor s) before.wide.items (x ∷ []) holds.wide (is, tt));
  }

  pub has_noted : now.conflicts ≡ before.conflicts → now.except ≡ before.except → HasMore before now
  has_noted conflicts except = record {
    added = [];
    conflicts = ap (λ (v : Vec Conflict). v.items) conflicts ∙ sym (append-nil before.conflicts.items);
    except = (let same = ap length except in omega (arith, same));
    noted = x ∷ [];
    wide = noted;
  }

  pub some_wide : now.wide.items ≢ []
  some_wide none =
      let long = sym (ap length none) ∙ ap length noted ∙ length-append before.wide.items (x ∷ []) in
      omega (arith, long)

-- ---- another function

-- the conflicts and what was too wide stay
pub has_fewer : (before now : Found) → now.conflicts ≡ before.conflicts → now.wide ≡ before.wide → length now.except ≤ length before.except → HasMore before now
has_fewer before now conflicts wide few = record {
  added = [];
  conflicts = ap (λ (v : Vec Conflict). v.items) conflicts ∙ sym (append-nil before.conflicts.items);
  except = few;
  noted = [];
  wide = ap (λ (v : Vec WideExtreme). v.items) wide ∙ sym (append-nil before.wide.items);
}

-- the beginning: no conflict, and a function
pub found_none : (s : Sought) (now : Found) → now.conflicts.items ≡ [] → now.wide.items ≡ [] → IsReachedFor s now.except now.function → IsFoundFor s now
found_none s now conflicts wide reached = record {
  conflicts = subst (λ (cs : List Conflict). AreConflictsFor s cs) (sym conflicts) tt;
  few = (let none = ap length conflicts in omega (arith, none));
  reached = reached;
  wide = subst (λ (xs : List WideExtreme). AllByRecursion (IsWideFor s) xs) (sym wide) tt;
}

-- ---- members

pub filter_among : (test : ℕ → Bool) (whole : List ℕ) → AreAmong whole (filter test whole)
filter_among test whole = all_members (λ b. is_member nat_eq whole b ≡ true) (filter test whole) (λ b h. (member_filter_parts test whole b h).0)

-- what was found of a rest that has none of what is met
pub rest_is_apart : (s : Sought) (met rest : List ℕ) (c : Conflict) → rest ≡ others_but s.asked.table.now s.asked.alternative (others_among s.asked.table.now s.asked.alternative met) → c.members ≡ rest
    → share (members_at (c ∷ []) 0) met ≡ false
rest_is_apart s met rest c is members = ap (λ (xs : List ℕ). share xs met) (members ∙ is) ∙ rest_apart s.asked.table.now s.asked.alternative met

-- the function of a rest is one by which what is met in order of the table may count
pub reached_rest : (s : Sought) (met except rest : List ℕ) (x : Solution) → except ≡ others_among s.asked.table.now s.asked.alternative met → rest ≡ others_but s.asked.table.now s.asked.alternative except
    → IsTried s rest (tried.Function x) → IsReachedFor s except x
reached_rest s met except rest x is left tried =
    let t = s.asked.table.now in
    let a = s.asked.alternative in (
      record {
        others = subst (λ (e : List ℕ). are_others t a e ≡ true) (sym is) (others_among_are t a met);
        accepted = subst (λ (r : List ℕ). IsAcceptedSolution (system_without s.asked r) x.steps) left tried.0;
      },
      tried.1,
    )

pub few_met : (s : Sought) (met except : List ℕ) → except ≡ others_among s.asked.table.now s.asked.alternative met → length except ≤ length met
few_met s met except is =
    let few = ordered_few s.asked.table.now s.asked.alternative met in
    let same = ap length is in
    omega (arith, few, same)

-- ---- copies

pub own_copies : (conflicts : List Conflict) → AreCopiedFrom conflicts conflicts
own_copies conflicts = all_by_places (λ c. (place : ℕ) × (slice_get conflicts place ≡ Some c)) conflicts (λ i c there. (i, there))

pub copied_more : (conflicts copies : List Conflict) (place : ℕ) (c : Conflict) → AreCopiedFrom conflicts copies → slice_get conflicts place ≡ Some c → AreCopiedFrom conflicts (copies ++ c ∷ [])
copied_more conflicts copies place c copied there = all-append (λ d. (at : ℕ) × (slice_get conflicts at ≡ Some d)) copies (c ∷ []) copied ((place, there), tt)

-- ---- one alternative alone

alone_is : (t : DecisionTable) (a b : ℕ) → counting.IsOther t a b → are_others t a (b ∷ []) ≡ true
alone_is t a b other = set_of_parts (length t.alternatives) a 0 b [] (record { low = omega arith; of_table = other.of_table; apart = other.apart; rest = refl })

pub each_alone : (x : Asked) (except others : List ℕ) → others ≡ others_but x.table.now x.alternative except → AllByRecursion (IsOther x) others
each_alone x except others is = subst (λ (bs : List ℕ). AllByRecursion (IsOther x) bs) (sym is)
    (all-by (counting.IsOther x.table.now x.alternative) (IsOther x) (others_but x.table.now x.alternative except) (λ b other. alone_is x.table.now x.alternative b other) (others_but_others x.table.now x.alternative except))
