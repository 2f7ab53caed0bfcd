-- What a step of the check refuses is the first fault of the interval.
use Rattle.std.proofs.Common.{◌≡◌, ◌≢◌, inl, inr, ℕ, zero, suc, ◌<◌, ◌≤◌, true, false, List, [], ◌∷◌, length, take, Some, refl, sym, ap, subst, ◌∙◌, arith}
use Rattle.std.specs.Prelude.{slice_get}
use Rattle.std.specs.List.{AllByRecursion}
use Rattle.std.proofs.lemmas.Bool.{true≢false, cases_eq}
use Rattle.ror_text.specs.FirstFault.{IsFirst}
use Rattle.ror_text.proofs.FirstFaultLemmas.{not_earlier}
use Rattle.ror_text.proofs.Everywhere.{all_at}
use Rattle.ror_table.specs.Table.{DecisionTable}
use Rattle.ror_system.specs.System.{LinearSystem}
use Rattle.ror_system.specs.declared.reject.Reject.{Reject}
use Rattle.ror_system.proofs.SolutionTests as solutions
use Rattle.ror_system.proofs.MultiplierTests as multipliers
use Rattle.ror_ranks.specs.declared.extreme.Side.{Side}
use Rattle.ror_ranks.specs.declared.extreme.Conflict.{Conflict}
use Rattle.ror_ranks.specs.declared.extreme.Interval.{Interval}
use Rattle.ror_ranks.specs.declared.fault.ExtremeFault.{ExtremeFault}
use Rattle.ror_ranks.specs.declared.fault.ExtremeFault.TheVariants as faults
use Rattle.ror_ranks.specs.Conflicts.{are_others, others_but, side_system, IsProvedConflict}
use Rattle.ror_ranks.specs.Trees.{sets_left, root_sets}
use Rattle.ror_ranks.specs.Proof.{AreEnds, IsProvedOfOne, fewest, allowed}
use Rattle.ror_ranks.specs.Faults.{FailsExcept, FailsNode, FailsInterval, extreme_stage, extreme_place, IsEarlierExtremeFault}
use Rattle.ror_ranks.specs.Steps.{RefusesConflicts, RefusesFunction, RefusesTree, RefusesInterval, by_ends, by_function, by_conflict, by_tree}
use Rattle.ror_ranks.proofs.FaultLemmas.{node_stands}

-- ---- the front of a list

pub get_front : {X : Type 0} (xs : List X) (n i : ℕ) → i < n → slice_get (take n xs) i ≡ slice_get xs i
get_front xs zero i lt = absurd (omega arith)
get_front [] (suc n) i lt = refl
get_front (x ∷ xs) (suc n) zero lt = refl
get_front (x ∷ xs) (suc n) (suc i) lt = get_front xs n i (omega arith)

front_front : {X : Type 0} (xs : List X) (n i : ℕ) → i ≤ n → take i (take n xs) ≡ take i xs
front_front xs n zero le = refl
front_front xs zero (suc i) le = absurd (omega arith)
front_front [] (suc n) (suc i) le = refl
front_front (x ∷ xs) (suc n) (suc i) le = ap (λ ys. x ∷ ys) (front_front xs n i (omega arith))

module _ (t : DecisionTable) (base : LinearSystem) (side : Side) (a : ℕ) (x : Interval) where
  abbrev Fails : ExtremeFault → Type 0
  Fails = FailsInterval t base side a x

  late : (other fault : ExtremeFault) → extreme_stage fault ≤ extreme_stage other → extreme_place fault ≤ extreme_place other → IsEarlierExtremeFault other fault → ⊥
  late other fault stages places earlier = not_earlier extreme_stage extreme_place other fault stages places earlier

  -- a test of a later stage is none that is earlier
  past : (other fault : ExtremeFault) → extreme_stage fault < extreme_stage other → IsEarlierExtremeFault other fault → ⊥
  past other fault more (inl less) = omega arith
  past other fault more (inr same) = let e = same.0 in omega arith

  -- ---- what a proved part passes

  except_passes : are_others t a x.except ≡ true → length x.except ≡ allowed side (length t.alternatives) x → FailsExcept t side a x → ⊥
  except_passes are number (inl none) = true≢false (sym are ∙ none)
  except_passes are number (inr other) = other number

  one_passes : IsProvedOfOne t base side a x → FailsExcept t side a x → ⊥
  one_passes proved fails = except_passes proved.reached.others proved.number fails

  function_passes : (r : Reject) → IsProvedOfOne t base side a x → Fails (faults.Function r) → ⊥
  function_passes r proved fails = solutions.not_accepted (side_system t base side a (others_but t a x.except)) x.function.steps r fails proved.reached.accepted

  -- of a conflict among the first ones, which are proved
  proved_before : (n place : ℕ) (c : Conflict) → AllByRecursion (IsProvedConflict t base side a) (take n x.conflicts) → place < n → slice_get x.conflicts place ≡ Some c → IsProvedConflict t base side a c
  proved_before n place c proved before there =
      all_at (IsProvedConflict t base side a) (take n x.conflicts) place c proved (get_front x.conflicts n place before ∙ there)

  members_before : (n place : ℕ) → AllByRecursion (IsProvedConflict t base side a) (take n x.conflicts) → place < n → Fails (faults.Members place) → ⊥
  members_before n place proved before fails =
      let c = proved_before n place fails.conflict proved before fails.there in
      true≢false (sym c.others ∙ fails.no_others)

  conflict_before : (n place : ℕ) (r : Reject) → AllByRecursion (IsProvedConflict t base side a) (take n x.conflicts) → place < n → Fails (faults.Conflict place r) → ⊥
  conflict_before n place r proved before fails =
      let c = proved_before n place fails.conflict proved before fails.there in
      let m = fails.conflict.multipliers in
      multipliers.not_accepted (side_system t base side a fails.conflict.members) m.weak m.strict r fails.rejected c.refuted

  -- ---- the ends

  ends_first : (AreEnds t x → ⊥) → IsFirst Fails IsEarlierExtremeFault faults.Ends
  ends_first fails = record { fails = fails; none_before = λ other earlier f. late other faults.Ends (omega arith) (omega arith) earlier }

  -- ---- the function

  except_first : AreEnds t x → FailsExcept t side a x → IsFirst Fails IsEarlierExtremeFault faults.Except
  except_first ends fails = record { fails = fails; none_before = before }
    where
      before : (other : ExtremeFault) → IsEarlierExtremeFault other faults.Except → Fails other → ⊥
      before faults.Ends earlier f = f ends
      before faults.Except earlier f = late faults.Except faults.Except (omega arith) (omega arith) earlier
      before (faults.Function r) earlier f = late (faults.Function r) faults.Except (omega arith) (omega arith) earlier
      before (faults.Members p) earlier f = late (faults.Members p) faults.Except (omega arith) (omega arith) earlier
      before (faults.Conflict p r) earlier f = late (faults.Conflict p r) faults.Except (omega arith) (omega arith) earlier
      before (faults.Node p) earlier f = late (faults.Node p) faults.Except (omega arith) (omega arith) earlier
      before faults.Unfinished earlier f = late faults.Unfinished faults.Except (omega arith) (omega arith) earlier
      before faults.Memory earlier f = f

  function_first : (r : Reject) → AreEnds t x → are_others t a x.except ≡ true → length x.except ≡ allowed side (length t.alternatives) x
      → Fails (faults.Function r) → IsFirst Fails IsEarlierExtremeFault (faults.Function r)
  function_first r ends are number fails = record { fails = fails; none_before = before }
    where
      before : (other : ExtremeFault) → IsEarlierExtremeFault other (faults.Function r) → Fails other → ⊥
      before faults.Ends earlier f = f ends
      before faults.Except earlier f = except_passes are number f
      before (faults.Function q) earlier f = late (faults.Function q) (faults.Function r) (omega arith) (omega arith) earlier
      before (faults.Members p) earlier f = late (faults.Members p) (faults.Function r) (omega arith) (omega arith) earlier
      before (faults.Conflict p q) earlier f = late (faults.Conflict p q) (faults.Function r) (omega arith) (omega arith) earlier
      before (faults.Node p) earlier f = late (faults.Node p) (faults.Function r) (omega arith) (omega arith) earlier
      before faults.Unfinished earlier f = late faults.Unfinished (faults.Function r) (omega arith) (omega arith) earlier
      before faults.Memory earlier f = f

  by_function_first : (fault : ExtremeFault) → fault ≢ faults.Memory → AreEnds t x → RefusesFunction t base side a x fault → IsFirst Fails IsEarlierExtremeFault fault
  by_function_first faults.Ends ne ends h = absurd h
  by_function_first faults.Except ne ends h = except_first ends h
  by_function_first (faults.Function r) ne ends h = function_first r ends h.0 h.1 h.2
  by_function_first (faults.Members p) ne ends h = absurd h
  by_function_first (faults.Conflict p r) ne ends h = absurd h
  by_function_first (faults.Node p) ne ends h = absurd h
  by_function_first faults.Unfinished ne ends h = absurd h
  by_function_first faults.Memory ne ends h = absurd (ne refl)

  -- ---- conflicts

  -- the place of a test of conflicts
  at_place : (other fault : ExtremeFault) → extreme_stage other ≡ extreme_stage fault → IsEarlierExtremeFault other fault → extreme_place other < extreme_place fault
  at_place other fault same (inl less) = absurd (omega arith)
  at_place other fault same (inr at) = at.1

  members_first : (place : ℕ) → AreEnds t x → IsProvedOfOne t base side a x → AllByRecursion (IsProvedConflict t base side a) (take place x.conflicts)
      → Fails (faults.Members place) → IsFirst Fails IsEarlierExtremeFault (faults.Members place)
  members_first place ends one proved fails = record { fails = fails; none_before = before }
    where
      before : (other : ExtremeFault) → IsEarlierExtremeFault other (faults.Members place) → Fails other → ⊥
      before faults.Ends earlier f = f ends
      before faults.Except earlier f = one_passes one f
      before (faults.Function q) earlier f = function_passes q one f
      before (faults.Members p) earlier f = let less = at_place (faults.Members p) (faults.Members place) refl earlier in members_before place p proved (omega (arith, less)) f
      before (faults.Conflict p q) earlier f = let less = at_place (faults.Conflict p q) (faults.Members place) refl earlier in conflict_before place p q proved (omega (arith, less)) f
      before (faults.Node p) earlier f = past (faults.Node p) (faults.Members place) (omega arith) earlier
      before faults.Unfinished earlier f = past faults.Unfinished (faults.Members place) (omega arith) earlier
      before faults.Memory earlier f = f

  -- a conflict at this place or before it, where those before are proved and this one has others
  members_up_to : (place p : ℕ) → AllByRecursion (IsProvedConflict t base side a) (take place x.conflicts)
      → (c : Conflict) → slice_get x.conflicts place ≡ Some c → are_others t a c.members ≡ true → p ≤ place → Fails (faults.Members p) → ⊥
  members_up_to place p proved c there are le fails = elim (cases_eq p place) [
    | inl same ↦
        let here : slice_get x.conflicts place ≡ Some fails.conflict = subst (λ (i : ℕ). slice_get x.conflicts i ≡ Some fails.conflict) same fails.there in
        let both : Some fails.conflict ≡ Some c = sym here ∙ there in
        let one : fails.conflict ≡ c = cc in
        true≢false (sym are ∙ subst (λ (d : Conflict). are_others t a d.members ≡ false) one fails.no_others)
    | inr apart ↦ members_before place p proved (grind (arith, apart)) fails
  ]

  conflict_first : (place : ℕ) (r : Reject) → AreEnds t x → IsProvedOfOne t base side a x → AllByRecursion (IsProvedConflict t base side a) (take place x.conflicts)
      → (c : Conflict) → slice_get x.conflicts place ≡ Some c → are_others t a c.members ≡ true
      → Fails (faults.Conflict place r) → IsFirst Fails IsEarlierExtremeFault (faults.Conflict place r)
  conflict_first place r ends one proved c there are fails = record { fails = fails; none_before = before }
    where
      before : (other : ExtremeFault) → IsEarlierExtremeFault other (faults.Conflict place r) → Fails other → ⊥
      before faults.Ends earlier f = f ends
      before faults.Except earlier f = one_passes one f
      before (faults.Function q) earlier f = function_passes q one f
      before (faults.Members p) earlier f = let less = at_place (faults.Members p) (faults.Conflict place r) refl earlier in members_up_to place p proved c there are (omega (arith, less)) f
      before (faults.Conflict p q) earlier f = let less = at_place (faults.Conflict p q) (faults.Conflict place r) refl earlier in conflict_before place p q proved (omega (arith, less)) f
      before (faults.Node p) earlier f = past (faults.Node p) (faults.Conflict place r) (omega arith) earlier
      before faults.Unfinished earlier f = past faults.Unfinished (faults.Conflict place r) (omega arith) earlier
      before faults.Memory earlier f = f

  -- the conflict at its place, whatever the place is called
  named_place : (at place : ℕ) (c : Conflict) → at ≡ place → slice_get x.conflicts place ≡ Some c → slice_get x.conflicts at ≡ Some c
  named_place at place c e there = subst (λ (i : ℕ). slice_get x.conflicts i ≡ Some c) (sym e) there

  named_front : (at place : ℕ) → at ≡ place → AllByRecursion (IsProvedConflict t base side a) (take place x.conflicts) → AllByRecursion (IsProvedConflict t base side a) (take at x.conflicts)
  named_front at place e proved = subst (λ (i : ℕ). AllByRecursion (IsProvedConflict t base side a) (take i x.conflicts)) (sym e) proved

  by_conflict_first : (fault : ExtremeFault) → fault ≢ faults.Memory → AreEnds t x → IsProvedOfOne t base side a x → RefusesConflicts t base side a x.conflicts fault → IsFirst Fails IsEarlierExtremeFault fault
  by_conflict_first faults.Ends ne ends one h = absurd h.refuses
  by_conflict_first faults.Except ne ends one h = absurd h.refuses
  by_conflict_first (faults.Function r) ne ends one h = absurd h.refuses
  by_conflict_first (faults.Members at) ne ends one h =
      let there = named_place at h.place h.conflict h.refuses.0 h.there in
      members_first at ends one (named_front at h.place h.refuses.0 h.before) (record { conflict = h.conflict; there = there; no_others = h.refuses.1 })
  by_conflict_first (faults.Conflict at r) ne ends one h =
      let there = named_place at h.place h.conflict h.refuses.0 h.there in
      conflict_first at r ends one (named_front at h.place h.refuses.0 h.before) h.conflict there h.refuses.1 (record { conflict = h.conflict; there = there; rejected = h.refuses.2 })
  by_conflict_first (faults.Node p) ne ends one h = absurd h.refuses
  by_conflict_first faults.Unfinished ne ends one h = absurd h.refuses
  by_conflict_first faults.Memory ne ends one h = absurd (ne refl)

  -- ---- the tree

  -- of all conflicts, which are proved
  members_pass : (p : ℕ) → AllByRecursion (IsProvedConflict t base side a) x.conflicts → Fails (faults.Members p) → ⊥
  members_pass p proved fails = let c = all_at (IsProvedConflict t base side a) x.conflicts p fails.conflict proved fails.there in true≢false (sym c.others ∙ fails.no_others)

  conflict_passes : (p : ℕ) (r : Reject) → AllByRecursion (IsProvedConflict t base side a) x.conflicts → Fails (faults.Conflict p r) → ⊥
  conflict_passes p r proved fails =
      let c = all_at (IsProvedConflict t base side a) x.conflicts p fails.conflict proved fails.there in
      let m = fails.conflict.multipliers in
      multipliers.not_accepted (side_system t base side a fails.conflict.members) m.weak m.strict r fails.rejected c.refuted

  -- a node before one that is reached may stand
  node_before : (goal place p : ℕ) → p < place → FailsNode x.conflicts goal x.tree place → FailsNode x.conflicts goal x.tree p → ⊥
  node_before goal place p less later fails =
      node_stands x.conflicts goal (take place x.tree) later.sets fails.sets p fails.node later.before
      (get_front x.tree place p less ∙ fails.there)
      (ap (sets_left x.conflicts goal root_sets) (front_front x.tree place p (omega arith)) ∙ fails.before) fails.stands_not

  node_first : (place : ℕ) → AreEnds t x → IsProvedOfOne t base side a x → AllByRecursion (IsProvedConflict t base side a) x.conflicts
      → Fails (faults.Node place) → IsFirst Fails IsEarlierExtremeFault (faults.Node place)
  node_first place ends one proved fails = record { fails = fails; none_before = before }
    where
      before : (other : ExtremeFault) → IsEarlierExtremeFault other (faults.Node place) → Fails other → ⊥
      before faults.Ends earlier f = f ends
      before faults.Except earlier f = one_passes one f
      before (faults.Function q) earlier f = function_passes q one f
      before (faults.Members p) earlier f = members_pass p proved f
      before (faults.Conflict p q) earlier f = conflict_passes p q proved f
      before (faults.Node p) earlier f =
          let less = at_place (faults.Node p) (faults.Node place) refl earlier in
          node_before (fewest side (length t.alternatives) x) place p less fails f
      before faults.Unfinished earlier f = past faults.Unfinished (faults.Node place) (omega arith) earlier
      before faults.Memory earlier f = f

  unfinished_first : AreEnds t x → IsProvedOfOne t base side a x → AllByRecursion (IsProvedConflict t base side a) x.conflicts
      → Fails faults.Unfinished → IsFirst Fails IsEarlierExtremeFault faults.Unfinished
  unfinished_first ends one proved fails = record { fails = fails; none_before = before }
    where
      goal : ℕ
      goal = fewest side (length t.alternatives) x

      before : (other : ExtremeFault) → IsEarlierExtremeFault other faults.Unfinished → Fails other → ⊥
      before faults.Ends earlier f = f ends
      before faults.Except earlier f = one_passes one f
      before (faults.Function q) earlier f = function_passes q one f
      before (faults.Members p) earlier f = members_pass p proved f
      before (faults.Conflict p q) earlier f = conflict_passes p q proved f
      before (faults.Node p) earlier f = node_stands x.conflicts goal x.tree (fails.set ∷ fails.sets) f.sets p f.node fails.left f.there f.before f.stands_not
      before faults.Unfinished earlier f = late faults.Unfinished faults.Unfinished (omega arith) (omega arith) earlier
      before faults.Memory earlier f = f

  by_tree_first : (fault : ExtremeFault) → fault ≢ faults.Memory → AreEnds t x → IsProvedOfOne t base side a x → AllByRecursion (IsProvedConflict t base side a) x.conflicts
      → RefusesTree x.conflicts (fewest side (length t.alternatives) x) x.tree fault → IsFirst Fails IsEarlierExtremeFault fault
  by_tree_first faults.Ends ne ends one proved h = absurd h
  by_tree_first faults.Except ne ends one proved h = absurd h
  by_tree_first (faults.Function r) ne ends one proved h = absurd h
  by_tree_first (faults.Members p) ne ends one proved h = absurd h
  by_tree_first (faults.Conflict p r) ne ends one proved h = absurd h
  by_tree_first (faults.Node p) ne ends one proved h = node_first p ends one proved h
  by_tree_first faults.Unfinished ne ends one proved h = unfinished_first ends one proved h
  by_tree_first faults.Memory ne ends one proved h = absurd (ne refl)

  -- ---- the interval

  pub refused_first : (fault : ExtremeFault) → fault ≢ faults.Memory → RefusesInterval t base side a x fault → IsFirst (FailsInterval t base side a x) IsEarlierExtremeFault fault
  refused_first fault ne (inl memory) = absurd (ne memory)
  refused_first fault ne (inr (by_ends e fails)) = subst (IsFirst Fails IsEarlierExtremeFault) (sym e) (ends_first fails)
  refused_first fault ne (inr (by_function ends h)) = by_function_first fault ne ends h
  refused_first fault ne (inr (by_conflict ends one h)) = by_conflict_first fault ne ends one h
  refused_first fault ne (inr (by_tree ends one proved h)) = by_tree_first fault ne ends one proved h
