-- What is proved passes each test, and extreme ranks have at most one first fault.
use Rattle.std.proofs.Common.{◌≡◌, inl, inr, ℕ, zero, suc, ◌+◌, ◌*◌, ◌/◌, ◌%◌, Bool, true, false, cond, eqb, List, [], ◌∷◌, ◌++◌, length, take, Some, None, refl, sym, ap, ap₂, subst, ◌∙◌, arith}
use Rattle.std.specs.Prelude.{slice_get, if◌then◌else◌}
use Rattle.std.proofs.lemmas.Bool.{true≢false}
use Rattle.ror_text.specs.FirstFault.{IsFirst}
use Rattle.ror_text.proofs.FirstFaultLemmas.{first_at}
use Rattle.ror_text.proofs.Everywhere.{all_at}
use Rattle.ror_statement.specs.declared.statement.Statement.{Statement}
use Rattle.ror_table.specs.Table.{DecisionTable}
use Rattle.ror_system.specs.System.{LinearSystem}
use Rattle.ror_system.specs.Acceptance.{FailsMultipliers, IsEarlierTest}
use Rattle.ror_system.specs.declared.reject.Reject.{Reject}
use Rattle.ror_system.specs.declared.reject.Reject.TheVariants as rejects
use Rattle.ror_system.proofs.Reasons.{one_solution_reason, one_multiplier_reason}
use Rattle.ror_system.proofs.SolutionTests as solutions
use Rattle.ror_system.proofs.MultiplierTests as multipliers
use Rattle.ror_check.specs.Proof.{base_system}
use Rattle.ror_ranks.specs.declared.extreme.Side.{Side}
use Rattle.ror_ranks.specs.declared.extreme.Conflict.{Conflict}
use Rattle.ror_ranks.specs.declared.extreme.Node.{Node}
use Rattle.ror_ranks.specs.declared.extreme.Interval.{Interval}
use Rattle.ror_ranks.specs.declared.extreme.Said.{Said}
use Rattle.ror_ranks.specs.declared.extreme.Said.TheVariants as said
use Rattle.ror_ranks.specs.declared.extreme.Extreme.{Extreme}
use Rattle.ror_ranks.specs.declared.fault.ExtremeFault.{ExtremeFault}
use Rattle.ror_ranks.specs.declared.fault.ExtremeFault.TheVariants as faults
use Rattle.ror_ranks.specs.declared.fault.RanksFault.{RanksFault}
use Rattle.ror_ranks.specs.declared.fault.RanksFault.TheVariants as ranks
use Rattle.ror_ranks.specs.Conflicts.{others_but, side_system, IsProvedConflict}
use Rattle.ror_ranks.specs.Trees.{may_stand, sets_below, sets_left, root_sets, IsTree}
use Rattle.ror_ranks.specs.Proof.{fewest, IsProvedInterval, IsProvedSaid, IsProvedExtreme, AreProvedRanks}
use Rattle.ror_ranks.specs.Faults.{FailsConflict, MayNotStand, FailsNode, FailsInterval, FailsSaid, extreme_stage, extreme_place, IsEarlierExtremeFault, FailsExtremeAt, FailsRanks, ranks_stage, ranks_place, IsEarlierRanksFault}

-- ---- trees, node by node

-- the nodes to come stand with the sets that those before them left
pub left_more : (conflicts : List Conflict) (goal : ℕ) (sets left : List (List ℕ)) (nodes more : List Node)
    → sets_left conflicts goal sets nodes ≡ Some left → sets_left conflicts goal sets (nodes ++ more) ≡ sets_left conflicts goal left more
left_more conflicts goal sets left [] more h = let e : sets ≡ left = cc in ap (λ (s : List (List ℕ)). sets_left conflicts goal s more) e
left_more conflicts goal [] left (node ∷ nodes) more h = absurd cc
left_more conflicts goal (set ∷ sets) left (node ∷ nodes) more h =
    by (may_stand conflicts goal set node) refl h (left_more conflicts goal (sets_below conflicts set node ++ sets) left nodes more)
  where
    by : (b : Bool) → may_stand conflicts goal set node ≡ b
        → (if b then sets_left conflicts goal (sets_below conflicts set node ++ sets) nodes else None) ≡ Some left
        → (sets_left conflicts goal (sets_below conflicts set node ++ sets) nodes ≡ Some left
        → sets_left conflicts goal (sets_below conflicts set node ++ sets) (nodes ++ more) ≡ sets_left conflicts goal left more)
        → sets_left conflicts goal (set ∷ sets) ((node ∷ nodes) ++ more) ≡ sets_left conflicts goal left more
    by true stands some rest = rw stands (rest some)
    by false stands some rest = absurd cc

-- nothing is left behind a node that may not stand
stands_not_left : (conflicts : List Conflict) (goal : ℕ) (sets : List (List ℕ)) (node : Node) (nodes : List Node) → MayNotStand conflicts goal sets node
    → sets_left conflicts goal sets (node ∷ nodes) ≡ None
stands_not_left conflicts goal [] node nodes not_ = refl
stands_not_left conflicts goal (set ∷ sets) node nodes not_ = rw not_ refl

-- a list around a place
around : {X : Type 0} (xs : List X) (place : ℕ) (x : X) → slice_get xs place ≡ Some x → (rest : List X) × (take place xs ++ x ∷ rest ≡ xs)
around [] place x there = absurd cc
around (y ∷ ys) zero x there = let same : x ≡ y = cc in (ys, ap (λ z. z ∷ ys) same)
around (y ∷ ys) (suc place) x there = let r = around ys place x there in (r.0, ap (λ zs. y ∷ zs) r.1)

-- where something is left behind all nodes, each may stand with what those before it left
pub node_stands : (conflicts : List Conflict) (goal : ℕ) (nodes : List Node) (left sets : List (List ℕ)) (place : ℕ) (node : Node)
    → sets_left conflicts goal root_sets nodes ≡ Some left → slice_get nodes place ≡ Some node
    → sets_left conflicts goal root_sets (take place nodes) ≡ Some sets → MayNotStand conflicts goal sets node → ⊥
node_stands conflicts goal nodes left sets place node all there before not_ =
    let split = around nodes place node there in
    let whole : sets_left conflicts goal root_sets (take place nodes ++ node ∷ split.0) ≡ Some left = rw split.1 all in
    let rest = left_more conflicts goal root_sets sets (take place nodes) (node ∷ split.0) before in
    let none = stands_not_left conflicts goal sets node split.0 not_ in
    let wrong : Some left ≡ None = sym whole ∙ rest ∙ none in
    absurd cc

tree_passes : (conflicts : List Conflict) (goal : ℕ) (nodes : List Node) (place : ℕ) → IsTree conflicts goal nodes → FailsNode conflicts goal nodes place → ⊥
tree_passes conflicts goal nodes place tree fails = node_stands conflicts goal nodes [] fails.sets place fails.node tree fails.there fails.before fails.stands_not

-- ---- what is proved passes each test

interval_passes : (t : DecisionTable) (base : LinearSystem) (side : Side) (a : ℕ) (x : Interval) (fault : ExtremeFault)
    → IsProvedInterval t base side a x → FailsInterval t base side a x fault → ⊥
interval_passes t base side a x faults.Ends proved fails = fails proved.ends
interval_passes t base side a x faults.Except proved (inl none) = true≢false (sym proved.of_one.reached.others ∙ none)
interval_passes t base side a x faults.Except proved (inr other) = other proved.of_one.number
interval_passes t base side a x (faults.Function r) proved fails =
    solutions.not_accepted (side_system t base side a (others_but t a x.except)) x.function.steps r fails proved.of_one.reached.accepted
interval_passes t base side a x (faults.Members place) proved fails =
    let c = all_at (IsProvedConflict t base side a) x.conflicts place fails.conflict proved.of_all.conflicts fails.there in
    true≢false (sym c.others ∙ fails.no_others)
interval_passes t base side a x (faults.Conflict place r) proved fails =
    let m = fails.conflict.multipliers in
    let c = all_at (IsProvedConflict t base side a) x.conflicts place fails.conflict proved.of_all.conflicts fails.there in
    multipliers.not_accepted (side_system t base side a fails.conflict.members) m.weak m.strict r fails.rejected c.refuted
interval_passes t base side a x (faults.Node place) proved fails = tree_passes x.conflicts (fewest side (length t.alternatives) x) x.tree place proved.of_all.tree fails
interval_passes t base side a x faults.Unfinished proved fails = let wrong : Some [] ≡ Some (fails.set ∷ fails.sets) = sym proved.of_all.tree ∙ fails.left in absurd cc
interval_passes t base side a x faults.Memory proved fails = fails

pub said_passes : (t : DecisionTable) (base : LinearSystem) (side : Side) (a : ℕ) (s : Said) (fault : ExtremeFault)
    → IsProvedSaid t base side a s → FailsSaid t base side a s fault → ⊥
said_passes t base side a (said.Within x) fault proved fails = interval_passes t base side a x fault proved fails
said_passes t base side a (said.Wide x) fault proved fails = fails

pub proved_ranks_pass : (t : DecisionTable) (list : List Statement) (xs : List Extreme) (fault : RanksFault) → AreProvedRanks t list xs → FailsRanks t list xs fault → ⊥
proved_ranks_pass t list xs ranks.NotDue proved fails = fails proved.due
proved_ranks_pass t list xs (ranks.Extreme k fault) proved fails =
    let x = fails.extreme in
    let one : IsProvedExtreme t (base_system t list) x = all_at (IsProvedExtreme t (base_system t list)) xs fails.before x proved.each fails.there in
    said_passes t (base_system t list) x.side x.alternative x.said fault one fails.first.fails
proved_ranks_pass t list xs ranks.Memory proved fails = fails

-- ---- one first fault of an interval

reason_of : ExtremeFault → Reject
reason_of (faults.Function r) = r
reason_of (faults.Conflict place r) = r
reason_of _ = rejects.Length

-- the test of a conflict at a place of its stage
of_conflict : ℕ → Reject → ExtremeFault
of_conflict p r = cond (eqb (p % 2) 0) (faults.Members (p / 2)) (faults.Conflict (p / 2) r)

-- the test at a stage and a place, with a reason where it has one
test_at : ℕ → ℕ → Reject → ExtremeFault
test_at zero p r = faults.Ends
test_at (suc zero) p r = faults.Except
test_at (suc (suc zero)) p r = faults.Function r
test_at (suc (suc (suc zero))) p r = of_conflict p r
test_at (suc (suc (suc (suc zero)))) p r = faults.Node p
test_at (suc (suc (suc (suc (suc n))))) p r = faults.Unfinished

members_place : (k : ℕ) (r : Reject) → faults.Members k ≡ of_conflict (2 * k) r
unfolding of_conflict
members_place k r = let e : (2 * k) % 2 ≡ 0 = omega arith in let f : (2 * k) / 2 ≡ k = omega arith in rw (e, f)

conflict_place : (k : ℕ) (r : Reject) → faults.Conflict k r ≡ of_conflict (2 * k + 1) r
unfolding of_conflict
conflict_place k r = let e : (2 * k + 1) % 2 ≡ 1 = omega arith in let f : (2 * k + 1) / 2 ≡ k = omega arith in rw (e, f)

module _ (t : DecisionTable) (base : LinearSystem) (side : Side) (a : ℕ) (x : Interval) where
  abbrev Fails : ExtremeFault → Type 0
  Fails = FailsInterval t base side a x

  is_test : (f : ExtremeFault) → Fails f → f ≡ test_at (extreme_stage f) (extreme_place f) (reason_of f)
  unfolding test_at reason_of
  is_test faults.Ends h = refl
  is_test faults.Except h = refl
  is_test (faults.Function r) h = refl
  is_test (faults.Members k) h = members_place k rejects.Length
  is_test (faults.Conflict k r) h = conflict_place k r
  is_test (faults.Node k) h = refl
  is_test faults.Unfinished h = refl
  is_test faults.Memory h = absurd h

  -- one conflict has one reason
  one_conflict_reason : (place : ℕ) (q r : Reject) → FailsConflict t base side a x.conflicts place q → FailsConflict t base side a x.conflicts place r → q ≡ r
  one_conflict_reason place q r first second =
      let there : Some second.conflict ≡ Some first.conflict = sym second.there ∙ first.there in
      let same : second.conflict ≡ first.conflict = cc in
      let moved = subst (λ (c : Conflict). IsFirst (FailsMultipliers (side_system t base side a c.members) c.multipliers.weak c.multipliers.strict) IsEarlierTest r) same second.rejected in
      one_multiplier_reason (side_system t base side a first.conflict.members) first.conflict.multipliers.weak first.conflict.multipliers.strict q r first.rejected moved

  one_of_conflict : (p : ℕ) (q r : Reject) → Fails (of_conflict p q) → Fails (of_conflict p r) → of_conflict p q ≡ of_conflict p r
  unfolding of_conflict
  one_of_conflict p q r first second = by (eqb (p % 2) 0) first second
    where
      by : (b : Bool) → Fails (cond b (faults.Members (p / 2)) (faults.Conflict (p / 2) q)) → Fails (cond b (faults.Members (p / 2)) (faults.Conflict (p / 2) r))
          → cond b (faults.Members (p / 2)) (faults.Conflict (p / 2) q) ≡ cond b (faults.Members (p / 2)) (faults.Conflict (p / 2) r)
      by true one two = refl
      by false one two = ap (λ (reason : Reject). faults.Conflict (p / 2) reason) (one_conflict_reason (p / 2) q r one two)

  one_test : (s p : ℕ) (q r : Reject) → Fails (test_at s p q) → Fails (test_at s p r) → test_at s p q ≡ test_at s p r
  unfolding test_at
  one_test zero p q r first second = refl
  one_test (suc zero) p q r first second = refl
  one_test (suc (suc zero)) p q r first second =
      ap faults.Function (one_solution_reason (side_system t base side a (others_but t a x.except)) x.function.steps q r first second)
  one_test (suc (suc (suc zero))) p q r first second = one_of_conflict p q r first second
  one_test (suc (suc (suc (suc zero)))) p q r first second = refl
  one_test (suc (suc (suc (suc (suc n))))) p q r first second = refl

  one_interval_fault : (f g : ExtremeFault) → IsFirst (FailsInterval t base side a x) IsEarlierExtremeFault f → IsFirst (FailsInterval t base side a x) IsEarlierExtremeFault g → f ≡ g
  one_interval_fault f g first second =
      let at = first_at Fails extreme_stage extreme_place f g first second in
      let one = is_test f first.fails in
      let two : g ≡ test_at (extreme_stage f) (extreme_place f) (reason_of g) = is_test g second.fails ∙ sym (ap₂ (λ (s p : ℕ). test_at s p (reason_of g)) at.0 at.1) in
      one ∙ one_test (extreme_stage f) (extreme_place f) (reason_of f) (reason_of g) (subst Fails one first.fails) (subst Fails two second.fails) ∙ sym two

one_said_fault : (t : DecisionTable) (base : LinearSystem) (side : Side) (a : ℕ) (s : Said) (f g : ExtremeFault)
    → IsFirst (FailsSaid t base side a s) IsEarlierExtremeFault f → IsFirst (FailsSaid t base side a s) IsEarlierExtremeFault g → f ≡ g
one_said_fault t base side a (said.Within x) f g first second = one_interval_fault t base side a x f g first second
one_said_fault t base side a (said.Wide x) f g first second = absurd first.fails

-- ---- one first fault of all

module _ (t : DecisionTable) (list : List Statement) (xs : List Extreme) where
  -- one extreme rank has one fault
  one_at : (k : ℕ) (f g : ExtremeFault) → FailsExtremeAt t list xs k f → FailsExtremeAt t list xs k g → f ≡ g
  one_at k f g first second =
      let m = first.counted in
      let n = second.counted in
      let place : second.before ≡ first.before = omega (arith, m, n) in
      let there : slice_get xs first.before ≡ Some second.extreme = subst (λ (i : ℕ). slice_get xs i ≡ Some second.extreme) place second.there in
      let both : Some second.extreme ≡ Some first.extreme = sym there ∙ first.there in
      let same : second.extreme ≡ first.extreme = cc in
      let moved = subst (λ (x : Extreme). IsFirst (FailsSaid t (base_system t list) x.side x.alternative x.said) IsEarlierExtremeFault g) same second.first in
      one_said_fault t (base_system t list) first.extreme.side first.extreme.alternative first.extreme.said f g first.first moved

  one_by : (f g : RanksFault) → ranks_stage f ≡ ranks_stage g → ranks_place f ≡ ranks_place g → FailsRanks t list xs f → FailsRanks t list xs g → f ≡ g
  one_by ranks.NotDue ranks.NotDue stages places first second = refl
  one_by ranks.NotDue (ranks.Extreme k g) stages places first second = absurd (omega arith)
  one_by (ranks.Extreme k f) ranks.NotDue stages places first second = absurd (omega arith)
  one_by (ranks.Extreme j f) (ranks.Extreme k g) stages places first second =
      let moved = subst (λ (i : ℕ). FailsExtremeAt t list xs i g) (sym places) second in
      ap₂ ranks.Extreme places (one_at j f g first moved)
  one_by ranks.Memory g stages places first second = absurd first
  one_by ranks.NotDue ranks.Memory stages places first second = absurd second
  one_by (ranks.Extreme k f) ranks.Memory stages places first second = absurd second

  pub one_ranks_fault : (f g : RanksFault) → IsFirst (FailsRanks t list xs) IsEarlierRanksFault f → IsFirst (FailsRanks t list xs) IsEarlierRanksFault g → f ≡ g
  one_ranks_fault f g first second =
      let at = first_at (FailsRanks t list xs) ranks_stage ranks_place f g first second in
      one_by f g at.0 at.1 first.fails second.fails
