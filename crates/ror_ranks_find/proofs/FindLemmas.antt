-- How the extreme ranks of a list are found one after another, and what the base says of it.
use Rattle.std.proofs.Common.{◌≡◌, ℕ, ◌+◌, ◌<◌, ◌≤◌, List, [], ◌∷◌, ◌++◌, length, map, append_assoc, append-nil, refl, sym, ap, subst, ◌∙◌, arith}
use Rattle.std.specs.List.{AllByRecursion, flat_map, range_with_len}
use Rattle.std.proofs.lemmas.List.{map-append}
use Rattle.ror_text.proofs.Everywhere.{all-append}
use Rattle.ror_text.proofs.ListLemmas.{range_more}
use Rattle.ror_statement.specs.declared.statement.Statement.{Statement}
use Rattle.ror_table.specs.Table.{DecisionTable}
use Rattle.ror_system.specs.System.{LinearSystem}
use Rattle.ror_system.specs.Acceptance.{IsAcceptedSolution}
use Rattle.ror_system.specs.declared.accept.Solution.{Solution}
use Rattle.ror_value.specs.Over.{IsLawfulIn}
use Rattle.ror_value.specs.Meaning.{IsConsistent}
use Rattle.ror_rows.proofs.Holding.{rows_hold_base}
use Rattle.ror_check.specs.Proof.{base_system}
use Rattle.ror_ranks.specs.declared.extreme.Side.{Side}
use Rattle.ror_ranks.specs.declared.extreme.Side.TheVariants.{Best, Worst}
use Rattle.ror_ranks.specs.declared.extreme.Extreme.{Extreme}
use Rattle.ror_ranks.specs.declared.extreme.Said.{Said}
use Rattle.ror_ranks_find.specs.declared.fault.RankingFault.{RankingFault}
use Rattle.ror_ranks_find.specs.declared.fault.RankingFault.TheVariants as faults
use Rattle.ror_ranks_find.specs.declared.found.Found.{Found}
use Rattle.ror_ranks_find.specs.declared.growing.Tree.{Tree}
use Rattle.ror_ranks_find.specs.declared.sought.Sought.{Sought}
use Rattle.ror_ranks.specs.Conflicts.{others_but, side_system, IsReached}
use Rattle.ror_ranks.specs.Trees.{IsTree}
use Rattle.ror_ranks.specs.Proof.{both_sides, due_extremes, extreme_of, AreDue}
use Rattle.ror_ranks.specs.Finding.{IsGivenSaid, IsGivenExtreme, AreGivenRanks}
use Rattle.ror_ranks_find.specs.RankingFaults.{IsDueFault}
use Rattle.ror_ranks_find.specs.Search.{IsBaseFunction, IsReachedFor, IsFoundFor, HasFunction, RefusesBase}
use Rattle.ror_ranks.proofs.ConflictTruth.{proved_ranks_true}
use Rattle.ror_ranks_find.proofs.ConcludeLemmas.{conflicts_proved}
use Rattle.ror_ranks.proofs.Contradictions.{refuted_is_contradictory}
use Rattle.ror_ranks.proofs.GivenRanks.{given_each_proved}
use Rattle.ror_ranks_find.proofs.MeetLemmas.{tree_within_reach}
use Rattle.ror_ranks.proofs.OthersLemmas.{others_but_are, set_few}
use Rattle.ror_ranks.proofs.StepLemmas.{nothing_added, none_left}

-- ---- the base

module _ (most : ℕ) (t : DecisionTable) (list : List Statement) (lawful : IsLawfulIn t list) where
  pub base_consistent : (x : Solution) → HasFunction most (base_system t list) x → IsConsistent t list
  base_consistent x has = (x.steps, (rows_hold_base t list x.steps lawful).1 has.0.solves)

  pub base_refused : (fault : RankingFault) → RefusesBase most (base_system t list) fault → IsDueFault most t list fault
  base_refused (faults.Contradictory m) h = record { contradictory = refuted_is_contradictory t list m lawful h.0; accepted = h.0; narrow = h.1 }
  base_refused (faults.BaseWide note) h = h
  base_refused faults.Memory h = tt

  -- all that is found
  pub all_given : (x : Solution) (xs : List Extreme) → HasFunction most (base_system t list) x → AreDue t xs → AllByRecursion (IsGivenExtreme most t (base_system t list)) xs → AreGivenRanks most t list xs
  all_given x xs has due each = record {
    consistent = base_consistent x has;
    due = due;
    each = each;
    true_ranks = proved_ranks_true t list xs lawful (record { due = due; each = given_each_proved most t (base_system t list) xs each });
  }

-- ---- one alternative after another

pieces-append : {X Y : Type 0} (f : X → List Y) (xs ys : List X) → flat_map f (xs ++ ys) ≡ flat_map f xs ++ flat_map f ys
pieces-append f [] ys = refl
pieces-append f (x ∷ xs) ys = ap (λ zs. f x ++ zs) (pieces-append f xs ys) ∙ sym (append_assoc (f x) (flat_map f xs) (flat_map f ys))

-- one alternative more is due
pub due_next : (n : ℕ) → due_extremes (n + 1) ≡ due_extremes n ++ both_sides n
due_next n =
    ap (flat_map both_sides) (range_more 0 n n (omega arith))
    ∙ pieces-append both_sides (range_with_len 0 n) (n ∷ [])
    ∙ ap (λ (more : List (ℕ × Side)). due_extremes n ++ more) (append-nil (both_sides n))

abbrev said_as : ℕ → Side → Said → Extreme
said_as a side s = record { alternative = a; side = side; said = s }

-- its two extreme ranks stand behind those that were there
pub both_pushed : (a : ℕ) (before middle now : List Extreme) (best worst : Said) → map extreme_of before ≡ due_extremes a → middle ≡ before ++ said_as a Best best ∷ [] → now ≡ middle ++ said_as a Worst worst ∷ []
    → map extreme_of now ≡ due_extremes (a + 1)
both_pushed a before middle now best worst due first second =
    let both : now ≡ before ++ said_as a Best best ∷ said_as a Worst worst ∷ [] = second
    ∙ ap (λ (xs : List Extreme). xs ++ said_as a Worst worst ∷ []) first
    ∙ append_assoc before (said_as a Best best ∷ []) (said_as a Worst worst ∷ []) in
    ap (map extreme_of) both
    ∙ map-append extreme_of before (said_as a Best best ∷ said_as a Worst worst ∷ [])
    ∙ ap (λ (xs : List (ℕ × Side)). xs ++ both_sides a) due
    ∙ sym (due_next a)

pub both_given : (most : ℕ) (t : DecisionTable) (base : LinearSystem) (a : ℕ) (before middle now : List Extreme) (best worst : Said) → AllByRecursion (IsGivenExtreme most t base) before
    → IsGivenSaid most t base Best a best → IsGivenSaid most t base Worst a worst → middle ≡ before ++ said_as a Best best ∷ [] → now ≡ middle ++ said_as a Worst worst ∷ []
    → AllByRecursion (IsGivenExtreme most t base) now
both_given most t base a before middle now best worst all first second one two =
    let half = subst (AllByRecursion (IsGivenExtreme most t base)) (sym one) (all-append (IsGivenExtreme most t base) before (said_as a Best best ∷ []) all (first, tt)) in
    subst (AllByRecursion (IsGivenExtreme most t base)) (sym two) (all-append (IsGivenExtreme most t base) middle (said_as a Worst worst ∷ []) half (second, tt))

-- the same over what the base is
pub given_over : (most : ℕ) (t : DecisionTable) (side : Side) (a : ℕ) (x : Said) (base same : LinearSystem) → base ≡ same → IsGivenSaid most t base side a x → IsGivenSaid most t same side a x
given_over most t side a x base same is said = subst (λ (s : LinearSystem). IsGivenSaid most t s side a x) is said

-- ---- how a search begins and goes on

-- all others may count by the function that solves the base
pub start_reached : (s : Sought) (x : Solution) (except : List ℕ) → IsBaseFunction s x → except ≡ others_but s.asked.table.now s.asked.alternative [] → IsReachedFor s except x
start_reached s x except has is =
    let t = s.asked.table.now in
    let base = s.asked.base.now in
    let a = s.asked.alternative in
    let side = s.asked.side in
    let all = others_but t a [] in
    let system : side_system t base side a (others_but t a all) ≡ base = ap (side_system t base side a) (none_left t a) ∙ nothing_added t base side a in
    let reached : IsReached t base side a all x = record {
      others = others_but_are t a [];
      accepted = subst (λ (l : LinearSystem). IsAcceptedSolution l x.steps) (sym system) has.0;
    } in
    (subst (λ (e : List ℕ). IsReached t base side a e x) (sym is) reached, has.1)

-- a whole tree shows fewer than there are alternatives, so that the goal can't rise for ever
pub goal_within : (s : Sought) (found : Found) (x : Tree) → s.asked.alternative < length s.asked.table.now.alternatives → IsFoundFor s found → IsTree found.conflicts.items x.goal x.nodes.items
    → x.goal + 1 ≤ length s.asked.table.now.alternatives
goal_within s found x of_table holds tree =
    let t = s.asked.table.now in
    let a = s.asked.alternative in
    let low = tree_within_reach t s.asked.base.now s.asked.side a found.conflicts.items x.goal x.nodes.items found.except found.function holds.reached.0 (conflicts_proved s found.conflicts.items holds.conflicts) tree in
    let few = set_few t a found.except of_table holds.reached.0.others in
    omega (arith, low, few)
