-- What is given of a list at a width has a text: its numbers are narrow, and its counts and places small.
use Rattle.std.proofs.Common.{◌≡◌, ℕ, zero, suc, ◌+◌, ◌*◌, ◌^◌, ◌<◌, ◌≤◌, Bool, true, false, List, [], ◌∷◌, ◌++◌, length, Some, None, ℤ, refl, sym, ap, subst, ◌∙◌, arith, lit<}
use Rattle.std.specs.Prelude.{nat_lt, not, ◌==◌, if◌then◌else◌}
use Rattle.std.specs.List.{AllByRecursion, flat_map, range_with_len}
use Rattle.std.proofs.lemmas.Bool.{and_parts, ltb-true}
use Rattle.std.proofs.lemmas.List.{length-map}
use Rattle.ror_text.proofs.Everywhere.{all-by}
use Rattle.ror_word.specs.Within.{IsWithin}
use Rattle.ror_statement.specs.declared.row_number.TheConstants.{MOST_STATEMENTS}
use Rattle.ror_statement.specs.declared.statement.Statement.{Statement}
use Rattle.ror_table.specs.declared.limits.TheConstants.{MOST_ALTERNATIVES}
use Rattle.ror_table.specs.Table.{DecisionTable, IsTable}
use Rattle.ror_system.specs.System.{LinearSystem, sum_limit, IsNarrow, IsWellFormed}
use Rattle.ror_system.specs.declared.accept.Multipliers.{Multipliers}
use Rattle.ror_value.specs.Over.{IsNamedIn, IsLawfulIn}
use Rattle.ror_pivot.specs.declared.note.Bits.{Bits}
use Rattle.ror_pivot.specs.declared.note.Bits.TheVariants.{B15, B31, B63, B127}
use Rattle.ror_pivot.specs.declared.note.SolveFault.TheVariants.{Wide}
use Rattle.ror_pivot.specs.declared.note.WideNote.{WideNote}
use Rattle.ror_pivot.specs.Answers.{most_of, IsNoteWithin}
use Rattle.ror_rows.specs.declared.extra.Extra.{Extra}
use Rattle.ror_check.specs.Proof.{base_system}
use Rattle.ror_relation.proofs.NoteBounds.{well_formed}
use Rattle.ror_proof.specs.Text.{AreNarrow}
use Rattle.ror_discriminate.specs.Text.{IsSmall, IsSmallPath, IsSmallPlace}
use Rattle.ror_discriminate.proofs.FoundBodies.{found_have_texts}
use Rattle.ror_ranks.specs.declared.extreme.Side.{Side}
use Rattle.ror_ranks.specs.declared.extreme.Side.TheVariants.{Best, Worst}
use Rattle.ror_ranks.specs.declared.extreme.Conflict.{Conflict}
use Rattle.ror_ranks.specs.declared.extreme.Node.{Node}
use Rattle.ror_ranks.specs.declared.extreme.Node.TheVariants.{Leaf, Branch}
use Rattle.ror_ranks.specs.declared.extreme.Interval.{Interval}
use Rattle.ror_ranks.specs.declared.extreme.WideExtreme.{WideExtreme}
use Rattle.ror_ranks.specs.declared.extreme.Said.{Said}
use Rattle.ror_ranks.specs.declared.extreme.Said.TheVariants as said
use Rattle.ror_ranks.specs.declared.extreme.Extreme.{Extreme}
use Rattle.ror_ranks_text.specs.declared.entry.EntryBody.{EntryBody}
use Rattle.ror_ranks_text.specs.declared.entry.EntryBody.TheVariants as bodies
use Rattle.ror_ranks.specs.declared.limits.TheConstants.{MOST_NODES}
use Rattle.ror_ranks.specs.Conflicts.{are_others, row_on, rows_on, side_system, IsProvedConflict}
use Rattle.ror_ranks.specs.Trees.{members_at, share, is_apart, are_apart, may_stand, sets_below, sets_left, root_sets}
use Rattle.ror_ranks.specs.Proof.{fewest, both_sides, extreme_of, AreDue}
use Rattle.ror_ranks.specs.Finding.{AreWithin, IsGivenInterval, IsWideExtreme, IsGivenSaid, IsGivenExtreme}
use Rattle.ror_ranks_text.specs.Given.{IsGivenBody}
use Rattle.ror_ranks_text.specs.Text.{AreOfTable, IsPrintableConflict, IsPrintableNode, IsPrintableInterval, IsPrintableWide, IsPrintableSaid, IsPrintableExtreme, IsPrintableBody}
use Rattle.ror_ranks.proofs.Counting.{IsOther, set_others, side_system_is}
use Rattle.ror_ranks.proofs.OthersLemmas.{set_few}
use Rattle.ror_ranks.proofs.ConflictTruth.{due_within}

-- ---- numbers

most_within : (bits : Bits) → most_of bits < sum_limit
most_within B15 = lit< tt
most_within B31 = lit< tt
most_within B63 = lit< tt
most_within B127 = lit< tt

narrow : (bits : Bits) (xs : List ℤ) → AllByRecursion (IsWithin (most_of bits)) xs → AllByRecursion IsNarrow xs
narrow bits xs all = all-by (IsWithin (most_of bits)) IsNarrow xs (λ z within. omega (arith, within, most_within bits)) all

narrow_multipliers : (bits : Bits) (m : Multipliers) → AreWithin (most_of bits) m → AreNarrow m
narrow_multipliers bits m within = (narrow bits m.weak within.0, narrow bits m.strict within.1)

-- a table has few alternatives
few_alternatives : (t : DecisionTable) → IsTable t → length t.alternatives ≤ 200
few_alternatives t table = let limit = table.alternatives_limit in let is : MOST_ALTERNATIVES ≡ 200 = refl in omega (arith, limit, is)

small_rank : (t : DecisionTable) (r : ℕ) → IsTable t → r ≤ length t.alternatives → IsSmall r
small_rank t r table within = let few = few_alternatives t table in omega (arith, within, few)

-- ---- members

of_table : (t : DecisionTable) (a : ℕ) (members : List ℕ) → are_others t a members ≡ true → AreOfTable t members
of_table t a members are = all-by (IsOther t a) (λ b. b < length t.alternatives) members (λ b other. other.of_table) (set_others t a 0 members are)

-- ---- the places of a tree

apart_small : (conflicts : List Conflict) (set : List ℕ) (place : ℕ) → length conflicts < 2 ^ 32 → is_apart conflicts set place ≡ true → IsSmall place
apart_small conflicts set place few apart =
    let within = ltb-true place (length conflicts) (and_parts (nat_lt place (length conflicts)) (not (share (members_at conflicts place) set)) apart).0 in
    omega (arith, few, within)

places_small : (conflicts : List Conflict) (set : List ℕ) (places : List ℕ) → length conflicts < 2 ^ 32 → are_apart conflicts set places ≡ true → AllByRecursion IsSmall places
places_small conflicts set [] few apart = tt
places_small conflicts set (place ∷ places) few apart =
    let parts = and_parts (is_apart conflicts set place) (are_apart conflicts (set ++ members_at conflicts place) places) apart in
    (apart_small conflicts set place few parts.0, places_small conflicts (set ++ members_at conflicts place) places few parts.1)

node_small : (conflicts : List Conflict) (goal : ℕ) (set : List ℕ) (node : Node) → length conflicts < 2 ^ 32 → may_stand conflicts goal set node ≡ true → IsPrintableNode node
node_small conflicts goal set (Leaf places) few stands =
    places_small conflicts set places few (and_parts (are_apart conflicts set places) (length set + length places == goal) stands).0
node_small conflicts goal set (Branch place) few stands = apart_small conflicts set place few stands

nodes_small : (conflicts : List Conflict) (goal : ℕ) (sets left : List (List ℕ)) (nodes : List Node) → length conflicts < 2 ^ 32 → sets_left conflicts goal sets nodes ≡ Some left → AllByRecursion IsPrintableNode nodes
nodes_small conflicts goal sets left [] few h = tt
nodes_small conflicts goal [] left (node ∷ nodes) few h = absurd cc
nodes_small conflicts goal (set ∷ sets) left (node ∷ nodes) few h =
    by (may_stand conflicts goal set node) refl h (nodes_small conflicts goal (sets_below conflicts set node ++ sets) left nodes few)
  where
    by : (b : Bool) → may_stand conflicts goal set node ≡ b
        → (if b then sets_left conflicts goal (sets_below conflicts set node ++ sets) nodes else None) ≡ Some left
        → (sets_left conflicts goal (sets_below conflicts set node ++ sets) nodes ≡ Some left → AllByRecursion IsPrintableNode nodes)
        → AllByRecursion IsPrintableNode (node ∷ nodes)
    by true stands some rest = (node_small conflicts goal set node few stands, rest some)
    by false stands some rest = absurd cc

-- ---- conflicts

conflicts_printable : (bits : Bits) (t : DecisionTable) (base : LinearSystem) (side : Side) (a : ℕ) (conflicts : List Conflict)
    → AllByRecursion (IsProvedConflict t base side a) conflicts → AllByRecursion (λ (c : Conflict). AreWithin (most_of bits) c.multipliers) conflicts → AllByRecursion (IsPrintableConflict t) conflicts
conflicts_printable bits t base side a [] proved within = tt
conflicts_printable bits t base side a (c ∷ cs) proved within =
    (record { members = of_table t a c.members proved.0.others; narrow = narrow_multipliers bits c.multipliers within.0 }, conflicts_printable bits t base side a cs proved.1 within.1)

-- ---- notes

rows_named : (t : DecisionTable) (side : Side) (a : ℕ) (members : List ℕ) → a < length t.alternatives → AllByRecursion (IsOther t a) members → AllByRecursion (λ (e : Extra). IsNamedIn t e.form) (rows_on side a members)
rows_named t side a [] within are = tt
rows_named t Best a (b ∷ bs) within are = ((within, are.0.of_table), rows_named t Best a bs within are.1)
rows_named t Worst a (b ∷ bs) within are = ((are.0.of_table, within), rows_named t Worst a bs within are.1)

side_formed : (t : DecisionTable) (list : List Statement) (side : Side) (a : ℕ) (members : List ℕ) → IsTable t → IsLawfulIn t list → a < length t.alternatives → are_others t a members ≡ true
    → IsWellFormed (side_system t (base_system t list) side a members)
side_formed t list side a members table lawful within are =
    let few = set_few t a members within are in
    let limit = few_alternatives t table in
    let number = length-map members (row_on side a) in
    let most : MOST_STATEMENTS ≡ 200 = refl in
    let formed = well_formed t list table lawful (rows_on side a members) (omega (arith, few, limit, number, most)) (rows_named t side a members within (set_others t a 0 members are)) in
    subst IsWellFormed (sym (side_system_is t list a side members)) formed

note_small : (s : LinearSystem) (note : WideNote) → IsWellFormed s → IsNoteWithin s (Wide note) → IsSmallPlace note.place × IsSmallPath note.path
note_small s note formed within = found_have_texts.base_wide s note formed within

-- ---- extreme ranks

module _ (bits : Bits) (t : DecisionTable) (list : List Statement) (table : IsTable t) (lawful : IsLawfulIn t list) where
  interval_printable : (side : Side) (a : ℕ) (x : Interval) → IsGivenInterval (most_of bits) t (base_system t list) side a x → IsPrintableInterval t x
  interval_printable side a x given =
      let ends = given.proved.ends in
      let ordered = ends.ordered in
      let last = ends.last in
      let nodes = given.few.nodes in
      let limit : MOST_NODES ≡ 1000 = refl in record {
        from = small_rank t x.from table (omega (arith, ordered, last));
        to = small_rank t x.to table last;
        except = of_table t a x.except given.proved.of_one.reached.others;
        function = narrow bits x.function.steps given.narrow.function;
        few_conflicts = given.few.conflicts;
        conflicts = conflicts_printable bits t (base_system t list) side a x.conflicts given.proved.of_all.conflicts given.narrow.conflicts;
        few_nodes = omega (arith, nodes, limit);
        tree = nodes_small x.conflicts (fewest side (length t.alternatives) x) root_sets [] x.tree given.few.conflicts given.proved.of_all.tree;
      }

  wide_printable : (side : Side) (a : ℕ) (x : WideExtreme) → a < length t.alternatives → IsWideExtreme (most_of bits) t (base_system t list) side a x → IsPrintableWide t x
  wide_printable side a x within given =
      let small = note_small (side_system t (base_system t list) side a x.members) x.note (side_formed t list side a x.members table lawful within given.others) given.noted.1 in
      record { place = small.0; path = small.1; members = of_table t a x.members given.others }

  said_printable : (side : Side) (a : ℕ) (s : Said) → a < length t.alternatives → IsGivenSaid (most_of bits) t (base_system t list) side a s → IsPrintableSaid t s
  said_printable side a (said.Within x) within given = interval_printable side a x given
  said_printable side a (said.Wide x) within given = wide_printable side a x within given

  extremes_printable : (xs : List Extreme) → AllByRecursion (λ (x : Extreme). x.alternative < length t.alternatives) xs → AllByRecursion (IsGivenExtreme (most_of bits) t (base_system t list)) xs → AllByRecursion (IsPrintableExtreme t) xs
  extremes_printable [] within given = tt
  extremes_printable (x ∷ xs) within given =
      (record { alternative = within.0; said = said_printable x.side x.alternative x.said within.0 given.0 }, extremes_printable xs within.1 given.1)

-- ---- how many are due

due_number : (m s : ℕ) → length (flat_map both_sides (range_with_len s m)) ≡ 2 * m
due_number zero s = refl
due_number (suc m) s = let rest = due_number m (s + 1) in omega (arith, rest)

few_due : (t : DecisionTable) (xs : List Extreme) → IsTable t → AreDue t xs → IsSmall (length xs)
few_due t xs table due =
    let n = length t.alternatives in
    let number : length xs ≡ 2 * n = sym (length-map xs extreme_of) ∙ ap length due ∙ due_number n 0 in
    let few = few_alternatives t table in
    omega (arith, number, few)

pub given_have_texts : (bits : Bits) (t : DecisionTable) (list : List Statement) (body : EntryBody) → IsTable t → IsLawfulIn t list → IsGivenBody (most_of bits) t list body → IsPrintableBody t body
given_have_texts bits t list (bodies.Ranks xs) table lawful given = (few_due t xs table given.due, extremes_printable bits t list table lawful xs (due_within t xs given.due) given.each)
given_have_texts bits t list (bodies.Contradiction m) table lawful given = narrow_multipliers bits m given.narrow
given_have_texts bits t list (bodies.BaseWide note) table lawful given = note_small (base_system t list) note (well_formed t list table lawful [] (omega arith) tt) given.1
