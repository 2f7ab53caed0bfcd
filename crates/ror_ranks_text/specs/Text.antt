-- The one text of an entry: the name of a desk, and what is said of its statements.
use Rattle.std.specs.Prelude.{◌≡◌, ℕ, ◌<◌, true, List, [], ◌∷◌, ◌++◌, length, map, ℤ, codes, decimal}
use Rattle.std.specs.List.{AllByRecursion, flat_map}
use Rattle.ror_text.specs.SpacedLines.{line_text}
use Rattle.ror_system.specs.System.{IsNarrow}
use Rattle.ror_system.specs.declared.accept.Multipliers.{Multipliers}
use Rattle.ror_table.specs.Table.{DecisionTable, id_of}
use Rattle.ror_proof.specs.Text.{solution_words, multipliers_words, AreNarrow}
use Rattle.ror_report.specs.Desk.{desk_text, is_desk_name}
use Rattle.ror_discriminate.specs.Text.{base_wide_text, path_words, place_words, IsSmall, IsSmallPath, IsSmallPlace}
use Rattle.ror_ranks.specs.declared.extreme.Side.{Side}
use Rattle.ror_ranks.specs.declared.extreme.Conflict.{Conflict}
use Rattle.ror_ranks.specs.declared.extreme.Node.{Node}
use Rattle.ror_ranks.specs.declared.extreme.Node.TheVariants.{Leaf, Branch}
use Rattle.ror_ranks.specs.declared.extreme.Interval.{Interval}
use Rattle.ror_ranks.specs.declared.extreme.WideExtreme.{WideExtreme}
use Rattle.ror_ranks.specs.declared.extreme.Said.{Said}
use Rattle.ror_ranks.specs.declared.extreme.Said.TheVariants as said
use Rattle.ror_ranks.specs.declared.extreme.Extreme.{Extreme}
use Rattle.ror_ranks_text.specs.declared.entry.Entry.{Entry}
use Rattle.ror_ranks_text.specs.declared.entry.EntryBody.{EntryBody}
use Rattle.ror_ranks_text.specs.declared.entry.EntryBody.TheVariants as bodies
use Rattle.ror_ranks.specs.SideNames.{side_word}

-- the first line of a report
unfoldable pub header_text : List ℕ
header_text = line_text (codes "ror-ranks" ∷ codes "1" ∷ [])

-- ---- lines

-- a word, and the ids of these alternatives
abbrev pub ids_text : DecisionTable → List ℕ → List ℕ → List ℕ
ids_text t word members = line_text (word ∷ map (id_of t) members)

abbrev pub solution_text : List ℤ → List ℕ
solution_text steps = line_text (solution_words steps)

abbrev pub multipliers_text : Multipliers → List ℕ
multipliers_text m = line_text (multipliers_words m.weak m.strict)

-- `conflict` and the members, and the multipliers in a line behind it
abbrev pub conflict_text : DecisionTable → Conflict → List ℕ
conflict_text t c = ids_text t (codes "conflict") c.members ++ multipliers_text c.multipliers

-- `leaf` and the places of conflicts, or `branch` and the place of one
abbrev pub node_text : Node → List ℕ
node_text (Leaf places) = line_text (codes "leaf" ∷ map decimal places)
node_text (Branch place) = line_text (codes "branch" ∷ decimal place ∷ [])

-- ---- extreme ranks

-- the side and the alternative, between which ranks it lies, and how many conflicts and nodes follow
abbrev pub interval_line : DecisionTable → Side → ℕ → Interval → List ℕ
interval_line t side a x = line_text
    (side_word side
    ∷ id_of t a
    ∷ codes "from"
    ∷ decimal x.from
    ∷ codes "to"
    ∷ decimal x.to
    ∷ codes "conflicts"
    ∷ decimal (length x.conflicts)
    ∷ codes "nodes"
    ∷ decimal (length x.tree)
    ∷ [])

-- that line, the exceptions, the function, the conflicts and the nodes
abbrev pub interval_text : DecisionTable → Side → ℕ → Interval → List ℕ
interval_text t side a x =
    interval_line t side a x
    ++ (ids_text t (codes "except") x.except
    ++ (solution_text x.function.steps
    ++ (flat_map (conflict_text t) x.conflicts
    ++ flat_map node_text x.tree)))

-- the side, the alternative and the number that is too wide, and the alternatives in a line behind it
abbrev pub wide_text : DecisionTable → Side → ℕ → WideExtreme → List ℕ
wide_text t side a x =
    line_text (side_word side ∷ id_of t a ∷ codes "wide" ∷ (place_words x.note.place ++ path_words x.note.path))
    ++ ids_text t (codes "over") x.members

abbrev pub said_text : DecisionTable → Side → ℕ → Said → List ℕ
said_text t side a (said.Within x) = interval_text t side a x
said_text t side a (said.Wide x) = wide_text t side a x

abbrev pub extreme_text : DecisionTable → Extreme → List ℕ
extreme_text t x = said_text t x.side x.alternative x.said

-- ---- entries

abbrev pub body_text : DecisionTable → EntryBody → List ℕ
body_text t (bodies.Ranks xs) =
    line_text (codes "ranks" ∷ decimal (length xs) ∷ []) ++ flat_map (extreme_text t) xs
body_text t (bodies.Contradiction m) = line_text (codes "contradiction" ∷ multipliers_words m.weak m.strict)
body_text t (bodies.BaseWide note) = base_wide_text note

-- the line of the desk, and what is said of it
unfoldable pub entry_text : DecisionTable → Entry → List ℕ
entry_text t x = desk_text x.desk ++ body_text t x.body

-- ---- those that have a text

abbrev pub AreOfTable : DecisionTable → List ℕ → Type 0
AreOfTable t members = AllByRecursion (λ b. b < length t.alternatives) members

pub record IsPrintableConflict (t : DecisionTable) (c : Conflict) : Type 0 where
  pub members : AreOfTable t c.members
  pub narrow : AreNarrow c.multipliers

abbrev pub IsPrintableNode : Node → Type 0
IsPrintableNode (Leaf places) = AllByRecursion IsSmall places
IsPrintableNode (Branch place) = IsSmall place

pub record IsPrintableInterval (t : DecisionTable) (x : Interval) : Type 0 where
  pub from : IsSmall x.from
  pub to : IsSmall x.to
  pub except : AreOfTable t x.except
  pub function : AllByRecursion IsNarrow x.function.steps
  pub few_conflicts : IsSmall (length x.conflicts)
  pub conflicts : AllByRecursion (IsPrintableConflict t) x.conflicts
  pub few_nodes : IsSmall (length x.tree)
  pub tree : AllByRecursion IsPrintableNode x.tree

pub record IsPrintableWide (t : DecisionTable) (x : WideExtreme) : Type 0 where
  pub place : IsSmallPlace x.note.place
  pub path : IsSmallPath x.note.path
  pub members : AreOfTable t x.members

abbrev pub IsPrintableSaid : DecisionTable → Said → Type 0
IsPrintableSaid t (said.Within x) = IsPrintableInterval t x
IsPrintableSaid t (said.Wide x) = IsPrintableWide t x

pub record IsPrintableExtreme (t : DecisionTable) (x : Extreme) : Type 0 where
  pub alternative : x.alternative < length t.alternatives
  pub said : IsPrintableSaid t x.said

abbrev pub IsPrintableBody : DecisionTable → EntryBody → Type 0
IsPrintableBody t (bodies.Ranks xs) = IsSmall (length xs) × AllByRecursion (IsPrintableExtreme t) xs
IsPrintableBody t (bodies.Contradiction m) = AreNarrow m
IsPrintableBody t (bodies.BaseWide note) = IsSmallPlace note.place × IsSmallPath note.path

-- the entries that have a text: of a desk that a session may have, with alternatives of the table and numbers that a report may hold
pub record IsPrintableEntry (t : DecisionTable) (x : Entry) : Type 0 where
  pub named : is_desk_name x.desk ≡ true
  pub body : IsPrintableBody t x.body
