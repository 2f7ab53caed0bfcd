-- The fault of an entry: that of its first faulty word, in its first faulty line.
use Rattle.std.specs.Prelude.{◌≡◌, ◌⊎◌, ℕ, zero, suc, List, [], ◌∷◌, map, drop, codes, Option, Some, None, Ok}
use Rattle.ror_text.specs.Cursor.{Cursor}
use Rattle.ror_text.specs.Lines.{word_at}
use Rattle.ror_table.specs.Table.{DecisionTable}
use Rattle.ror_proof.specs.declared.read.ProofFault.{ProofFault}
use Rattle.ror_proof.specs.declared.read.ProofFault.TheVariants.{BadLine}
use Rattle.ror_proof.specs.Names.{name_of}
use Rattle.ror_proof.specs.Expected.{Expected, IsLine, IsFaultOfLine, expected_note}
use Rattle.ror_proof.specs.Expected.Expected.{the_word, one_of, an_id, a_small_number, the_end}
use Rattle.ror_discriminate.specs.Head.{IsDeskLine}
use Rattle.ror_discriminate.specs.EntryFaults.{expected_refutation, expected_solution}
use Rattle.ror_ranks_text.specs.declared.names.BodyForm.{BodyForm}
use Rattle.ror_ranks_text.specs.declared.names.BodyForm.TheVariants as forms
use Rattle.ror_ranks_text.specs.declared.names.SaidForm.{SaidForm}
use Rattle.ror_ranks_text.specs.declared.names.SaidForm.TheVariants as said_forms
use Rattle.ror_ranks_text.specs.declared.names.NodeName.{NodeName}
use Rattle.ror_ranks_text.specs.declared.names.NodeName.TheVariants as named
use Rattle.ror_ranks_text.specs.declared.read.Head.{Head}
use Rattle.ror_ranks_text.specs.declared.read.Opening.{Opening}
use Rattle.ror_ranks_text.specs.declared.read.Opening.TheVariants as openings
use Rattle.ror_ranks.specs.SideNames.{side_word, side_list}
use Rattle.ror_ranks_text.specs.EntryNames as names
use Rattle.ror_ranks_text.specs.Reading.{extreme_line, ranks_line}

-- ---- what is expected in a line

-- the same for each word, and then the end
abbrev pub each_and_end : Expected → List (List ℕ) → List Expected
each_and_end expected [] = the_end ∷ []
each_and_end expected (word ∷ words) = expected ∷ each_and_end expected words

-- this word and ids
abbrev pub expected_ids : List ℕ → List (List ℕ) → List Expected
expected_ids word words = the_word word ∷ each_and_end an_id (drop 1 words)

-- `multipliers` and numbers
abbrev pub expected_multipliers_line : List (List ℕ) → List Expected
expected_multipliers_line words = expected_refutation words

-- `F to T conflicts C nodes N`, or a note
abbrev pub expected_opening : Option SaidForm → List (List ℕ) → List Expected
expected_opening (Some said_forms.From) words =
    a_small_number
    ∷ the_word (codes "to")
    ∷ a_small_number
    ∷ the_word (codes "conflicts")
    ∷ a_small_number
    ∷ the_word (codes "nodes")
    ∷ a_small_number
    ∷ the_end
    ∷ []
expected_opening (Some said_forms.Wide) words = expected_note words
expected_opening None words = []

-- `best A from ..`, `worst A from ..`, or the same with `wide ..`
abbrev pub expected_extreme : List (List ℕ) → List Expected
expected_extreme words =
    one_of (map side_word side_list)
    ∷ an_id
    ∷ one_of (map names.said_word names.said_forms)
    ∷ expected_opening (name_of names.said_word names.said_forms (word_at words 2)) (drop 3 words)

-- `leaf J ..`, or `branch J`
abbrev pub expected_of_node : Option NodeName → List (List ℕ) → List Expected
expected_of_node (Some named.Leaf) words = each_and_end a_small_number words
expected_of_node (Some named.Branch) words = a_small_number ∷ the_end ∷ []
expected_of_node None words = []

abbrev pub expected_node : List (List ℕ) → List Expected
expected_node [] = one_of (map names.node_word names.node_names) ∷ []
expected_node (word ∷ words) =
    one_of (map names.node_word names.node_names)
    ∷ expected_of_node (name_of names.node_word names.node_names word) words

-- what a body of this form has behind its first word
abbrev pub expected_of : Option BodyForm → List (List ℕ) → List Expected
expected_of (Some forms.Ranks) words = a_small_number ∷ the_end ∷ []
expected_of (Some forms.Contradiction) words = expected_refutation words
expected_of (Some forms.Wide) words = the_word (codes "base") ∷ expected_note (drop 1 words)
expected_of None words = []

-- `ranks N`, `contradiction multipliers ..`, or `wide base PLACE path PIVOT ..`
abbrev pub expected_body : List (List ℕ) → List Expected
expected_body [] = one_of (map names.form_word names.body_forms) ∷ []
expected_body (word ∷ words) =
    one_of (map names.form_word names.body_forms)
    ∷ expected_of (name_of names.form_word names.body_forms word) words

-- ---- lines that follow one another

-- so many things of which each begins where the one before ends, by a relation of a beginning and an end
abbrev pub AreSoMany : (Cursor → Cursor → Type 0) → ℕ → Cursor → Cursor → Type 0
AreSoMany Is zero c after = c ≡ after
AreSoMany Is (suc count) c after = (next : Cursor) × Is c next × AreSoMany Is count next after

-- the fault of the first of so many that is at fault
abbrev pub IsFaultOfSome : (Cursor → Cursor → Type 0) → (Cursor → ProofFault → Type 0) → ℕ → Cursor → ProofFault → Type 0
IsFaultOfSome Is Fails zero c fault = ⊥
IsFaultOfSome Is Fails (suc count) c fault =
    Fails c fault ⊎ ((next : Cursor) × Is c next × IsFaultOfSome Is Fails count next fault)

-- two lines, the one behind the other
abbrev pub AreTwoLines : DecisionTable → (List (List ℕ) → List Expected) → (List (List ℕ) → List Expected) → Cursor → Cursor → Type 0
AreTwoLines t first second c after = (next : Cursor) × IsLine t first c next × IsLine t second next after

abbrev pub IsFaultOfTwoLines : DecisionTable → (List (List ℕ) → List Expected) → (List (List ℕ) → List Expected) → Cursor → ProofFault → Type 0
IsFaultOfTwoLines t first second c fault =
    IsFaultOfLine t first c fault
    ⊎ ((next : Cursor) × IsLine t first c next × IsFaultOfLine t second next fault)

-- a conflict: the line of its members, and that of its multipliers
abbrev pub IsConflictText : DecisionTable → Cursor → Cursor → Type 0
IsConflictText t = AreTwoLines t (expected_ids (codes "conflict")) expected_multipliers_line

abbrev pub IsFaultOfConflict : DecisionTable → Cursor → ProofFault → Type 0
IsFaultOfConflict t = IsFaultOfTwoLines t (expected_ids (codes "conflict")) expected_multipliers_line

-- what an interval begins with behind its first line: the exceptions and the function
abbrev pub IsReachedText : DecisionTable → Cursor → Cursor → Type 0
IsReachedText t = AreTwoLines t (expected_ids (codes "except")) expected_solution

abbrev pub IsFaultOfReached : DecisionTable → Cursor → ProofFault → Type 0
IsFaultOfReached t = IsFaultOfTwoLines t (expected_ids (codes "except")) expected_solution

-- ---- extreme ranks

-- what follows the first line of an extreme rank that opens so
abbrev pub IsSaidText : DecisionTable → Opening → Cursor → Cursor → Type 0
IsSaidText t (openings.Within ends) c after = (conflicts nodes : Cursor) × IsReachedText t c conflicts
    × AreSoMany (IsConflictText t) ends.conflicts conflicts nodes
    × AreSoMany (IsLine t expected_node) ends.nodes nodes after
IsSaidText t (openings.Wide note) c after = IsLine t (expected_ids (codes "over")) c after

-- an extreme rank: its first line is read so, and what it opens follows
abbrev pub IsExtremeText : DecisionTable → Cursor → Cursor → Type 0
IsExtremeText t c after = (head : Head) × (next : Cursor) × (extreme_line t c ≡ Ok (head, next))
    × IsSaidText t head.opening next after

abbrev pub IsFaultOfSaid : DecisionTable → Opening → Cursor → ProofFault → Type 0
IsFaultOfSaid t (openings.Within ends) c fault =
    IsFaultOfReached t c fault
    ⊎ ((conflicts : Cursor) × IsReachedText t c conflicts
    × IsFaultOfSome (IsConflictText t) (IsFaultOfConflict t) ends.conflicts conflicts fault)
    ⊎ ((conflicts nodes : Cursor) × IsReachedText t c conflicts
    × AreSoMany (IsConflictText t) ends.conflicts conflicts nodes
    × IsFaultOfSome (IsLine t expected_node) (IsFaultOfLine t expected_node) ends.nodes nodes fault)
IsFaultOfSaid t (openings.Wide note) c fault = IsFaultOfLine t (expected_ids (codes "over")) c fault

-- of its first line, or of what that opens
abbrev pub IsFaultOfExtreme : DecisionTable → Cursor → ProofFault → Type 0
IsFaultOfExtreme t c fault =
    IsFaultOfLine t expected_extreme c fault
    ⊎ ((head : Head) × (next : Cursor) × (extreme_line t c ≡ Ok (head, next))
    × IsFaultOfSaid t head.opening next fault)

-- ---- entries

-- The fault of the entry that begins here: of the line of the desk, whose one fault is that it is no such line; of the first line of
-- the body; or of the first extreme rank at fault, of as many as that line says.
pub data IsFaultOfEntry (t : DecisionTable) (c : Cursor) (fault : ProofFault) : Type 0 where
  in_desk : ((name : List ℕ) (after : Cursor) → IsDeskLine c name after → ⊥) → fault ≡ BadLine c.place
      → IsFaultOfEntry t c fault
  in_body : (name : List ℕ) (body : Cursor) → IsDeskLine c name body → IsFaultOfLine t expected_body body fault
      → IsFaultOfEntry t c fault
  in_ranks : (name : List ℕ) (body first : Cursor) (count : ℕ) → IsDeskLine c name body
      → ranks_line body ≡ Ok (count, first)
      → IsFaultOfSome (IsExtremeText t) (IsFaultOfExtreme t) count first fault
      → IsFaultOfEntry t c fault
