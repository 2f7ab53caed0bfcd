-- The matrix of a group, in parts of as many columns as fit.
use Rattle.std.specs.Prelude.{ℕ, ◌+◌, nat_lt, List, [], ◌∷◌, ◌++◌, length, codes, decimal, if◌then◌else◌}
use Rattle.std.specs.List.{flat_map, range_with_len}
use Rattle.ror_table.specs.Table.{DecisionTable, id_of}
use Rattle.ror_show_kit.specs.declared.part.Part.{Part}
use Rattle.ror_show_kit.specs.Layout.{spaces, set_left, set_right}
use Rattle.ror_show_kit.specs.Parts.{widest, part_at, is_in, number_text}
use Rattle.ror_show_find_group.specs.declared.cell.GroupCell.{GroupCell}
use Rattle.ror_show_find_group.specs.Cells.{sign, group_cell_in}

-- the part at a place: of a line 110 columns are for an id and cells, the rest for numbers
abbrev pub part_of : ℕ → ℕ → Part
part_of width place = part_at 110 width place

-- the numbers of the columns
abbrev pub numbers_text : DecisionTable → Part → List ℕ
numbers_text t part = spaces 7 ++ spaces part.width
    ++ flat_map (number_text part) (range_with_len 0 (length t.alternatives)) ++ codes "  |\n"

abbrev pub cell_text : List (List GroupCell) → Part → ℕ → ℕ → List ℕ
cell_text rows part a b = if is_in part b then 32 ∷ 32 ∷ 32 ∷ sign (group_cell_in rows a b) ∷ [] else []

-- a row's number and id
abbrev pub row_head : DecisionTable → Part → ℕ → List ℕ
row_head t part a = set_right 5 (decimal (a + 1)) ++ 32 ∷ 32 ∷ set_left part.width (id_of t a)

abbrev pub row_text : DecisionTable → List (List GroupCell) → Part → ℕ → List ℕ
row_text t rows part a = row_head t part a ++ flat_map (cell_text rows part a) (range_with_len 0 (length t.alternatives))
    ++ codes "  |\n"

abbrev pub part_text : DecisionTable → List (List GroupCell) → Part → List ℕ
part_text t rows part = 10 ∷ numbers_text t part ++ flat_map (row_text t rows part) (range_with_len 0 (length t.alternatives))

-- the part at a place, where it has columns
abbrev pub part_text_at : DecisionTable → List (List GroupCell) → ℕ → ℕ → List ℕ
part_text_at t rows width place = if nat_lt (part_of width place).first (length t.alternatives)
    then part_text t rows (part_of width place) else []

abbrev pub matrix_text : DecisionTable → List (List GroupCell) → List ℕ
matrix_text t rows = flat_map (part_text_at t rows (widest t (length t.alternatives))) (range_with_len 0 (length t.alternatives))
