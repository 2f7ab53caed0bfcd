-- The matrix of a relation, in parts of as many columns as fit.
use Rattle.std.specs.Prelude.{ℕ, ◌+◌, Bool, nat_lt, nat_le, List, [], ◌∷◌, ◌++◌, length, codes, decimal, if◌then◌else◌}
use Rattle.std.specs.List.{flat_map, range_with_len}
use Rattle.ror_table.specs.Table.{DecisionTable, id_of}
use Rattle.ror_show_find_relation.specs.declared.cell.Cell.{Cell}
use Rattle.ror_show_kit.specs.declared.part.Part.{Part}
use Rattle.ror_show_find_relation.specs.Cells.{sign}
use Rattle.ror_show_kit.specs.Layout.{spaces, set_left, set_right}
use Rattle.ror_show_kit.specs.Parts.{widest, part_at, is_in, number_text}
use Rattle.ror_show_find_relation.specs.Rows.{cell_in, over_count, under_count}

-- the part at a place: of a line 97 columns are for an id and cells, the rest for numbers, bars and sums
abbrev pub part_of : ℕ → ℕ → Part
part_of width place = part_at 97 width place

abbrev pub is_last : DecisionTable → Part → Bool
is_last t part = nat_le (length t.alternatives) part.end

-- what stands behind the numbers of the columns
abbrev pub numbers_end : DecisionTable → Part → List ℕ
numbers_end t part = if is_last t part then codes "  |  over  under\n" else codes "  |\n"

-- the numbers of the columns
abbrev pub numbers_text : DecisionTable → Part → List ℕ
numbers_text t part = spaces 7 ++ spaces part.width
    ++ flat_map (number_text part) (range_with_len 0 (length t.alternatives)) ++ numbers_end t part

abbrev pub cell_text : List (List Cell) → Part → ℕ → ℕ → List ℕ
cell_text rows part a b = if is_in part b then 32 ∷ 32 ∷ 32 ∷ sign (cell_in rows a b) ∷ [] else []

-- how many the row's is over, and how many are over it
abbrev pub sums_text : DecisionTable → List (List Cell) → ℕ → List ℕ
sums_text t rows a = set_right 6 (decimal (over_count rows (length t.alternatives) a))
    ++ set_right 7 (decimal (under_count rows (length t.alternatives) a))

-- a row's number and id
abbrev pub row_head : DecisionTable → Part → ℕ → List ℕ
row_head t part a = set_right 5 (decimal (a + 1)) ++ 32 ∷ 32 ∷ set_left part.width (id_of t a)

-- what stands behind its cells: in the last part the sums
abbrev pub row_end : DecisionTable → List (List Cell) → Part → ℕ → List ℕ
row_end t rows part a = codes "  |" ++ (if is_last t part then sums_text t rows a else []) ++ 10 ∷ []

abbrev pub row_text : DecisionTable → List (List Cell) → Part → ℕ → List ℕ
row_text t rows part a = row_head t part a ++ flat_map (cell_text rows part a) (range_with_len 0 (length t.alternatives))
    ++ row_end t rows part a

abbrev pub part_text : DecisionTable → List (List Cell) → Part → List ℕ
part_text t rows part = 10 ∷ numbers_text t part ++ flat_map (row_text t rows part) (range_with_len 0 (length t.alternatives))

-- the part at a place, where it has columns
abbrev pub part_text_at : DecisionTable → List (List Cell) → ℕ → ℕ → List ℕ
part_text_at t rows width place = if nat_lt (part_of width place).first (length t.alternatives)
    then part_text t rows (part_of width place) else []

abbrev pub matrix_text : DecisionTable → List (List Cell) → List ℕ
matrix_text t rows = flat_map (part_text_at t rows (widest t (length t.alternatives))) (range_with_len 0 (length t.alternatives))
