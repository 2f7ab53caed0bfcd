-- The columns of a table, in parts of as many as fit beside the longest id.
use Rattle.std.specs.Prelude.{ℕ, zero, suc, ◌+◌, ◌-◌, ◌*◌, ◌/◌, Bool, ◌&&◌, nat_lt, nat_le, List, [], decimal, if◌then◌else◌}
use Rattle.ror_table.specs.Table.{DecisionTable, id_of}
use Rattle.ror_show_kit.specs.declared.part.Part.{Part}
use Rattle.ror_show_kit.specs.Layout.{columns, set_right}

-- the columns of text of the longest id of the first n alternatives
abbrev pub widest : DecisionTable → ℕ → ℕ
widest t zero = 0
widest t (suc n) = if nat_lt (widest t n) (columns (id_of t n)) then columns (id_of t n) else widest t n

-- how many cells of four columns fit behind an id of so many columns, where a line has this room for both
abbrev pub fitting : ℕ → ℕ → ℕ
fitting room width = (room - width) / 4

-- how many a part has: one at least, and 25 at most
abbrev pub part_size : ℕ → ℕ → ℕ
part_size room width = if nat_lt (fitting room width) 1 then 1
    else (if nat_lt 25 (fitting room width) then 25 else fitting room width)

-- the part at a place, of columns that are numbered from 0 here
abbrev pub part_at : ℕ → ℕ → ℕ → Part
part_at room width place = record {
  width = width;
  first = place * part_size room width;
  end = (place + 1) * part_size room width;
}

-- the column is in the part
abbrev pub is_in : Part → ℕ → Bool
is_in part b = nat_le part.first b && nat_lt b part.end

-- its number, from 1, where it is
abbrev pub number_text : Part → ℕ → List ℕ
number_text part b = if is_in part b then set_right 4 (decimal (b + 1)) else []
