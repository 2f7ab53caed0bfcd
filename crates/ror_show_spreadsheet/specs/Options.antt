-- Which criteria the options name.
use Rattle.std.specs.Prelude.{ℕ, ◌+◌, ◌==◌, Bool, false, not, List, drop, position, Option, Some, None, Result, Ok, Err}
use Rattle.std.specs.Option.{option_map, option_map_or}
use Rattle.std.specs.List.{list_any, slice_split}
use Rattle.std.specs.Str.{bytes_eq}
use Rattle.ror_show_cells.specs.declared.fault.OptionName.{OptionName}
use Rattle.ror_show_cells.specs.declared.fault.SheetFault.{SheetFault}
use Rattle.ror_show_cells.specs.declared.fault.SheetKind.TheVariants.{UnknownName}
use Rattle.ror_show_spreadsheet.specs.declared.options.Options as declared
use Rattle.ror_show_cells.specs.Faults.{fault_at}
use Rattle.ror_show_cells.specs.Rows.{Cells}

-- their words
pub record Named : Type 0 where
  pub min : Option (List ℕ)
  pub max : Option (List ℕ)
  pub linear : Option (List ℕ)

abbrev pub options_with : declared.Options → Named
options_with options = record {
  min = option_map (λ word. word.now) options.min;
  max = option_map (λ word. word.now) options.max;
  linear = option_map (λ word. word.now) options.linear;
}

-- the names with commas between
abbrev pub names_in : List ℕ → List (List ℕ)
names_in word = slice_split (λ byte. byte == 44) word

abbrev pub has_name : List (List ℕ) → List ℕ → Bool
has_name names name = list_any (λ other. bytes_eq other name) names

abbrev pub names : Option (List ℕ) → List ℕ → Bool
names None name = false
names (Some word) name = has_name (names_in word) name

-- a cell behind the first of the first row
abbrev pub is_criterion : Cells → List ℕ → Bool
is_criterion head name = list_any (λ cell. bytes_eq cell name) (drop 1 head)

abbrev pub unknown_place : List (List ℕ) → Cells → Option ℕ
unknown_place names head = position (λ name. not (is_criterion head name)) names

-- each name of the option is that of a criterion
abbrev pub known_names : OptionName → Option (List ℕ) → Cells → Result (Unit {0}) SheetFault
known_names named None head = Ok tt
known_names named (Some word) head = option_map_or (λ place. Err (fault_at (UnknownName named) 0 (place + 1)))
    (unknown_place (names_in word) head) (Ok tt)
