-- The rows of a time in the order of the table's alternatives.
use Rattle.std.specs.Prelude.{ℕ, ◌==◌, Bool, false, List, [], ◌∷◌, length, slice_get, if◌then◌else◌}
use Rattle.std.specs.List.{flat_map, range_with_len}
use Rattle.std.specs.Option.{option_map_or}
use Rattle.ror_table.specs.Table.{DecisionTable}
use Rattle.ror_report.specs.Text.{answers_of}
use Rattle.ror_bench.specs.declared.kept.KeptLine.{KeptLine}
use Rattle.ror_show_find_classes.specs.Signs.{alternative_of}

-- the line at a place asks for this alternative
abbrev pub is_of : List KeptLine → ℕ → ℕ → Bool
is_of kept a n = option_map_or (λ x. alternative_of (answers_of x.block.body) == a) (slice_get kept n) false

abbrev pub if_of : List KeptLine → ℕ → ℕ → List ℕ
if_of kept a n = if is_of kept a n then n ∷ [] else []

-- those of these places whose lines do
abbrev pub places_of : List KeptLine → List ℕ → ℕ → List ℕ
places_of kept ns a = flat_map (if_of kept a) ns

-- these places by the alternatives of the table in their order
abbrev pub in_order : DecisionTable → List KeptLine → List ℕ → List ℕ
in_order t kept ns = flat_map (places_of kept ns) (range_with_len 0 (length t.alternatives))
