-- The classes at the times that they were asked for, each with the statements that settle the bounds, as plain text: a function of what is
-- found.
use Rattle.std.specs.Prelude.{ℕ, ◌==◌, List, [], ◌∷◌, ◌++◌, codes, length, Option, Some, None, slice_get, if◌then◌else◌}
use Rattle.std.specs.List.{flat_map, range_with_len}
use Rattle.std.specs.Option.{option_map_or}
use Rattle.ror_table.specs.Table.{DecisionTable}
use Rattle.ror_show_ground.specs.Grounds.{Ground}
use Rattle.ror_show_find_classes.specs.declared.findings.ClassLine.{ClassLine}
use Rattle.ror_show_find_reasons.specs.declared.bounds.Side.{Side}
use Rattle.ror_show_find_reasons.specs.declared.bounds.Side.TheVariants.{Below, Above}
use Rattle.ror_show_find_reasons.specs.declared.bounds.Bound.{Bound}
use Rattle.ror_show_find_reasons.specs.declared.bounds.Bounds.{Bounds}
use Rattle.ror_show_find_reasons.specs.declared.bounds.ClassesFound.{ClassesFound}
use Rattle.ror_show_find_reasons.specs.Carrying.{numbers_of}
use Rattle.ror_show_text_classes.specs.Text.{time_text}
use Rattle.ror_show_text_classes.specs.BoundText.{bound_line}

-- ---- the bounds of a time

abbrev pub bound_text : DecisionTable → ℕ → Side → Option Bound → List ℕ
bound_text t a side None = []
bound_text t a side (Some f) = bound_line t a side f.class (numbers_of f.reason)

-- both of a row
abbrev pub row_bounds : DecisionTable → ClassLine → Bounds → List ℕ
row_bounds t row f = bound_text t row.row.alternative Below f.below ++ bound_text t row.row.alternative Above f.above

-- those of the row at a place
abbrev pub bounds_of : DecisionTable → List Bounds → ℕ → ClassLine → List ℕ
bounds_of t bounds k row = option_map_or (row_bounds t row) (slice_get bounds k) []

abbrev pub bounds_at : DecisionTable → List ClassLine → List Bounds → ℕ → List ℕ
bounds_at t rows bounds k = option_map_or (bounds_of t bounds k) (slice_get rows k) []

abbrev pub bounds_lines : DecisionTable → List ClassLine → List Bounds → List ℕ
bounds_lines t rows bounds = flat_map (bounds_at t rows bounds) (range_with_len 0 (length rows))

abbrev pub bounds_head : List ℕ
bounds_head = codes "\n  statements that settle each bound (of these alone none can be spared; others may settle it too)\n"

-- nothing where there are no lines
abbrev pub headed : List ℕ → List ℕ
headed [] = []
headed lines = bounds_head ++ lines

-- ---- the page

-- behind an empty line, where it isn't the first
abbrev pub gap : ℕ → List ℕ
gap k = if k == 0 then [] else 10 ∷ []

abbrev pub classes_of : Ground → ℕ → ClassesFound → List ℕ
classes_of g k f = gap k ++ time_text g f.time ++ headed (bounds_lines g.table f.time.rows f.bounds)

abbrev pub classes_part : Ground → List ClassesFound → ℕ → List ℕ
classes_part g fs k = option_map_or (classes_of g k) (slice_get fs k) []

abbrev pub classes_text : Ground → List ClassesFound → List ℕ
classes_text g fs = flat_map (classes_part g fs) (range_with_len 0 (length fs))
