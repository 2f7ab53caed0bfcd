-- The times as values: between which classes each alternative is.
use Rattle.std.specs.Prelude.{ℕ, List, [], ◌∷◌, slice_get}
use Rattle.std.specs.List.{flat_map}
use Rattle.std.specs.Option.{option_map_or}
use Rattle.ror_table.specs.Table.{DecisionTable}
use Rattle.ror_session.specs.declared.session.Session.{Session}
use Rattle.ror_report.specs.Text.{answers_of}
use Rattle.ror_bench.specs.declared.kept.KeptLine.{KeptLine}
use Rattle.ror_show_find_classes.specs.declared.value.ClassRow.{ClassRow}
use Rattle.ror_show_find_classes.specs.declared.value.ClassTime.{ClassTime}
use Rattle.ror_show_ground.specs.Lines.{desk_of}
use Rattle.ror_show_find_classes.specs.Times.{times, rows}
use Rattle.ror_show_find_classes.specs.Rows.{in_order}
use Rattle.ror_show_find_classes.specs.Signs.{alternative_of}
use Rattle.ror_show_find_classes.specs.Intervals.{lowest, highest, is_settled, is_whole, is_contradictory, last_line}

-- the alternative that a line asks for, the least and the greatest class that its answers don't exclude, and what is concluded of all classes
unfoldable pub interval_of : ℕ → KeptLine → ClassRow
interval_of classes x = record {
  alternative = alternative_of (answers_of x.block.body);
  lowest = lowest (answers_of x.block.body) classes;
  highest = highest (answers_of x.block.body) classes;
  settled = is_settled classes (answers_of x.block.body);
  whole = is_whole (answers_of x.block.body) classes;
  contradictory = is_contradictory (answers_of x.block.body) classes;
}

abbrev pub interval_of_line : ℕ → KeptLine → List ClassRow
interval_of_line classes x = interval_of classes x ∷ []

abbrev pub interval_at : ℕ → List KeptLine → ℕ → List ClassRow
interval_at classes kept n = option_map_or (interval_of_line classes) (slice_get kept n) []

abbrev pub intervals_at : ℕ → List KeptLine → List ℕ → List ClassRow
intervals_at classes kept ns = flat_map (interval_at classes kept) ns

-- the time of a desk whose lines stand at these places, the first of which is n
abbrev pub time_of : DecisionTable → List KeptLine → ℕ → ℕ → List ℕ → ClassTime
time_of t kept n desk ns = record {
  place = n;
  desk = desk;
  last = last_line kept ns;
  intervals = intervals_at t.classes kept (in_order t kept ns);
}

-- that which the kept line at a place begins
unfoldable pub time_from : DecisionTable → Session → List KeptLine → ℕ → ℕ → ClassTime
time_from t s kept n desk = time_of t kept n desk (rows s kept n desk)

abbrev pub time_of_line : DecisionTable → Session → List KeptLine → ℕ → KeptLine → List ClassTime
time_of_line t s kept n x = time_from t s kept n (desk_of s x) ∷ []

abbrev pub time_at : DecisionTable → Session → List KeptLine → ℕ → List ClassTime
time_at t s kept n = option_map_or (time_of_line t s kept n) (slice_get kept n) []

abbrev pub times_at : DecisionTable → Session → List KeptLine → List ℕ → List ClassTime
times_at t s kept ns = flat_map (time_at t s kept) ns

-- all of them, in order
abbrev pub class_times : DecisionTable → Session → List KeptLine → List ClassTime
class_times t s kept = times_at t s kept (times s kept)
