-- The classes of alternatives as values: the signs and the interval of each line that asks for them, and the times.
use Rattle.std.specs.Prelude.{◌≡◌, ℕ, ◌+◌, Bool, List, [], ◌∷◌, length, map, slice_get, Some, if◌then◌else◌}
use Rattle.std.specs.List.{flat_map, range_with_len}
use Rattle.std.specs.Option.{option_map_or}
use Rattle.ror_proof.specs.declared.answer.Answer.{Answer}
use Rattle.ror_report.specs.Text.{answers_of}
use Rattle.ror_bench.specs.declared.kept.KeptLine.{KeptLine}
use Rattle.ror_show_find_classes.specs.declared.sign.Sign.{Sign}
use Rattle.ror_show_find_classes.specs.Signs.{alternative_of, sign_of_class, is_assigned}
use Rattle.ror_show_find_classes.specs.Rows.{in_order}
use Rattle.ror_show_find_classes.specs.Times.{rows, answers_at}
use Rattle.ror_show_find_classes.specs.Intervals.{last_line}
use Rattle.ror_show_find_classes.specs.Values.{interval_of}
use Rattle.ror_show_ground.specs.Grounds.{Ground}
use Rattle.ror_show_ground.specs.Lines.{desk_of}
use Rattle.ror_show_find_classes.specs.declared.findings.ClassLine.{ClassLine}
use Rattle.ror_show_find_classes.specs.declared.findings.TimeFound.{TimeFound}

-- ---- one line

-- the sign of each class, from the worst on
abbrev pub signs_of : ℕ → List Answer → List Sign
signs_of classes xs = map (λ h. sign_of_class xs (h + 1)) (range_with_len 0 classes)

-- of each class, whether a statement that stood assigns the alternative to it
abbrev pub is_assigned_to : KeptLine → ℕ → Bool
is_assigned_to x h = is_assigned x.standing (alternative_of (answers_of x.block.body)) h

abbrev pub assigned_of : ℕ → KeptLine → List Bool
assigned_of classes x = map (λ h. is_assigned_to x (h + 1)) (range_with_len 0 classes)

unfoldable pub class_line : ℕ → ℕ → KeptLine → ClassLine
class_line classes n x = record {
  place = n;
  row = interval_of classes x;
  signs = signs_of classes (answers_of x.block.body);
  assigned = assigned_of classes x;
}

abbrev pub one_line : Ground → ℕ → KeptLine → List ClassLine
one_line g n x = class_line g.table.classes n x ∷ []

-- each answered line that asks for classes, in the order of the lines: what is written as values
abbrev pub line_if_answered : Ground → ℕ → KeptLine → List ClassLine
line_if_answered g n x = if answers_at g.session g.kept (desk_of g.session x) n then one_line g n x else []

abbrev pub answered_line : Ground → ℕ → List ClassLine
answered_line g n = option_map_or (line_if_answered g n) (slice_get g.kept n) []

abbrev pub class_lines : Ground → List ClassLine
class_lines g = flat_map (answered_line g) (range_with_len 0 (length g.kept))

-- ---- one time

-- the kept lines at these places
abbrev pub class_line_at : Ground → ℕ → List ClassLine
class_line_at g n = option_map_or (one_line g n) (slice_get g.kept n) []

abbrev pub class_lines_at : Ground → List ℕ → List ClassLine
class_lines_at g ns = flat_map (class_line_at g) ns

-- the time of a desk whose lines stand at these places, the first of which is n; its lines are in the order of the table's alternatives
unfoldable pub time_of : Ground → ℕ → ℕ → List ℕ → TimeFound
time_of g n desk ns = record {
  place = n;
  desk = desk;
  last = last_line g.kept ns;
  rows = class_lines_at g (in_order g.table g.kept ns);
}

abbrev pub time_from : Ground → ℕ → ℕ → TimeFound
time_from g n desk = time_of g n desk (rows g.session g.kept n desk)

-- that which the kept line at a place begins
abbrev pub IsTimeFound : Ground → ℕ → TimeFound → Type 0
IsTimeFound g n f = (x : KeptLine) × (slice_get g.kept n ≡ Some x) × (f ≡ time_from g n (desk_of g.session x))
