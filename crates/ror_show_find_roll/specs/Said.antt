-- Which line said each statement that stands at a desk after lines that were kept.
use Rattle.std.specs.Prelude.{ℕ, List, length, map, take, Option, None, option_map, slice_get}
use Rattle.ror_session.specs.declared.session.Line.{Line}
use Rattle.ror_bench.specs.declared.kept.KeptLine.{KeptLine}
use Rattle.ror_show_ground.specs.Grounds.{Ground}
use Rattle.ror_show_ground.specs.Lines.{desk_of}
use Rattle.ror_show_find_roll.specs.declared.roll.Entry.{Entry}
use Rattle.ror_show_find_roll.specs.declared.roll.Source.{Source}
use Rattle.ror_show_find_roll.specs.declared.roll.Source.TheVariants as sources
use Rattle.ror_show_find_roll.specs.Roll.{roll_of}
use Rattle.ror_show_find_roll.specs.Steps.{kept_turns}

-- the number of the line at a place
abbrev pub number_at : List Line → ℕ → Option ℕ
number_at lines place = option_map (λ line. line.number) (slice_get lines place)

-- None of what came with the table's file
abbrev pub said_by : List Line → Source → Option ℕ
said_by lines sources.File = None
said_by lines (sources.Line place) = number_at lines place

abbrev pub lines_of : List Line → List Entry → List (Option ℕ)
lines_of lines entries = map (λ e. said_by lines e.said) entries

-- of the statements that stand at a desk after these lines, at which so many stood at first
abbrev pub said_lines : List Line → ℕ → ℕ → List KeptLine → List (Option ℕ)
said_lines lines opening desk before = lines_of lines (roll_of opening (kept_turns lines desk before)).entries

-- of those that stood at the desk of this line after so many of the kept ones
abbrev pub said_at : Ground → KeptLine → ℕ → List (Option ℕ)
said_at g x n = said_lines g.session.lines (length g.opening) (desk_of g.session x) (take n g.kept)
