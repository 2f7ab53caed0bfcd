-- The lines of a desk among those of a session that a check kept, and among those with their blocks.
use Rattle.std.specs.Prelude.{ℕ, Bool, false, suc, ◌==◌, List, [], ◌∷◌, ◌++◌, Option, Some, None, slice_get, if◌then◌else◌}
use Rattle.std.specs.List.{flat_map}
use Rattle.ror_session.specs.declared.session.Line.{Line}
use Rattle.ror_report.specs.declared.block.Block.{Block}
use Rattle.ror_report.specs.declared.block.Body.{Body}
use Rattle.ror_bench.specs.declared.kept.KeptLine.{KeptLine}
use Rattle.ror_show_find_roll.specs.Turns.{Turn}

-- the line is the desk's
abbrev pub is_own : ℕ → Option Line → Bool
is_own desk None = false
is_own desk (Some line) = line.desk == desk

-- the turn of a line, where it is one of the desk's
abbrev pub turn_at : ℕ → ℕ → Body → Option Line → List Turn
turn_at desk place body line = if is_own desk line then record { place = place; body = body } ∷ [] else []

abbrev pub kept_turn : List Line → ℕ → KeptLine → List Turn
kept_turn lines desk x = turn_at desk x.place x.block.body (slice_get lines x.place)

-- those of the desk among the lines that were kept, in order
abbrev pub kept_turns : List Line → ℕ → List KeptLine → List Turn
kept_turns lines desk kept = flat_map (kept_turn lines desk) kept

-- those of the desk among lines with their blocks, of which the first has this place
abbrev pub turns_from : ℕ → ℕ → List Line → List Block → List Turn
turns_from desk place (line ∷ lines) (block ∷ blocks) =
    turn_at desk place block.body (Some line) ++ turns_from desk (suc place) lines blocks
turns_from desk place _ _ = []
