-- Which kept lines follow one another: those of one desk that ask for the relation and are answered.
use Rattle.std.specs.Prelude.{ℕ, zero, suc, Bool, true, false, ◌&&◌, ◌==◌, List, [], ◌∷◌, length, Option, Some, None, slice_get, if◌then◌else◌}
use Rattle.std.specs.List.{flat_map, range_with_len}
use Rattle.std.specs.Option.{option_map_or}
use Rattle.ror_session.specs.declared.session.Asked.TheVariants as asked
use Rattle.ror_session.specs.declared.session.Command.{Command}
use Rattle.ror_session.specs.declared.session.Command.TheVariants.{Ask}
use Rattle.ror_session.specs.declared.session.Line.{Line}
use Rattle.ror_session.specs.declared.session.Session.{Session}
use Rattle.ror_report.specs.declared.block.Body.{Body}
use Rattle.ror_report.specs.declared.block.Body.TheVariants.{Answers}
use Rattle.ror_bench.specs.declared.kept.KeptLine.{KeptLine}
use Rattle.ror_show_ground.specs.Lines as lines
use Rattle.ror_show_ground.specs.Lines.{line_of}

abbrev pub asks_for_relation : Command → Bool
asks_for_relation (Ask asked.Relation) = true
asks_for_relation _ = false

-- the line is at this desk, and asks for the relation
abbrev pub asks_at : ℕ → Option Line → Bool
asks_at desk (Some line) = line.desk == desk && asks_for_relation line.command
asks_at desk None = false

abbrev pub is_answered : Body → Bool
is_answered (Answers xs) = true
is_answered _ = false

-- and it is answered
abbrev pub is_answered_at : Session → ℕ → KeptLine → Bool
is_answered_at s desk x = asks_at desk (line_of s x) && is_answered x.block.body

-- the kept line at a place, where there is one, is so
abbrev pub counts_at : Session → List KeptLine → ℕ → ℕ → Bool
counts_at s kept desk n = option_map_or (is_answered_at s desk) (slice_get kept n) false

-- the last of the first n numbers that passes a test
abbrev pub last_below : (ℕ → Bool) → ℕ → Option ℕ
last_below p zero = None
last_below p (suc n) = if p n then Some n else last_below p n

-- the place of the one before and its own, where there is one before
abbrev pub pair_with : ℕ → Option ℕ → List (ℕ × ℕ)
pair_with n (Some before) = (before, n) ∷ []
pair_with n None = []

-- the place of the desk of a kept line among the session's desks
abbrev pub desk_of : Session → List KeptLine → ℕ → ℕ
desk_of s kept n = option_map_or (lines.desk_of s) (slice_get kept n) 0

-- those of a line at a place that is at this desk
abbrev pub turn_at : Session → List KeptLine → ℕ → ℕ → List (ℕ × ℕ)
turn_at s kept n desk = if counts_at s kept desk n then pair_with n (last_below (counts_at s kept desk) n) else []

abbrev pub turn_of : Session → List KeptLine → ℕ → List (ℕ × ℕ)
turn_of s kept n = turn_at s kept n (desk_of s kept n)

-- each answered line that has one before it at its desk, with the last one before it, by their places among the kept lines
abbrev pub turns : Session → List KeptLine → List (ℕ × ℕ)
turns s kept = flat_map (turn_of s kept) (range_with_len 0 (length kept))
