-- Kept lines, by their places: their session's line, its desk, what stood there, and what came of them.
use Rattle.std.specs.Prelude.{ℕ, Bool, true, false, not, List, [], ◌∷◌, length, slice_get, Option, count_by, if◌then◌else◌}
use Rattle.std.specs.List.{flat_map, range_with_len}
use Rattle.std.specs.Option.{option_map_or}
use Rattle.ror_statement.specs.declared.statement.Numbered.{Numbered}
use Rattle.ror_statement.specs.Statements.{numbers_in}
use Rattle.ror_session.specs.declared.session.Line.{Line}
use Rattle.ror_session.specs.declared.session.Session.{Session}
use Rattle.ror_session.specs.Sound.{desk_name}
use Rattle.ror_proof.specs.declared.answer.Answer.{Answer}
use Rattle.ror_proof.specs.declared.kept.Dropped.{Dropped}
use Rattle.ror_check.specs.Proof.{is_wide}
use Rattle.ror_report.specs.Text.{answers_of}
use Rattle.ror_report.specs.declared.block.Body.{Body}
use Rattle.ror_report.specs.declared.block.Body.TheVariants as bodies
use Rattle.ror_bench.specs.declared.kept.KeptLine.{KeptLine}
use Rattle.ror_show_ground.specs.Heads.{Head}

-- ---- one line

-- the line of the session that was kept, the place of its desk among the session's desks, and the desk's name
abbrev pub line_of : Session → KeptLine → Option Line
line_of s x = slice_get s.lines x.place

abbrev pub desk_of : Session → KeptLine → ℕ
desk_of s x = option_map_or (λ line. line.desk) (line_of s x) 0

abbrev pub desk_at : Session → KeptLine → List ℕ
desk_at s x = option_map_or (λ line. desk_name s.desks line) (line_of s x) []

-- what stood there, and its numbers: none where that isn't kept
abbrev pub stood : KeptLine → List Numbered
stood x = option_map_or (λ list. list) x.standing []

abbrev pub stood_numbers : KeptLine → List ℕ
stood_numbers x = numbers_in (stood x)

-- what the line dropped, where it is a repair
abbrev pub dropped_of : Body → List Dropped
dropped_of (bodies.Repaired kept) = kept.dropped
dropped_of _ = []

abbrev pub is_answered : Body → Bool
is_answered (bodies.Answers xs) = true
is_answered _ = false

abbrev pub is_repaired : Body → Bool
is_repaired (bodies.Repaired kept) = true
is_repaired _ = false

-- of how many answers there is a proof
abbrev pub proved_among : List Answer → ℕ
proved_among xs = count_by (λ x. not (is_wide x.verdict)) xs

-- what stands at the head of a relation, in any form: line, desk, what stood, of how many answers there is a proof
abbrev pub head_of_line : Session → KeptLine → Head
head_of_line s x = record {
  line = x.block.line;
  desk = desk_at s x;
  numbers = stood_numbers x;
  proved = proved_among (answers_of x.block.body);
  answers = length (answers_of x.block.body);
}

-- ---- the places of lines

-- the kept line at a place, where there is one, passes a test
abbrev pub is_at : (KeptLine → Bool) → List KeptLine → ℕ → Bool
is_at test kept n = option_map_or test (slice_get kept n) false

-- the places of kept lines that do, in order
abbrev pub place_if : (KeptLine → Bool) → List KeptLine → ℕ → List ℕ
place_if test kept n = if is_at test kept n then n ∷ [] else []

abbrev pub places_where : (KeptLine → Bool) → List KeptLine → List ℕ
places_where test kept = flat_map (place_if test kept) (range_with_len 0 (length kept))

abbrev pub has_answers : KeptLine → Bool
has_answers x = is_answered x.block.body

abbrev pub answered_places : List KeptLine → List ℕ
answered_places kept = places_where has_answers kept
