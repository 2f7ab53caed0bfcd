-- At which times classes were asked for: runs of answered lines of one desk between which nothing changed what stands there.
use Rattle.std.specs.Prelude.{ℕ, zero, suc, ◌-◌, Bool, true, false, not, ◌&&◌, ◌==◌, List, [], ◌∷◌, length, Option, Some, None, slice_get, if◌then◌else◌}
use Rattle.std.specs.List.{flat_map, range_with_len}
use Rattle.std.specs.Option.{option_map_or}
use Rattle.ror_session.specs.declared.session.Asked.TheVariants as asked
use Rattle.ror_session.specs.declared.session.Command.{Command}
use Rattle.ror_session.specs.declared.session.Command.TheVariants.{Ask}
use Rattle.ror_session.specs.declared.session.Line.{Line}
use Rattle.ror_session.specs.declared.session.Session.{Session}
use Rattle.ror_report.specs.declared.block.Body.{Body}
use Rattle.ror_report.specs.declared.block.Body.TheVariants.{Added, Withdrawn, Replaced, Undone, Repaired}
use Rattle.ror_bench.specs.declared.kept.Keep.{Keep}
use Rattle.ror_bench.specs.declared.kept.Keep.TheVariants.{Nothing, Block, Standing}
use Rattle.ror_bench.specs.declared.kept.KeptLine.{KeptLine}
use Rattle.ror_show_ground.specs.Lines.{line_of, desk_of, is_answered}

-- What a check has to keep of a line of a desk: of one that asks for classes its answers with what stood, and of one that asks
-- nothing what came of it.
abbrev pub keep_for : Command → Keep
keep_for (Ask (asked.Classes name)) = Standing
keep_for (Ask asks) = Nothing
keep_for _ = Block

abbrev pub asks_for_classes : Command → Bool
asks_for_classes (Ask (asked.Classes name)) = true
asks_for_classes _ = false

-- the line is at this desk
abbrev pub is_at : ℕ → Option Line → Bool
is_at desk (Some line) = line.desk == desk
is_at desk None = false

-- and asks for the classes of an alternative
abbrev pub asks_at : ℕ → Option Line → Bool
asks_at desk (Some line) = line.desk == desk && asks_for_classes line.command
asks_at desk None = false

-- what stands at the desk is changed
abbrev pub is_revision : Body → Bool
is_revision (Added n) = true
is_revision (Withdrawn n) = true
is_revision (Replaced n) = true
is_revision Undone = true
is_revision (Repaired kept) = true
is_revision _ = false

abbrev pub is_answered_at : Session → ℕ → KeptLine → Bool
is_answered_at s desk x = asks_at desk (line_of s x) && is_answered x.block.body

abbrev pub is_revision_at : Session → ℕ → KeptLine → Bool
is_revision_at s desk x = is_at desk (line_of s x) && is_revision x.block.body

-- the kept line at a place asks for classes at this desk and is answered, or changes what stands there
abbrev pub answers_at : Session → List KeptLine → ℕ → ℕ → Bool
answers_at s kept desk n = option_map_or (is_answered_at s desk) (slice_get kept n) false

abbrev pub revises_at : Session → List KeptLine → ℕ → ℕ → Bool
revises_at s kept desk n = option_map_or (is_revision_at s desk) (slice_get kept n) false

-- one of the first n numbers is of the first kind, and none behind it is of the second
abbrev pub goes_on : (ℕ → Bool) → (ℕ → Bool) → ℕ → Bool
goes_on asks revises zero = false
goes_on asks revises (suc n) = if revises n then false else (if asks n then true else goes_on asks revises n)

-- the line at a place begins a time: it is answered, and since the last change nothing was at its desk
abbrev pub begins_at : Session → List KeptLine → ℕ → ℕ → Bool
begins_at s kept n desk = answers_at s kept desk n && not (goes_on (answers_at s kept desk) (revises_at s kept desk) n)

abbrev pub begins : Session → List KeptLine → ℕ → Bool
begins s kept n = option_map_or (λ x. begins_at s kept n (desk_of s x)) (slice_get kept n) false

abbrev pub if_begins : Session → List KeptLine → ℕ → List ℕ
if_begins s kept n = if begins s kept n then n ∷ [] else []

-- the places of the lines that begin a time, in order
abbrev pub times : Session → List KeptLine → List ℕ
times s kept = flat_map (if_begins s kept) (range_with_len 0 (length kept))

abbrev pub if_asked : (ℕ → Bool) → ℕ → List ℕ
if_asked asks n = if asks n then n ∷ [] else []

-- of these numbers those of the first kind, as far as the first one of the second
abbrev pub run : (ℕ → Bool) → (ℕ → Bool) → List ℕ → List ℕ
run asks revises [] = []
run asks revises (n ∷ ns) = if revises n then [] else (if asks n then n ∷ run asks revises ns else run asks revises ns)

-- the places of the answered lines of a desk from a place on, before the next change there
abbrev pub rows : Session → List KeptLine → ℕ → ℕ → List ℕ
rows s kept n desk = run (answers_at s kept desk) (revises_at s kept desk) (range_with_len n (length kept - n))
