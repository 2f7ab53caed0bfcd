-- The room that the lines of a session may take at their desks.
use Rattle.std.specs.Prelude.{ℕ, ◌<◌, ◌≤◌, ◌==◌, ◌&&◌, Bool, true, false, List}
use Rattle.std.specs.List.{count_by}
use Rattle.ror_session.specs.declared.session.Line.{Line}
use Rattle.ror_session.specs.declared.session.Command.{Command}
use Rattle.ror_session.specs.declared.session.Command.TheVariants.{Ask}
use Rattle.ror_bench.specs.Bench.{Workbench, spare_at}

-- the line may revise its desk
abbrev pub may_revise : Command → Bool
may_revise (Ask asked) = false
may_revise _ = true

-- how many of the lines may revise a desk
abbrev pub revisions_of : List Line → ℕ → ℕ
revisions_of lines desk = count_by (λ line. (line.desk == desk) && may_revise line.command) lines

-- each desk before this one has room for all of its lines that may revise it
abbrev pub HasRoomBelow : ℕ → List Line → Workbench → Type 0
HasRoomBelow desks lines bench = (desk : ℕ) → desk < desks
    → revisions_of lines desk ≤ spare_at bench desk
