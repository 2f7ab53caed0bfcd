-- Laws of rolls.
use Rattle.std.specs.Prelude.{◌≡◌, ◌≢◌, ◌↔◌, ℕ, ◌<◌, List, [], length, map, take, Contains, Option, Some, None, slice_get}
use Rattle.ror_table.specs.Table.{DecisionTable}
use Rattle.ror_statement.specs.declared.statement.Numbered.{Numbered}
use Rattle.ror_statement.specs.declared.statement.Statement.{Statement}
use Rattle.ror_session.specs.declared.session.Line.{Line}
use Rattle.ror_report.specs.declared.block.Block.{Block}
use Rattle.ror_report.specs.declared.block.Body.TheVariants.{Answers}
use Rattle.ror_proof.specs.declared.answer.Answer.{Answer}
use Rattle.ror_history.specs.History.{standing}
use Rattle.ror_bench.specs.Bench.{Workbench, revisions_at}
use Rattle.ror_bench.specs.Blocks.{IsProvedBlock, stated}
use Rattle.ror_bench.specs.Desks.{with_blocks}
use Rattle.ror_bench.specs.Kept.{keep_at, kept_from}
use Rattle.ror_bench.specs.Reports.{EachHolds, revisions_then}
use Rattle.ror_bench.specs.declared.kept.Keep.{Keep}
use Rattle.ror_bench.specs.declared.kept.Keep.TheVariants.{Nothing}
use Rattle.ror_show_find_roll.specs.Roll.{roll_of}
use Rattle.ror_show_find_roll.specs.Shown.{shown}
use Rattle.ror_show_find_roll.specs.Steps.{kept_turns, turns_from}

abbrev pub stated_by : DecisionTable → Option Line → Option Statement
stated_by t None = None
stated_by t (Some line) = stated t line.command

-- the statement that the line at a place states, by itself or in another's place
abbrev pub stated_at : DecisionTable → List Line → ℕ → Option Statement
stated_at t lines place = stated_by t (slice_get lines place)

-- Where nothing was said at a desk before these lines, and their blocks are proved, the roll of the desk shows what stands there
-- after them, each statement with its number and as it was stated last: nothing else, and all of it.
abbrev pub ShowsWhatStands : Type 0
ShowsWhatStands = (bench : Workbench) (desk : ℕ) (lines : List Line) (blocks : List Block)
    → (revisions_at bench desk).surviving ≡ []
    → EachHolds (IsProvedBlock bench.table) bench [] lines blocks
    → map (shown (stated_at bench.table lines) (revisions_at bench desk).opening)
    (roll_of (length (revisions_at bench desk).opening) (turns_from desk 0 lines blocks)).entries
    ≡ map Some (standing (revisions_then bench (with_blocks lines blocks) desk))

-- where something of each line was kept, the desk's lines among those that were kept are all of its lines, with their blocks
abbrev pub KeepsAllTurns : Type 0
KeepsAllTurns = (bench : Workbench) (keep : List Keep) (desk : ℕ) (lines : List Line)
    (blocks : List Block) → ((place : ℕ) → place < length lines → keep_at keep place ≢ Nothing)
    → kept_turns lines desk (kept_from bench keep [] lines blocks) ≡ turns_from desk 0 lines blocks

-- what stands at a desk before the line at a place
abbrev pub stood_before : Workbench → ℕ → List Line → List Block → ℕ → List Numbered
stood_before bench desk lines blocks place =
    standing (revisions_then bench (with_blocks (take place lines) (take place blocks)) desk)

-- the line is the desk's, and it is answered while nothing stands there
pub record IsAskedWhereNothingStands (bench : Workbench) (desk : ℕ) (lines : List Line) (blocks : List Block)
    (place : ℕ) : Type 0 where
  pub line : Line
  pub there : slice_get lines place ≡ Some line
  pub own : line.desk ≡ desk
  pub block : Block
  pub block_there : slice_get blocks place ≡ Some block
  pub answers : List Answer
  pub answered : block.body ≡ Answers answers
  pub nothing : stood_before bench desk lines blocks place ≡ []

-- where nothing was said at a desk before these lines, and their blocks are proved, the lines that the desk's roll shows as asked of
-- nothing are those
abbrev pub AskedWhereNothingStands : Type 0
AskedWhereNothingStands = (bench : Workbench) (desk : ℕ) (lines : List Line) (blocks : List Block) (place : ℕ)
    → (revisions_at bench desk).surviving ≡ []
    → EachHolds (IsProvedBlock bench.table) bench [] lines blocks
    → Contains (roll_of (length (revisions_at bench desk).opening) (turns_from desk 0 lines blocks)).asked_of_nothing place
    ↔ IsAskedWhereNothingStands bench desk lines blocks place
