-- The desks that a session begins with, and the report of the blocks of its lines.
use Rattle.std.proofs.Common.{◌≡◌, ℕ, ◌≤◌, false, List, [], ◌∷◌, ◌++◌, length, refl, ap, arith}
use Rattle.std.specs.Prelude.{zero, suc, replicate}
use Rattle.std.specs.List.{AllByRecursion, flat_map, list_any}
use Rattle.ror_text.specs.Lines.{is_control}
use Rattle.ror_value.specs.declared.input.Input.{Input}
use Rattle.ror_value.specs.Over.{IsLawfulIn}
use Rattle.ror_history.proofs.TurnLemmas.{next_number-first}
use Rattle.ror_session.specs.declared.limits.TheConstants.{MOST_LINES}
use Rattle.ror_session.specs.declared.session.Line.{Line}
use Rattle.ror_session.specs.Grammar.{IsClean}
use Rattle.ror_report.specs.declared.block.Block.{Block}
use Rattle.ror_report.specs.Text.{block_text, header_text, end_text}
use Rattle.ror_bench.specs.Allowed.{given_at}
use Rattle.ror_bench.specs.Bench.{Workbench, IsLawfulBench, IsLawfulThroughout, LeavesNumbers}
use Rattle.ror_bench.specs.Blocks.{IsBlockOf}
use Rattle.ror_bench.specs.Replays.{AreBlocksAt, IsReplayedReport}
use Rattle.ror_bench.specs.Reports.{accepted_of}
use Rattle.ror_bench.proofs.DeskLemmas.{begun}
use Rattle.ror_bench.proofs.ReportProofs.{as_many}
use Rattle.ror_bench.proofs.ReplayLemmas.{replayed_proved}
use Rattle.ror_bench.proofs.Truth.{report_true}
use Rattle.ror_frame.specs.Inputs.{IsReportOf}

-- desks that begin with a lawful list are lawful
pub lawful_desks : (i : Input) (n : ℕ) → IsLawfulIn i.table i.opening → AllByRecursion (IsLawfulThroughout i.table) (replicate n (record { opening = i.opening; surviving = [] }))
lawful_desks i zero lawful = tt
lawful_desks i (suc n) lawful = (begun i.table i.opening lawful, lawful_desks i n lawful)

-- and have a number left for each line
pub numbers_left : (i : Input) (n lines : ℕ) → IsLawfulIn i.table i.opening → lines ≤ MOST_LINES → AllByRecursion (LeavesNumbers lines) (replicate n (record { opening = i.opening; surviving = [] }))
numbers_left i zero lines lawful few = tt
numbers_left i (suc n) lines lawful few =
    let next = next_number-first i.opening in
    let statements = lawful.few in
    (omega (arith, next, statements, few), numbers_left i n lines lawful few)

-- a desk's name has no control byte
pub clean_control : (name : List ℕ) → IsClean name → list_any is_control name ≡ false
clean_control [] clean = refl
clean_control (b ∷ bs) clean = let here = clean.0 in let rest = clean_control bs clean.1 in grind (arith, here, rest)

-- the text of a report of blocks
abbrev pub text_of : Workbench → List Line → List Block → List ℕ
text_of bench lines blocks = header_text ++ (flat_map (block_text bench.table) blocks ++ end_text (length lines))

unfoldable pub replayed : (most : ℕ) (bench : Workbench) (lines : List Line) (blocks : List Block) → AreBlocksAt most bench lines blocks → IsReplayedReport most bench lines (text_of bench lines blocks) (accepted_of blocks)
replayed most bench lines blocks made =
    let count = as_many (IsBlockOf (given_at most) bench.table) bench [] lines blocks made.given in
    record { blocks = blocks; made = made; text = ap (λ n. header_text ++ (flat_map (block_text bench.table) blocks ++ end_text n)) count; counted = refl }

unfoldable pub reported : (most : ℕ) (bench : Workbench) (lines : List Line) (blocks : List Block) → IsLawfulBench bench → AreBlocksAt most bench lines blocks → IsReportOf most bench lines (text_of bench lines blocks) (accepted_of blocks)
reported most bench lines blocks lawful made =
    let given = replayed most bench lines blocks made in
    let proved = replayed_proved most bench lines (text_of bench lines blocks) (accepted_of blocks) given in
    record { given = given; checked = record { proved = proved; blocks_true = report_true bench lines (text_of bench lines blocks) (accepted_of blocks) lawful proved } }
