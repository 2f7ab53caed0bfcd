-- A report as JSON is made block by block, and its text is written.
use Rattle.std.proofs.Common.{◌≡◌, ℕ, ◌≤◌, Bool, List, [], ◌∷◌, ◌++◌, Option, Ok, Err, refl, sym, ap, ◌∙◌, subst}
use Rattle.std.specs.Prelude.{nat_lt}
use Rattle.std.specs.List.{AllByRecursion}
use Rattle.ror_text.proofs.Everywhere.{all-by}
use Rattle.ror_table.specs.Table.{DecisionTable, IsTable}
use Rattle.ror_session.specs.declared.session.Line.{Line}
use Rattle.ror_report.specs.declared.block.Block.{Block}
use Rattle.ror_report.specs.Text.{IsPrintableBlock}
use Rattle.ror_json.specs.Form.{IsFormedBlock, AsksOfBlock}
use Rattle.ror_json.specs.Texts.{json_text, json_line}
use Rattle.ror_json.proofs.JsonTexts.{line_is_report}
use Rattle.ror_json.proofs.ReportLaws.{printed_is_formed}
use Rattle.ror_io.specs.Counts.{Rose}
use Rattle.ror_io.specs.Writing.{Grew, GrewShort}
use Rattle.ror_bench.specs.declared.report.Accepted.{Accepted}
use Rattle.ror_bench.specs.Bench.{Workbench, HoldTheSame, IsLawfulBench}
use Rattle.ror_bench.specs.Blocks.{HasText}
use Rattle.ror_bench.specs.Replays.{AreBlocksAt}
use Rattle.ror_bench.specs.Reports.{accepted_of}
use Rattle.ror_bench.proofs.GivenLemmas.{given_proved}
use Rattle.ror_bench.proofs.SameLemmas.{blocks_same}
use Rattle.ror_frame.specs.declared.stop.Stop.TheVariants as stops
use Rattle.ror_frame.specs.States.{sink_state}
use Rattle.ror_frame.specs.Courses.{WritesDue}
use Rattle.ror_work_json.specs.Laws.{ReportsHaveJson}
use Rattle.ror_work_json.specs.Json.{IsProvedJson, IsReplayedJson, IsJsonReportOf, json_output}
use Rattle.ror_work_json.specs.Steps.{IsJsonText}
use Rattle.ror_work_json.proofs.Truth.{json_accepted}

-- what has a text in a report is what a form is asked of
asked_of : (t : DecisionTable) (block : Block) → HasText t block → AsksOfBlock t block
asked_of t block has = (has.valid, has.narrow, has.repair)

pub are_asked : (t : DecisionTable) (blocks : List Block) → AllByRecursion (HasText t) blocks → AllByRecursion (AsksOfBlock t) blocks
are_asked t blocks all = all-by (HasText t) (AsksOfBlock t) blocks (λ block has. asked_of t block has) all

formed : (t : DecisionTable) (blocks : List Block) → AllByRecursion (IsPrintableBlock t) blocks → AllByRecursion (IsFormedBlock t) blocks
formed t blocks all = all-by (IsPrintableBlock t) (IsFormedBlock t) blocks (λ block has. printed_is_formed t block has) all

-- the line of blocks that may be given is JSON of a proved report
pub replayed_json_proved : (most : ℕ) (bench : Workbench) (lines : List Line) (bytes : List ℕ) (x : Accepted) → IsTable bench.table → IsReplayedJson most bench lines bytes x → IsProvedJson bench lines bytes x
replayed_json_proved most bench lines bytes x table report = record {
  blocks = report.blocks;
  json = rw report.text (line_is_report bench.table report.blocks table (formed bench.table report.blocks report.made.printable));
  proved = (given_proved most bench lines report.blocks report.made).0.proved;
  counted = report.counted;
}

-- and so is that of the blocks of a proved report
pub report_has_json : ReportsHaveJson
report_has_json bench lines bytes x table report = record {
  blocks = report.blocks;
  json = line_is_report bench.table report.blocks table (formed bench.table report.blocks report.printable);
  proved = report.proved;
  counted = report.counted;
}

-- the line that is due
pub line_due : (most : ℕ) (one other : Workbench) (lines : List Line) (text : List ℕ) (wide : Bool) → HoldTheSame one other → IsTable other.table → IsLawfulBench other → IsJsonText most one lines text wide → (x : Accepted) × IsJsonReportOf most other lines (text ++ 10 ∷ []) x × (wide ≡ nat_lt 0 x.wide)
line_due most one other lines text wide same table lawful is =
    let given : IsReplayedJson most other lines (text ++ 10 ∷ []) (accepted_of is.blocks) = record {
      blocks = is.blocks;
      made = blocks_same one other same most lines is.blocks is.made;
      text = ap (λ (l : List ℕ). l ++ 10 ∷ []) is.text_is ∙ ap (λ (t : DecisionTable). json_line t is.blocks) same.0;
      counted = refl;
    } in
    (accepted_of is.blocks, record { given = given; checked = json_accepted other lines (text ++ 10 ∷ []) (accepted_of is.blocks) lawful (replayed_json_proved most other lines (text ++ 10 ∷ []) (accepted_of is.blocks) table given) }, is.wide_is)

-- it was written, or only a front of it
pub line_written : (most : ℕ) (bench : Workbench) (lines : List Line) (text : List ℕ) (wide : Bool) (x y : ℕ) (old new : Option (List ℕ)) → (a : Accepted) × IsJsonReportOf most bench lines text a × (wide ≡ nat_lt 0 a.wide) → y ≡ x → Grew old new text → WritesDue (json_output most bench lines) (sink_state old x) (sink_state new y) (Ok wide)
line_written most bench lines text wide x y old new due same grew = (same, tt, text, due, grew)

pub line_cut : (most : ℕ) (bench : Workbench) (lines : List Line) (text : List ℕ) (wide : Bool) (x y : ℕ) (old new : Option (List ℕ)) → (a : Accepted) × IsJsonReportOf most bench lines text a × (wide ≡ nat_lt 0 a.wide) → x ≤ y → Rose x y → GrewShort old new text → WritesDue (json_output most bench lines) (sink_state old x) (sink_state new y) (Err stops.WriteFault)
line_cut most bench lines text wide x y old new due up rose short = (up, rose, text, (due.0, due.1), short)
