-- What a replay does: it writes the report of a session over a table.
use Rattle.std.specs.Prelude.{◌≡◌, ℕ, ◌≤◌, Bool, true, List, ◌++◌, Option, None, Result, Ok, Err, nat_lt}
use Rattle.std.specs.List.{flat_map}
use Rattle.ror_io.specs.Counts.{Rose}
use Rattle.ror_io.specs.Writing.{Grew, GrewShort}
use Rattle.ror_session.specs.declared.session.Line.{Line}
use Rattle.ror_report.specs.declared.block.Block.{Block}
use Rattle.ror_report.specs.Text.{block_text}
use Rattle.ror_bench.specs.declared.report.Accepted.{Accepted}
use Rattle.ror_bench.specs.Bench.{Workbench}
use Rattle.ror_bench.specs.Replays.{AreBlocksAt, IsBegunReport}
use Rattle.ror_bench.specs.Reports.{accepted_of}
use Rattle.ror_pivot.specs.declared.note.Bits.{Bits}
use Rattle.ror_pivot.specs.Answers.{most_of}
use Rattle.ror_words.specs.Words.{InputNames}
use Rattle.ror_frame.specs.declared.stop.Stop.{Stop}
use Rattle.ror_frame.specs.declared.stop.Stop.TheVariants as stops
use Rattle.ror_frame.specs.States.{SinkState}
use Rattle.ror_frame.specs.Printing.{Prints}
use Rattle.ror_frame.specs.Courses.{Output, Chore}
use Rattle.ror_frame.specs.Inputs.{bench_for, IsReportOf, writing_chore}

-- The report of the lines of a session. Where a write fails, or memory runs out, a front of how one begins stands there: its header
-- and the blocks of the first lines, or all of it.
abbrev pub report_output : ℕ → Workbench → List Line → Output
report_output most bench lines = record {
  tells = None;
  Whole = λ wide text. (accepted : Accepted) × IsReportOf most bench lines text accepted
      × (wide ≡ nat_lt 0 accepted.wide);
  Begun = IsBegunReport most bench lines;
  keeps_front = true;
}

abbrev pub replay_chore : InputNames → Bits → Chore
replay_chore names bits = writing_chore names (λ i s. report_output (most_of bits) (bench_for i s) s.lines)

-- ---- the blocks of lines, one after another

-- the text is that of the blocks of the first lines
pub record AreFirstBlocks (most : ℕ) (bench : Workbench) (lines : List Line) (text : List ℕ) : Type 0 where
  pub taken : List Line
  pub left : List Line
  pub blocks : List Block
  pub split : lines ≡ taken ++ left
  pub made : AreBlocksAt most bench taken blocks
  pub text_is : text ≡ flat_map (block_text bench.table) blocks

-- what was written of a text: all of it, a proper front where the write failed, or nothing where memory ran out
abbrev pub WritesText : {A : Type 0} → List ℕ → ℕ → ℕ → Option (List ℕ) → Option (List ℕ) → Result A Stop → Type 0
WritesText text before now old new (Err stops.Memory) = (now ≡ before) × (new ≡ old)
WritesText text before now old new (Err stops.ReadFault) = ⊥
WritesText text before now old new (Err (stops.At r)) = ⊥
WritesText text before now old new result = Prints before now old new text result

-- what was written of the blocks of lines: all of them, and whether anything is too wide; a proper front of some where a write
-- failed; or the first ones where memory ran out
abbrev pub MakesBlocks : ℕ → Workbench → List Line → SinkState → SinkState → Result Bool Stop → Type 0
MakesBlocks most bench lines old new (Ok wide) = (new.faults ≡ old.faults) × (blocks : List Block)
    × AreBlocksAt most bench lines blocks × (wide ≡ nat_lt 0 (accepted_of blocks).wide)
    × Grew old.written new.written (flat_map (block_text bench.table) blocks)
MakesBlocks most bench lines old new (Err stops.WriteFault) = (old.faults ≤ new.faults)
    × Rose old.faults new.faults × (text : List ℕ) × AreFirstBlocks most bench lines text
    × GrewShort old.written new.written text
MakesBlocks most bench lines old new (Err stops.Memory) = (new.faults ≡ old.faults)
    × (text : List ℕ) × AreFirstBlocks most bench lines text × Grew old.written new.written text
MakesBlocks most bench lines old new (Err stop) = ⊥
