-- Lines of a session that a check keeps: the block of each, and maybe what stood at its desk before it.
use Rattle.std.specs.Prelude.{◌≡◌, ℕ, List, [], ◌∷◌, ◌++◌, length, slice_index_or, Option, Some, None}
use Rattle.ror_statement.specs.declared.statement.Numbered.{Numbered}
use Rattle.ror_session.specs.declared.session.Line.{Line}
use Rattle.ror_report.specs.declared.block.Block.{Block}
use Rattle.ror_history.specs.History.{Revisions, standing}
use Rattle.ror_bench.specs.declared.kept.Keep.{Keep}
use Rattle.ror_bench.specs.declared.kept.Keep.TheVariants.{Nothing, Standing}
use Rattle.ror_bench.specs.declared.kept.KeptLine.{KeptLine}
use Rattle.ror_bench.specs.declared.report.Accepted.{Accepted}
use Rattle.ror_bench.specs.Bench.{Workbench}
use Rattle.ror_bench.specs.Reports.{revisions_then, IsProvedReport, IsAcceptedReport}

-- what is kept of the line at a place: nothing of those that nothing is said of
abbrev pub keep_at : List Keep → ℕ → Keep
keep_at keep place = slice_index_or keep place Nothing

-- what stands, where that is kept
abbrev pub standing_for : Keep → Revisions → Option (List Numbered)
standing_for Standing r = Some (standing r)
standing_for _ r = None

-- the line at the place, where something of it is kept
abbrev pub kept_of : ℕ → Keep → Option (List Numbered) → Block → List KeptLine
kept_of place Nothing list block = []
kept_of place _ list block = record { place = place; standing = list; block = block } ∷ []

-- a line after others with their blocks, where something of it is kept: its block, and maybe what these left at its desk
abbrev pub kept_at : Workbench → List Keep → List (Line × Block) → Line → Block → List KeptLine
kept_at bench keep before line block =
    kept_of (length before) (keep_at keep (length before))
    (standing_for (keep_at keep (length before)) (revisions_then bench before line.desk)) block

-- those of lines and their blocks, after others
abbrev pub kept_from : Workbench → List Keep → List (Line × Block) → List Line → List Block → List KeptLine
kept_from bench keep before (line ∷ lines) (block ∷ blocks) =
    kept_at bench keep before line block ++ kept_from bench keep (before ++ (line, block) ∷ []) lines blocks
kept_from bench keep before _ _ = []

-- the bytes are the text of a report that is proved for the session's lines, but for so many answers and repairs that are too
-- wide, and these are its chosen lines, in order
pub record IsProvedKeeping (bench : Workbench) (lines : List Line) (bytes : List ℕ) (keep : List Keep)
    (accepted : Accepted) (kept : List KeptLine) : Type 0 where
  pub report : IsProvedReport bench lines bytes accepted
  pub chosen : kept ≡ kept_from bench keep [] lines report.blocks

-- and its blocks are true of all compatible value functions
pub record IsAcceptedKeeping (bench : Workbench) (lines : List Line) (bytes : List ℕ) (keep : List Keep)
    (accepted : Accepted) (kept : List KeptLine) : Type 0 where
  pub report : IsAcceptedReport bench lines bytes accepted
  pub chosen : kept ≡ kept_from bench keep [] lines report.proved.blocks
