-- The laws of a report's pieces and their texts.
use Rattle.std.specs.Prelude.{◌≡◌, ◌↔◌, ℕ, ◌+◌, ◌<◌, ◌^◌, true, List, ◌++◌, length, drop, Some, Ok, Err, codes}
use Rattle.std.specs.List.{AllByRecursion}
use Rattle.std.specs.Str.{IsUtf8}
use Rattle.ror_table.specs.Table.{DecisionTable, IsTable}
use Rattle.ror_text.specs.Cursor.{Cursor}
use Rattle.ror_report.specs.declared.block.Block.{Block}
use Rattle.ror_report.specs.Text.{block_text, header_text, end_text, report_text, IsPrintableBlock}
use Rattle.ror_proof.specs.declared.read.ProofFault.{ProofFault}
use Rattle.ror_report.specs.Faults.{IsFaultOfBlock, IsFaultOfEnd}
use Rattle.ror_report.specs.Reading.{ends_body, header_at, block_at, end_at}

-- from the cursor on stands the text of a block that has one, and after it what ends a body
pub record IsBlockText (t : DecisionTable) (c : Cursor) (b : Block) (after : Cursor) : Type 0 where
  pub text : c.rest ≡ block_text t b ++ after.rest
  pub place : after.place ≡ c.place + length (block_text t b)
  pub printable : IsPrintableBlock t b
  pub ended : ends_body after.rest ≡ true

-- a block is read exactly where its text stands
abbrev pub BlocksAreTheirTexts : Type 0
BlocksAreTheirTexts = (t : DecisionTable) (c : Cursor) (b : Block) (after : Cursor) → IsTable t
    → (block_at t c ≡ Ok (b, after)) ↔ IsBlockText t c b after

-- the first line is read exactly where the bytes begin with it, and what is read is its end
abbrev pub HeadersAreTheirText : Type 0
HeadersAreTheirText = (bytes : List ℕ) (place : ℕ)
    → (header_at bytes ≡ Some place)
    ↔ ((place ≡ length header_text) × (bytes ≡ header_text ++ drop place bytes))

-- a last line is read exactly where its text stands and nothing else
abbrev pub EndsAreTheirTexts : Type 0
EndsAreTheirTexts = (c : Cursor) (n : ℕ)
    → (end_at c ≡ Ok n) ↔ ((c.rest ≡ end_text n) × (n < 2 ^ 32))

-- two lists of blocks have two reports
abbrev pub ReportsHaveOneText : Type 0
ReportsHaveOneText = (t : DecisionTable) (xs ys : List Block) → IsTable t
    → AllByRecursion (IsPrintableBlock t) xs → AllByRecursion (IsPrintableBlock t) ys
    → report_text t xs ≡ report_text t ys → xs ≡ ys

-- each block begins with the word `line`, and a last line with `end`
abbrev pub BlocksBeginWithLine : Type 0
BlocksBeginWithLine = (t : DecisionTable) (b : Block)
    → (more : List ℕ) × (block_text t b ≡ codes "line " ++ more)

abbrev pub EndsBeginWithEnd : Type 0
EndsBeginWithEnd = (n : ℕ) → (more : List ℕ) × (end_text n ≡ codes "end " ++ more)

-- a report is UTF-8, where its number of blocks is a number of reports
abbrev pub ReportsAreUtf8 : Type 0
ReportsAreUtf8 = (t : DecisionTable) (blocks : List Block) → IsTable t
    → AllByRecursion (IsPrintableBlock t) blocks → length blocks < 2 ^ 32
    → IsUtf8 (report_text t blocks)

-- the fault that is given is that of the first faulty word of the first faulty line
abbrev pub BlocksFailFirst : Type 0
BlocksFailFirst = (t : DecisionTable) (c : Cursor) (fault : ProofFault) → IsTable t
    → (block_at t c ≡ Err fault) ↔ IsFaultOfBlock t c fault

abbrev pub EndsFailFirst : Type 0
EndsFailFirst = (t : DecisionTable) (c : Cursor) (fault : ProofFault)
    → (end_at c ≡ Err fault) ↔ IsFaultOfEnd t c fault
