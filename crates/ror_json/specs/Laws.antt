-- The laws of the form of a report.
use Rattle.std.specs.Prelude.{◌≡◌, ◌↔◌, ◌≤◌, ℕ, List, length, false, Ok, Err, Some}
use Rattle.std.specs.List.{AllByRecursion}
use Rattle.serde_json.specs.Data.{Data, depth}
use Rattle.serde_json.specs.Read.{read}
use Rattle.serde_json.specs.Written.{compact_text, has_float}
use Rattle.ror_table.specs.Table.{DecisionTable, IsTable}
use Rattle.ror_report.specs.declared.block.Block.{Block}
use Rattle.ror_report.specs.Text.{IsPrintableBlock}
use Rattle.ror_json.specs.declared.fault.JsonFault.TheVariants.{BadShape}
use Rattle.ror_json.specs.declared.fault.TextFault.TheVariants.{BadJson}
use Rattle.ror_json.specs.declared.fault.TextFault.TheVariants as text_faults
use Rattle.ror_json.specs.Form.{report_form, IsFormedBlock}
use Rattle.ror_json.specs.Reading.{report_of}
use Rattle.ror_json.specs.Shapes.{IsReportForm, IsBadShape}
use Rattle.ror_json.specs.Texts.{json_text, json_line, IsJsonOf, IsJsonReport, IsBadJsonShape, report_of_text}

-- a value is read as these blocks exactly where it is their form
abbrev pub FormsAreRead : Type 0
FormsAreRead = (t : DecisionTable) (d : Data) (blocks : List Block) → IsTable t
    → (report_of t d ≡ Ok blocks) ↔ IsReportForm t d blocks

-- a value is the form of one list of blocks at most
abbrev pub FormsAreOfOneReport : Type 0
FormsAreOfOneReport = (t : DecisionTable) (d : Data) (xs ys : List Block) → IsTable t
    → IsReportForm t d xs → IsReportForm t d ys → xs ≡ ys

-- a fault is given exactly where that block is the first bad one
abbrev pub BadShapesAreGiven : Type 0
BadShapesAreGiven = (t : DecisionTable) (d : Data) (k : ℕ) → IsTable t
    → (report_of t d ≡ Err (BadShape k)) ↔ IsBadShape t d k

-- and there is one exactly where the value is the form of no list of blocks
abbrev pub BadShapesAreNoForms : Type 0
BadShapesAreNoForms = (t : DecisionTable) (d : Data) → IsTable t
    → ((k : ℕ) × IsBadShape t d k) ↔ ((blocks : List Block) → IsReportForm t d blocks → ⊥)

-- what has a text in a report has a form
abbrev pub PrintedBlocksAreFormed : Type 0
PrintedBlocksAreFormed = (t : DecisionTable) (b : Block) → IsPrintableBlock t b
    → IsFormedBlock t b

-- a form holds no float, and nests nine deep at most
abbrev pub FormsHoldNoFloat : Type 0
FormsHoldNoFloat = (t : DecisionTable) (blocks : List Block)
    → has_float (report_form t blocks) ≡ false

abbrev pub FormsNestNineDeep : Type 0
FormsNestNineDeep = (t : DecisionTable) (blocks : List Block) → depth (report_form t blocks) ≤ 9

-- the compact text of a form is read as that form
abbrev pub TextsOfFormsAreRead : Type 0
TextsOfFormsAreRead = (t : DecisionTable) (blocks : List Block)
    → AllByRecursion (IsFormedBlock t) blocks
    → read (compact_text (report_form t blocks)) ≡ Some (report_form t blocks)

-- a text that is read as the form of blocks has at least as many bytes as these are
abbrev pub FormsHaveFewBlocks : Type 0
FormsHaveFewBlocks = (t : DecisionTable) (text : List ℕ) (blocks : List Block)
    → read text ≡ Some (report_form t blocks) → length blocks ≤ length text

-- and so has one that is read as a value with a bad shape
abbrev pub BadShapesAreNear : Type 0
BadShapesAreNear = (t : DecisionTable) (text : List ℕ) (d : Data) (k : ℕ)
    → read text ≡ Some d → IsBadShape t d k → k ≤ length text

-- ---- reports as texts

-- bytes are read as these blocks exactly where they are JSON of their form
abbrev pub TextsAreRead : Type 0
TextsAreRead = (t : DecisionTable) (bytes : List ℕ) (blocks : List Block) → IsTable t
    → (report_of_text t bytes ≡ Ok blocks) ↔ IsJsonReport t bytes blocks

-- they are refused as no JSON exactly where they are JSON of no value
abbrev pub BadJsonIsGiven : Type 0
BadJsonIsGiven = (t : DecisionTable) (bytes : List ℕ)
    → (report_of_text t bytes ≡ Err BadJson) ↔ ((d : Data) → IsJsonOf bytes d → ⊥)

-- and with a bad shape exactly where that is the one of the value whose JSON they are
abbrev pub BadShapesOfTextsAreGiven : Type 0
BadShapesOfTextsAreGiven = (t : DecisionTable) (bytes : List ℕ) (k : ℕ) → IsTable t
    → (report_of_text t bytes ≡ Err (text_faults.BadShape k)) ↔ IsBadJsonShape t bytes k

-- bytes are JSON of one report at most
abbrev pub TextsAreOfOneReport : Type 0
TextsAreOfOneReport = (t : DecisionTable) (bytes : List ℕ) (xs ys : List Block) → IsTable t
    → IsJsonReport t bytes xs → IsJsonReport t bytes ys → xs ≡ ys

-- the text that is written of blocks is JSON of their report, and so it is with a line feed behind it
abbrev pub WrittenTextsAreReports : Type 0
WrittenTextsAreReports = (t : DecisionTable) (blocks : List Block) → IsTable t
    → AllByRecursion (IsFormedBlock t) blocks
    → IsJsonReport t (json_text t blocks) blocks × IsJsonReport t (json_line t blocks) blocks
