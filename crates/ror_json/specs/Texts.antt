-- A report as the text of JSON: what is written, and what is read of bytes.
use Rattle.std.specs.Prelude.{◌≡◌, ℕ, List, [], ◌∷◌, ◌++◌, Option, Some, None, Result, Ok, Err, if◌then◌else◌}
use Rattle.std.specs.List.{AllByRecursion}
use Rattle.std.specs.Str.{IsUtf8, is_utf8}
use Rattle.serde_json.specs.Data.{Data}
use Rattle.serde_json.specs.Read.{read}
use Rattle.serde_json.specs.Written.{compact_text}
use Rattle.ror_text.specs.Reading.{◌>>=◌, need}
use Rattle.ror_table.specs.Table.{DecisionTable}
use Rattle.ror_report.specs.declared.block.Block.{Block}
use Rattle.ror_json.specs.declared.fault.JsonFault.{JsonFault}
use Rattle.ror_json.specs.declared.fault.JsonFault.TheVariants as shapes
use Rattle.ror_json.specs.declared.fault.TextFault.{TextFault}
use Rattle.ror_json.specs.declared.fault.TextFault.TheVariants.{BadJson, BadShape, Memory}
use Rattle.ror_json.specs.Form.{report_form, IsFormedBlock}
use Rattle.ror_json.specs.Reading.{report_of}
use Rattle.ror_json.specs.Shapes.{IsBadShape}

-- the one text that is written of a list of blocks
abbrev pub json_text : DecisionTable → List Block → List ℕ
json_text t blocks = compact_text (report_form t blocks)

-- that text as a line
abbrev pub json_line : DecisionTable → List Block → List ℕ
json_line t blocks = json_text t blocks ++ 10 ∷ []

-- the bytes are UTF-8, and are JSON of this value
pub record IsJsonOf (bytes : List ℕ) (d : Data) : Type 0 where
  pub utf8 : IsUtf8 bytes
  pub value : read bytes ≡ Some d

-- the bytes are JSON of a value that is the form of these blocks
pub record IsJsonReport (t : DecisionTable) (bytes : List ℕ) (blocks : List Block) : Type 0 where
  pub json : IsJsonOf bytes (report_form t blocks)
  pub formed : AllByRecursion (IsFormedBlock t) blocks

-- the bytes are JSON of a value with a bad shape in this block
pub record IsBadJsonShape (t : DecisionTable) (bytes : List ℕ) (k : ℕ) : Type 0 where
  pub value : Data
  pub json : IsJsonOf bytes value
  pub bad : IsBadShape t value k

-- ---- reading

-- want of memory is tied to no cause
abbrev pub text_fault : TextFault → Option TextFault
text_fault BadJson = Some BadJson
text_fault (BadShape k) = Some (BadShape k)
text_fault Memory = None

abbrev pub value_of : List ℕ → Result Data TextFault
value_of bytes = need BadJson (if is_utf8 bytes then read bytes else None)

abbrev pub in_text : Result (List Block) JsonFault → Result (List Block) TextFault
in_text (Ok blocks) = Ok blocks
in_text (Err (shapes.BadShape k)) = Err (BadShape k)
in_text (Err shapes.Memory) = Err Memory

unfoldable pub report_of_text : DecisionTable → List ℕ → Result (List Block) TextFault
report_of_text t bytes = do
  d ← value_of bytes
  in_text (report_of t d)
