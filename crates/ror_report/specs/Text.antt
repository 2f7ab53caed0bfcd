-- The one text of a block and of a report.
use Rattle.std.specs.Prelude.{ℕ, ◌<◌, ◌^◌, List, [], ◌∷◌, ◌++◌, length, codes, decimal}
use Rattle.std.specs.List.{flat_map, AllByRecursion}
use Rattle.ror_table.specs.Table.{DecisionTable}
use Rattle.ror_proof.specs.declared.answer.Answer.{Answer}
use Rattle.ror_text.specs.SpacedLines.{line_text}
use Rattle.ror_proof.specs.Text.{answer_text, kept_text, wide_text, IsPrintable, IsPrintableKept, IsPrintableNote}
use Rattle.ror_report.specs.declared.block.Block.{Block}
use Rattle.ror_report.specs.declared.block.Body.{Body}
use Rattle.ror_report.specs.declared.block.Body.TheVariants.{Added, Withdrawn, Replaced, Undone, Repaired, RepairWide, Answers, Refused}
use Rattle.ror_report.specs.declared.names.BodyForm.TheVariants as bodies
use Rattle.ror_report.specs.declared.names.LineForm.TheVariants as forms
use Rattle.ror_report.specs.Names.{form_word, body_word, fault_word}

-- the answers of a body; other bodies have none
abbrev pub answers_of : Body → List Answer
answers_of (Added number) = []
answers_of (Withdrawn number) = []
answers_of (Replaced number) = []
answers_of Undone = []
answers_of (Repaired kept) = []
answers_of (RepairWide number note) = []
answers_of (Answers answers) = answers
answers_of (Refused fault) = []

-- the line of a name and a number
abbrev pub numbered_text : List ℕ → ℕ → List ℕ
numbered_text name number = line_text (name ∷ decimal number ∷ [])

-- a line, the lines of a repair, or those of the answers
abbrev pub body_text : DecisionTable → Body → List ℕ
body_text t (Added number) = numbered_text (form_word forms.Added) number
body_text t (Withdrawn number) = numbered_text (form_word forms.Withdrawn) number
body_text t (Replaced number) = numbered_text (form_word forms.Replaced) number
body_text t Undone = line_text (form_word forms.Undone ∷ [])
body_text t (Repaired kept) = kept_text kept
body_text t (RepairWide number note) =
    numbered_text (body_word bodies.RepairWide) number ++ wide_text 0 note
body_text t (Answers answers) = flat_map (answer_text t) answers
body_text t (Refused fault) = line_text (form_word forms.Refused ∷ fault_word fault ∷ [])

-- the line that names the session's line, and the body
unfoldable pub block_text : DecisionTable → Block → List ℕ
block_text t b = numbered_text (codes "line") b.line ++ body_text t b.body

unfoldable pub header_text : List ℕ
header_text = line_text (codes "ror-report" ∷ codes "1" ∷ [])

unfoldable pub end_text : ℕ → List ℕ
end_text n = numbered_text (codes "end") n

-- a report: its first line, the blocks, and the line with their number
abbrev pub report_text : DecisionTable → List Block → List ℕ
report_text t blocks = header_text ++ (flat_map (block_text t) blocks ++ end_text (length blocks))

-- the bodies that have a text
abbrev pub IsPrintableBody : DecisionTable → Body → Type 0
IsPrintableBody t (Added number) = number < 2 ^ 32
IsPrintableBody t (Withdrawn number) = number < 2 ^ 32
IsPrintableBody t (Replaced number) = number < 2 ^ 32
IsPrintableBody t Undone = Unit {0}
IsPrintableBody t (Repaired kept) = IsPrintableKept kept
IsPrintableBody t (RepairWide number note) = (number < 2 ^ 32) × IsPrintableNote 0 note
IsPrintableBody t (Answers answers) = AllByRecursion (IsPrintable t) answers
IsPrintableBody t (Refused fault) = Unit {0}

-- the blocks that have a text
pub record IsPrintableBlock (t : DecisionTable) (b : Block) : Type 0 where
  pub number : b.line < 2 ^ 32
  pub body : IsPrintableBody t b.body
