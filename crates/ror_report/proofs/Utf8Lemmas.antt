-- The text of a report is UTF-8.
use Rattle.std.proofs.Common.{ℕ, ◌<◌, ◌^◌, List, [], ◌∷◌, ◌++◌, length, refl, arith}
use Rattle.std.specs.Prelude.{codes}
use Rattle.std.specs.Fmt.{decimal}
use Rattle.std.specs.List.{AllByRecursion, flat_map}
use Rattle.std.specs.Str.{IsUtf8}
use Rattle.std.proofs.lemmas.Str.{IsUtf8-append, IsUtf8-nil}
use Rattle.ror_table.specs.Table.{DecisionTable, IsTable}
use Rattle.ror_proof.specs.declared.answer.Answer.{Answer}
use Rattle.ror_proof.specs.Text.{answer_text, wide_text, IsPrintable}
use Rattle.ror_proof.proofs.Utf8Lemmas.{ascii_is_utf8, decimal_is_utf8, line_text_is_utf8, wide_is_utf8, answer_text_is_utf8, kept_text_is_utf8}
use Rattle.ror_report.specs.declared.block.Block.{Block}
use Rattle.ror_report.specs.declared.block.Body.{Body}
use Rattle.ror_report.specs.declared.block.Body.TheVariants.{Added, Withdrawn, Replaced, Undone, Repaired, RepairWide, Answers, Refused}
use Rattle.ror_report.specs.declared.block.LineFault.{LineFault}
use Rattle.ror_report.specs.declared.block.LineFault.TheVariants as faults
use Rattle.ror_report.specs.declared.names.LineForm.TheVariants as forms
use Rattle.ror_report.specs.Names.{form_word, fault_word}
use Rattle.ror_report.specs.Text.{numbered_text, body_text, block_text, header_text, end_text, report_text, IsPrintableBody, IsPrintableBlock}

numbered_is_utf8 : (name : List ℕ) (n : ℕ) → IsUtf8 name → n < 2 ^ 32 → IsUtf8 (numbered_text name n)
numbered_is_utf8 name n text small = line_text_is_utf8 (name ∷ decimal n ∷ []) (text, (decimal_is_utf8 n (omega (arith, small)), tt))

pub answers_are_utf8 : (t : DecisionTable) (xs : List Answer) → IsTable t → AllByRecursion (IsPrintable t) xs → IsUtf8 (flat_map (answer_text t) xs)
answers_are_utf8 t [] table printable = IsUtf8-nil
answers_are_utf8 t (x ∷ xs) table printable = IsUtf8-append (answer_text t x) (flat_map (answer_text t) xs) (answer_text_is_utf8 t x table printable.0) (answers_are_utf8 t xs table printable.1)

fault_is_utf8 : (fault : LineFault) → IsUtf8 (fault_word fault)
fault_is_utf8 faults.UnknownAlternative = ascii_is_utf8 (fault_word faults.UnknownAlternative) refl
fault_is_utf8 faults.UnknownCriterion = ascii_is_utf8 (fault_word faults.UnknownCriterion) refl
fault_is_utf8 faults.UnknownClass = ascii_is_utf8 (fault_word faults.UnknownClass) refl
fault_is_utf8 faults.BadInterval = ascii_is_utf8 (fault_word faults.BadInterval) refl
fault_is_utf8 faults.NoSuchStatement = ascii_is_utf8 (fault_word faults.NoSuchStatement) refl
fault_is_utf8 faults.NothingToUndo = ascii_is_utf8 (fault_word faults.NothingToUndo) refl
fault_is_utf8 faults.TooManyStatements = ascii_is_utf8 (fault_word faults.TooManyStatements) refl
fault_is_utf8 faults.TooManyRows = ascii_is_utf8 (fault_word faults.TooManyRows) refl
fault_is_utf8 faults.TooManyPairs = ascii_is_utf8 (fault_word faults.TooManyPairs) refl

body_is_utf8 : (t : DecisionTable) (body : Body) → IsTable t → IsPrintableBody t body → IsUtf8 (body_text t body)
body_is_utf8 t (Added n) table small = numbered_is_utf8 (form_word forms.Added) n (ascii_is_utf8 (form_word forms.Added) refl) small
body_is_utf8 t (Withdrawn n) table small = numbered_is_utf8 (form_word forms.Withdrawn) n (ascii_is_utf8 (form_word forms.Withdrawn) refl) small
body_is_utf8 t (Replaced n) table small = numbered_is_utf8 (form_word forms.Replaced) n (ascii_is_utf8 (form_word forms.Replaced) refl) small
body_is_utf8 t Undone table printable = line_text_is_utf8 (form_word forms.Undone ∷ []) (ascii_is_utf8 (form_word forms.Undone) refl, tt)
body_is_utf8 t (Repaired x) table printable = kept_text_is_utf8 x printable
body_is_utf8 t (RepairWide n note) table printable =
    IsUtf8-append (numbered_text (codes "repair-wide") n) (wide_text 0 note) (numbered_is_utf8 (codes "repair-wide") n (ascii_is_utf8 (codes "repair-wide") refl) printable.0) (wide_is_utf8 0 note printable.1)
body_is_utf8 t (Refused fault) table printable = line_text_is_utf8 (form_word forms.Refused ∷ fault_word fault ∷ []) (ascii_is_utf8 (form_word forms.Refused) refl, (fault_is_utf8 fault, tt))
body_is_utf8 t (Answers xs) table printable = answers_are_utf8 t xs table printable

pub block_text_is_utf8 : (t : DecisionTable) (b : Block) → IsTable t → IsPrintableBlock t b → IsUtf8 (block_text t b)
unfolding block_text
block_text_is_utf8 t b table printable =
    IsUtf8-append (numbered_text (codes "line") b.line) (body_text t b.body) (numbered_is_utf8 (codes "line") b.line (ascii_is_utf8 (codes "line") refl) printable.number) (body_is_utf8 t b.body table printable.body)

blocks_are_utf8 : (t : DecisionTable) (bs : List Block) → IsTable t → AllByRecursion (IsPrintableBlock t) bs → IsUtf8 (flat_map (block_text t) bs)
blocks_are_utf8 t [] table printable = IsUtf8-nil
blocks_are_utf8 t (b ∷ bs) table printable = IsUtf8-append (block_text t b) (flat_map (block_text t) bs) (block_text_is_utf8 t b table printable.0) (blocks_are_utf8 t bs table printable.1)

pub header_text_is_utf8 : IsUtf8 header_text
unfolding header_text
header_text_is_utf8 = line_text_is_utf8 (codes "ror-report" ∷ codes "1" ∷ []) (ascii_is_utf8 (codes "ror-report") refl, (ascii_is_utf8 (codes "1") refl, tt))

pub end_text_is_utf8 : (n : ℕ) → n < 2 ^ 32 → IsUtf8 (end_text n)
unfolding end_text
end_text_is_utf8 n small = numbered_is_utf8 (codes "end") n (ascii_is_utf8 (codes "end") refl) small

pub report_text_is_utf8 : (t : DecisionTable) (bs : List Block) → IsTable t → AllByRecursion (IsPrintableBlock t) bs → length bs < 2 ^ 32 → IsUtf8 (report_text t bs)
report_text_is_utf8 t bs table printable few =
    IsUtf8-append header_text (flat_map (block_text t) bs ++ end_text (length bs)) header_text_is_utf8
    (IsUtf8-append (flat_map (block_text t) bs) (end_text (length bs)) (blocks_are_utf8 t bs table printable) (end_text_is_utf8 (length bs) few))
