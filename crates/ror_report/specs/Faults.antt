-- The fault of a block or of the last line: that of its first faulty word, in its first faulty
-- line.
use Rattle.std.specs.Prelude.{◌≡◌, ◌≢◌, ◌⊎◌, ℕ, Bool, List, [], ◌∷◌, ◌++◌, map, codes, Some, None, true, false}
use Rattle.ror_text.specs.Cursor.{Cursor, line_words}
use Rattle.ror_table.specs.Table.{DecisionTable}
use Rattle.ror_proof.specs.declared.answer.Answer.{Answer}
use Rattle.ror_proof.specs.declared.read.ProofFault.{ProofFault}
use Rattle.ror_proof.specs.declared.read.ProofFault.TheVariants.{BadLine}
use Rattle.ror_proof.specs.declared.kept.Kept.{Kept}
use Rattle.ror_proof.specs.Expected.{Expected, expected_wide_of, IsLine, IsFaultOfLine, IsFaultOfAnswer, IsFaultOfKept}
use Rattle.ror_proof.specs.Expected.Expected.{the_word, one_of, a_small_number, the_end}
use Rattle.ror_proof.specs.Laws.{IsAnswerText, IsKeptText}
use Rattle.ror_report.specs.declared.names.BodyForm.{BodyForm}
use Rattle.ror_report.specs.declared.names.BodyForm.TheVariants as bodies
use Rattle.ror_report.specs.declared.names.LineForm.{LineForm}
use Rattle.ror_report.specs.declared.names.LineForm.TheVariants as forms
use Rattle.ror_report.specs.Names.{form_word, body_word, fault_word, line_faults}
use Rattle.ror_report.specs.Reading.{ends_body, form_of}

-- a name and a number
abbrev pub expected_number : List ℕ → List (List ℕ) → List Expected
expected_number name words = the_word name ∷ a_small_number ∷ the_end ∷ []

-- what follows the first word of a body of one line of this form
abbrev pub expected_operand : LineForm → List Expected
expected_operand forms.Added = a_small_number ∷ []
expected_operand forms.Withdrawn = a_small_number ∷ []
expected_operand forms.Replaced = a_small_number ∷ []
expected_operand forms.Undone = []
expected_operand forms.Refused = one_of (map fault_word line_faults) ∷ []

-- the line of a body of one line of this form
abbrev pub expected_form : LineForm → List (List ℕ) → List Expected
expected_form form words = the_word (form_word form) ∷ (expected_operand form ++ the_end ∷ [])

-- the line that says at which statement a repair is too wide
abbrev pub expected_repair_wide : List (List ℕ) → List Expected
expected_repair_wide words = expected_number (body_word bodies.RepairWide) words

-- from here on stand the lines of a body of this form, and the next one begins after them
abbrev pub AreFormLines : DecisionTable → BodyForm → Cursor → Cursor → Type 0
AreFormLines t (bodies.OneLine form) c after = IsLine t (expected_form form) c after
AreFormLines t bodies.Repaired c after = (kept : Kept) × IsKeptText c kept after
AreFormLines t bodies.RepairWide c after =
    (wide : Cursor) × IsLine t expected_repair_wide c wide × IsLine t (expected_wide_of 0) wide after

-- the fault of the first faulty line among these
abbrev pub IsFaultOfForm : DecisionTable → BodyForm → Cursor → ProofFault → Type 0
IsFaultOfForm t (bodies.OneLine form) c fault = IsFaultOfLine t (expected_form form) c fault
IsFaultOfForm t bodies.Repaired c fault = IsFaultOfKept t c fault
IsFaultOfForm t bodies.RepairWide c fault =
    IsFaultOfLine t expected_repair_wide c fault
    ⊎ ((wide : Cursor) × IsLine t expected_repair_wide c wide
    × IsFaultOfLine t (expected_wide_of 0) wide fault)

-- from here on stand texts of answers, up to bytes at which they end
pub data AreAnswerTexts (ends : List ℕ → Bool) (t : DecisionTable) (after : Cursor)
    : Cursor → Type 0 where
  no_answer : (c : Cursor) → ends c.rest ≡ true → c ≡ after → AreAnswerTexts ends t after c
  one_answer : (c next : Cursor) (x : Answer) → ends c.rest ≡ false → IsAnswerText t c x next
      → AreAnswerTexts ends t after next → AreAnswerTexts ends t after c

-- the fault of the first faulty one of them
pub data IsFaultOfAnswers (ends : List ℕ → Bool) (t : DecisionTable) (fault : ProofFault)
    : Cursor → Type 0 where
  this_answer : (c : Cursor) → ends c.rest ≡ false → IsFaultOfAnswer t c fault
      → IsFaultOfAnswers ends t fault c
  later_answer : (c next : Cursor) (x : Answer) → ends c.rest ≡ false → IsAnswerText t c x next
      → IsFaultOfAnswers ends t fault next → IsFaultOfAnswers ends t fault c

-- the fault of the block that begins here: of the line that names the session's line, of the lines
-- of a body that its first word tells, of a line after them that no body goes on with, or of an
-- answer
pub data IsFaultOfBlock (t : DecisionTable) (c : Cursor) (fault : ProofFault) : Type 0 where
  in_name : IsFaultOfLine t (expected_number (codes "line")) c fault → IsFaultOfBlock t c fault
  in_form : (body : Cursor) (form : BodyForm) → IsLine t (expected_number (codes "line")) c body
      → form_of (line_words body) ≡ Some form → IsFaultOfForm t form body fault
      → IsFaultOfBlock t c fault
  after_form : (body after : Cursor) (form : BodyForm)
      → IsLine t (expected_number (codes "line")) c body
      → form_of (line_words body) ≡ Some form → AreFormLines t form body after
      → ends_body after.rest ≡ false → fault ≡ BadLine after.place → IsFaultOfBlock t c fault
  in_answers : (body : Cursor) → IsLine t (expected_number (codes "line")) c body
      → form_of (line_words body) ≡ None → IsFaultOfAnswers ends_body t fault body → IsFaultOfBlock t c fault

-- the fault of the last line, or of the bytes after it
pub data IsFaultOfEnd (t : DecisionTable) (c : Cursor) (fault : ProofFault) : Type 0 where
  in_end : IsFaultOfLine t (expected_number (codes "end")) c fault → IsFaultOfEnd t c fault
  after_end : (after : Cursor) → IsLine t (expected_number (codes "end")) c after → after.rest ≢ []
      → fault ≡ BadLine after.place → IsFaultOfEnd t c fault
