-- Reading a report piece by piece: its first line, a block and where it ends, its last line; or the
-- first fault.
use Rattle.std.specs.Prelude.{ℕ, zero, suc, Bool, not, ◌||◌, List, [], ◌∷◌, length, Option, Some, None, Result, Ok, codes, nat_eq, ◌==◌, if◌then◌else◌}
use Rattle.std.specs.List.{starts_with}
use Rattle.ror_text.specs.Reading.{◌>>=◌, refuse}
use Rattle.ror_table.specs.Table.{DecisionTable}
use Rattle.ror_text.specs.Cursor.{Cursor, line_words}
use Rattle.ror_proof.specs.Words.{after_word, first_named, name_at, no_more, small_number_at}
use Rattle.ror_proof.specs.Reading.{answer_at, ended, kept_at, wide_line_of}
use Rattle.ror_proof.specs.declared.answer.Answer.{Answer}
use Rattle.ror_proof.specs.declared.read.ProofFault.{ProofFault}
use Rattle.ror_proof.specs.declared.read.ProofFault.TheVariants as faults
use Rattle.ror_report.specs.declared.block.Block.{Block}
use Rattle.ror_report.specs.declared.block.Body.{Body}
use Rattle.ror_report.specs.declared.block.Body.TheVariants.{Added, Withdrawn, Replaced, Undone, Repaired, RepairWide, Answers, Refused}
use Rattle.ror_report.specs.declared.names.BodyForm.{BodyForm}
use Rattle.ror_report.specs.declared.names.BodyForm.TheVariants as bodies
use Rattle.ror_report.specs.declared.names.LineForm.{LineForm}
use Rattle.ror_report.specs.declared.names.LineForm.TheVariants as forms
use Rattle.ror_report.specs.Names.{form_word, body_word, body_forms, fault_word, line_faults}
use Rattle.ror_report.specs.Text.{header_text}

-- the place after the first line, where it is the one that a report begins with
abbrev pub header_at : List ℕ → Option ℕ
header_at bytes = if starts_with nat_eq bytes header_text then Some (length header_text) else None

-- the words of a line of a name and a small number
unfoldable pub number_words : List ℕ → ℕ → List (List ℕ) → Result ℕ ProofFault
number_words name place words = do
  more ← after_word place name words
  number ← small_number_at place more
  _ ← no_more place number.1
  Ok number.0

-- the line of a name and a small number: the number, and where the next line begins
abbrev pub numbered_line : List ℕ → Cursor → Result (ℕ × Cursor) ProofFault
numbered_line name c = ended c (number_words name c.place (line_words c))

abbrev pub begins_block : List ℕ → Bool
begins_block bytes = starts_with nat_eq bytes (codes "line ")

abbrev pub begins_end : List ℕ → Bool
begins_end bytes = starts_with nat_eq bytes (codes "end ")

-- a body goes up to the next block, to the last line, or to the end of the bytes
abbrev pub ends_body : List ℕ → Bool
ends_body bytes = length bytes == 0 || begins_block bytes || begins_end bytes

-- the answers up to bytes at which they end, and so many at most
unfoldable pub answers_until : (List ℕ → Bool) → DecisionTable → ℕ → Cursor
    → Result (List Answer × Cursor) ProofFault
answers_until ends t zero c = Ok ([], c)
answers_until ends t (suc most) c = if ends c.rest then Ok ([], c) else (do
  first ← answer_at t c
  others ← answers_until ends t most first.1
  Ok (first.0 ∷ others.0, others.1))

-- the answers of a body, and so many at most
abbrev pub body_answers : DecisionTable → ℕ → Cursor → Result (List Answer × Cursor) ProofFault
body_answers t most c = answers_until ends_body t most c

-- what follows the first word of a body of one line of this form
abbrev pub operand_at : LineForm → ℕ → List (List ℕ) → Result (Body × List (List ℕ)) ProofFault
operand_at forms.Added place words = do
  number ← small_number_at place words
  Ok (Added number.0, number.1)
operand_at forms.Withdrawn place words = do
  number ← small_number_at place words
  Ok (Withdrawn number.0, number.1)
operand_at forms.Replaced place words = do
  number ← small_number_at place words
  Ok (Replaced number.0, number.1)
operand_at forms.Undone place words = Ok (Undone, words)
operand_at forms.Refused place words = do
  fault ← name_at fault_word line_faults place words
  Ok (Refused fault.0, fault.1)

-- the words of a body of one line of this form
unfoldable pub form_words : LineForm → ℕ → List (List ℕ) → Result Body ProofFault
form_words form place words = do
  more ← after_word place (form_word form) words
  body ← operand_at form place more
  _ ← no_more place body.1
  Ok body.0

-- the line of a body of this form, and where the next line begins
abbrev pub form_line : LineForm → Cursor → Result (Body × Cursor) ProofFault
form_line form c = ended c (form_words form c.place (line_words c))

-- the lines of a repair
unfoldable pub repaired_lines : Cursor → Result (Body × Cursor) ProofFault
repaired_lines c = do
  kept ← kept_at c
  Ok (Repaired kept.0, kept.1)

-- the line with the number of the statement at which a repair is too wide, and the wide line of its
-- base system
unfoldable pub repair_wide_lines : Cursor → Result (Body × Cursor) ProofFault
repair_wide_lines c = do
  number ← numbered_line (body_word bodies.RepairWide) c
  note ← wide_line_of 0 number.1
  Ok (RepairWide number.0 note.0, note.1)

-- the lines of a body of this form, and where the next line begins
abbrev pub form_lines : BodyForm → Cursor → Result (Body × Cursor) ProofFault
form_lines (bodies.OneLine form) c = form_line form c
form_lines bodies.Repaired c = repaired_lines c
form_lines bodies.RepairWide c = repair_wide_lines c

-- these, behind which the body ends
unfoldable pub formed_at : BodyForm → Cursor → Result (Body × Cursor) ProofFault
formed_at form c = do
  body ← form_lines form c
  _ ← refuse (faults.BadLine body.1.place) (not (ends_body body.1.rest))
  Ok body

-- all answers up to the body's end: an answer has a byte at least
unfoldable pub answers_at : DecisionTable → Cursor → Result (Body × Cursor) ProofFault
answers_at t c = do
  answers ← body_answers t (length c.rest) c
  Ok (Answers answers.0, answers.1)

-- the form for which the first of these words stands
abbrev pub form_of : List (List ℕ) → Option BodyForm
form_of words = first_named body_word body_forms words

-- a body of a form, or answers
abbrev pub body_of : DecisionTable → Option BodyForm → Cursor → Result (Body × Cursor) ProofFault
body_of t (Some form) c = formed_at form c
body_of t None c = answers_at t c

-- a body: the first word of its first line decides the form
unfoldable pub body_at : DecisionTable → Cursor → Result (Body × Cursor) ProofFault
body_at t c = body_of t (form_of (line_words c)) c

-- the line that names the session's line, and the body
unfoldable pub block_at : DecisionTable → Cursor → Result (Block × Cursor) ProofFault
block_at t c = do
  line ← numbered_line (codes "line") c
  body ← body_at t line.1
  Ok (record { line = line.0; body = body.0 }, body.1)

-- the line with the number of blocks, and nothing after it
unfoldable pub end_at : Cursor → Result ℕ ProofFault
end_at c = do
  end ← numbered_line (codes "end") c
  _ ← refuse (faults.BadLine end.1.place) (not (length end.1.rest == 0))
  Ok end.0
