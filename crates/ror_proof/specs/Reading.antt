-- Reading an answer, or a repair: what it is and where it ends, or the first fault.
use Rattle.std.specs.Prelude.{◌≡◌, ℕ, ◌≤◌, Bool, zero, suc, List, [], ◌∷◌, length, Option, Some, None, Result, Ok, Err, codes, nat_eq, if◌then◌else◌}
use Rattle.std.specs.List.{starts_with}
use Rattle.std.specs.Str.{bytes_eq}
use Rattle.ror_text.specs.Cursor.{Cursor, cursor_at, line_words, line_after}
use Rattle.ror_text.specs.Reading.{◌>>=◌, refuse, need}
use Rattle.ror_statement.specs.declared.question.Question.{Question}
use Rattle.ror_system.specs.declared.accept.Multipliers.{Multipliers}
use Rattle.ror_table.specs.Table.{DecisionTable}
use Rattle.ror_proof.specs.declared.answer.Answer.{Answer}
use Rattle.ror_proof.specs.declared.answer.Certificate.{Certificate}
use Rattle.ror_proof.specs.declared.answer.Certificate.TheVariants as certificates
use Rattle.ror_proof.specs.declared.answer.Part.{Part}
use Rattle.ror_proof.specs.declared.answer.PlaceText.{PlaceText}
use Rattle.ror_proof.specs.declared.answer.PlaceText.TheVariants as places
use Rattle.ror_proof.specs.declared.answer.Proof.{Proof}
use Rattle.ror_proof.specs.declared.answer.Verdict.{Verdict}
use Rattle.ror_proof.specs.declared.answer.Verdict.TheVariants as verdicts
use Rattle.ror_proof.specs.declared.answer.WideText.{WideText}
use Rattle.ror_proof.specs.declared.base.BaseLine.{BaseLine}
use Rattle.ror_proof.specs.declared.kept.Dropped.{Dropped}
use Rattle.ror_proof.specs.declared.kept.Kept.{Kept}
use Rattle.ror_proof.specs.declared.names.PlaceName.{PlaceName}
use Rattle.ror_proof.specs.declared.names.PlaceName.TheVariants as named
use Rattle.ror_proof.specs.declared.names.VerdictName.{VerdictName}
use Rattle.ror_proof.specs.declared.names.VerdictName.TheVariants as said
use Rattle.ror_proof.specs.declared.read.ProofFault.{ProofFault}
use Rattle.ror_proof.specs.declared.read.ProofFault.TheVariants as faults
use Rattle.ror_proof.specs.Names.{place_word, place_names, verdict_word, verdict_names}
use Rattle.ror_proof.specs.Questions.{question_at}
use Rattle.ror_proof.specs.Words.{first_word, after_word, name_at, no_more, small_number_at, the_number_at, numbers_at, numbers_before_bar, pivots_at}

-- the fault that an error names: none for want of memory
abbrev pub proof_fault : ProofFault → Option ProofFault
proof_fault faults.Memory = None
proof_fault fault = Some fault

-- the line of which an error speaks begins at a place or before it
abbrev pub IsProofFaultWithin : ℕ → ProofFault → Type 0
IsProofFaultWithin n (faults.BadLine at) = at ≤ n
IsProofFaultWithin n (faults.BadNumber at) = at ≤ n
IsProofFaultWithin n faults.Memory = Unit {0}

-- ---- the words of a line; the number is the place of the line's first byte

-- `solution` is before these words
unfoldable pub solution_at : ℕ → List (List ℕ) → Result Certificate ProofFault
solution_at place words = do
  steps ← numbers_at place words
  Ok (certificates.Solution (record { steps = steps }))

-- `multipliers` is before these words
unfoldable pub multipliers_at : ℕ → List (List ℕ) → Result Multipliers ProofFault
multipliers_at place words = do
  weak ← numbers_before_bar place words
  strict ← numbers_at place weak.1
  Ok (record { weak = weak.0; strict = strict })

-- `multipliers` and their numbers, up to the end of the line
unfoldable pub refutation_at : ℕ → List (List ℕ) → Result Multipliers ProofFault
refutation_at place words = do
  numbers ← after_word place (codes "multipliers") words
  multipliers_at place numbers

-- a certificate, up to the end of its line
unfoldable pub certificate_at : ℕ → List (List ℕ) → Result Certificate ProofFault
certificate_at place words = do
  form ← first_word place words
  if bytes_eq form.0 (codes "solution") then solution_at place form.1
      else (if bytes_eq form.0 (codes "multipliers") then (do
        multipliers ← multipliers_at place form.1
        Ok (certificates.Multipliers multipliers)) else Err (faults.BadLine place))

-- a row and a column
unfoldable pub entry_at : ℕ → List (List ℕ) → Result ((ℕ × ℕ) × List (List ℕ)) ProofFault
entry_at place words = do
  row ← small_number_at place words
  column ← small_number_at place row.1
  Ok ((row.0, column.0), column.1)

-- the number's place of this name, whose word is before these words
abbrev pub numbered_at : ℕ → PlaceName → List (List ℕ)
    → Result (PlaceText × List (List ℕ)) ProofFault
numbered_at place named.Start words = do
  entry ← entry_at place words
  Ok (places.Start entry.0.0 entry.0.1, entry.1)
numbered_at place named.Step words = do
  entry ← entry_at place words
  Ok (places.Step entry.0.0 entry.0.1, entry.1)
numbered_at place named.Denominator words = do
  row ← small_number_at place words
  Ok (places.Denominator row.0, row.1)
numbered_at place named.RowSum words = do
  row ← small_number_at place words
  Ok (places.RowSum row.0, row.1)
numbered_at place named.ColumnSum words = do
  column ← small_number_at place words
  Ok (places.ColumnSum column.0, column.1)

unfoldable pub place_at : ℕ → List (List ℕ) → Result (PlaceText × List (List ℕ)) ProofFault
place_at place words = do
  name ← name_at place_word place_names place words
  numbered_at place name.0 name.1

-- a place, `path` and pivots, up to the end of the line
unfoldable pub note_at : ℕ → List (List ℕ) → Result WideText ProofFault
note_at place words = do
  number ← place_at place words
  more ← after_word place (codes "path") number.1
  path ← pivots_at place more
  Ok (record { path = path; place = number.0 })

-- ---- the words of each line

unfoldable pub answer_words : DecisionTable → ℕ → List (List ℕ)
    → Result (Question × VerdictName) ProofFault
answer_words t place words = do
  more ← after_word place (codes "answer") words
  question ← question_at t place more
  verdict ← name_at verdict_word verdict_names place question.1
  _ ← no_more place verdict.1
  Ok (question.0, verdict.0)

unfoldable pub base_words : ℕ → List (List ℕ) → Result Certificate ProofFault
base_words place words = do
  more ← after_word place (codes "base") words
  certificate_at place more

unfoldable pub part_words : ℕ → List (List ℕ) → Result Part ProofFault
part_words place words = do
  more ← after_word place (codes "part") words
  at ← small_number_at place more
  certificate ← certificate_at place at.1
  Ok (record { at = at.0; body = certificate })

unfoldable pub wide_words : ℕ → List (List ℕ) → Result (ℕ × WideText) ProofFault
wide_words place words = do
  more ← after_word place (codes "wide") words
  system ← small_number_at place more
  note ← note_at place system.1
  Ok (system.0, note)

-- the same of this system
unfoldable pub wide_words_of : ℕ → ℕ → List (List ℕ) → Result WideText ProofFault
wide_words_of system place words = do
  more ← after_word place (codes "wide") words
  note ← the_number_at place system more
  note_at place note

unfoldable pub repaired_words : ℕ → List (List ℕ) → Result ℕ ProofFault
repaired_words place words = do
  more ← after_word place (codes "repaired") words
  count ← small_number_at place more
  _ ← no_more place count.1
  Ok count.0

unfoldable pub dropped_words : ℕ → List (List ℕ) → Result Dropped ProofFault
dropped_words place words = do
  more ← after_word place (codes "dropped") words
  number ← small_number_at place more
  proof ← refutation_at place number.1
  Ok (record { number = number.0; proof = proof })

-- ---- line by line

-- what was read of a line's words, where a line feed ends the line, and where the next one begins
unfoldable pub ended : {A : Type 0} → Cursor → Result A ProofFault
    → Result (A × Cursor) ProofFault
ended c reading = do
  value ← reading
  next ← need (faults.BadLine c.place) (line_after c)
  Ok (value, next)

abbrev pub answer_line : DecisionTable → Cursor
    → Result ((Question × VerdictName) × Cursor) ProofFault
answer_line t c = ended c (answer_words t c.place (line_words c))

abbrev pub base_line : Cursor → Result (Certificate × Cursor) ProofFault
base_line c = ended c (base_words c.place (line_words c))

abbrev pub part_line : Cursor → Result (Part × Cursor) ProofFault
part_line c = ended c (part_words c.place (line_words c))

abbrev pub wide_line : Cursor → Result ((ℕ × WideText) × Cursor) ProofFault
wide_line c = ended c (wide_words c.place (line_words c))

abbrev pub wide_line_of : ℕ → Cursor → Result (WideText × Cursor) ProofFault
wide_line_of system c = ended c (wide_words_of system c.place (line_words c))

abbrev pub repaired_line : Cursor → Result (ℕ × Cursor) ProofFault
repaired_line c = ended c (repaired_words c.place (line_words c))

abbrev pub dropped_line : Cursor → Result (Dropped × Cursor) ProofFault
dropped_line c = ended c (dropped_words c.place (line_words c))

-- ---- answers

abbrev pub begins_part : List ℕ → Bool
begins_part bytes = starts_with nat_eq bytes (codes "part ")

-- a line for each part, as long as one begins, and so many at most
unfoldable pub part_lines : ℕ → Cursor → Result (List Part × Cursor) ProofFault
part_lines zero c = Ok ([], c)
part_lines (suc most) c = if begins_part c.rest then (do
  first ← part_line c
  others ← part_lines most first.1
  Ok (first.0 ∷ others.0, others.1)) else Ok ([], c)

-- the base, and all parts: a line has a byte at least
unfoldable pub proof_at : Cursor → Result (Proof × Cursor) ProofFault
proof_at c = do
  base ← base_line c
  parts ← part_lines (length base.1.rest) base.1
  Ok (record { base = base.0; parts = parts.0 }, parts.1)

-- a number too wide; no part may follow
unfoldable pub wide_at : Cursor → Result (Verdict × Cursor) ProofFault
wide_at c = do
  wide ← wide_line c
  _ ← refuse (faults.BadLine wide.1.place) (begins_part wide.1.rest)
  Ok (verdicts.Wide wide.0.0 wide.0.1, wide.1)

-- what follows the line of the question, where its last word is this verdict's
abbrev pub verdict_at : VerdictName → Cursor → Result (Verdict × Cursor) ProofFault
verdict_at said.Yes c = do
  proof ← proof_at c
  Ok (verdicts.Yes proof.0, proof.1)
verdict_at said.No c = do
  proof ← proof_at c
  Ok (verdicts.No proof.0, proof.1)
verdict_at said.Contradiction c = do
  proof ← proof_at c
  Ok (verdicts.Contradiction proof.0, proof.1)
verdict_at said.Wide c = wide_at c

-- the line of the question and the verdict, and what follows it
unfoldable pub answer_at : DecisionTable → Cursor → Result (Answer × Cursor) ProofFault
answer_at t c = do
  head ← answer_line t c
  verdict ← verdict_at head.0.1 head.1
  Ok (record { question = head.0.0; verdict = verdict.0 }, verdict.1)

-- the certificate of the base system, where the verdict has a proof
abbrev pub base_of : Verdict → Option Certificate
base_of (verdicts.Yes proof) = Some proof.base
base_of (verdicts.No proof) = Some proof.base
base_of (verdicts.Contradiction proof) = Some proof.base
base_of (verdicts.Wide system note) = None

-- this line of the bytes is read as this base
pub record IsBaseLine (bytes : List ℕ) (line : BaseLine) (base : Certificate) : Type 0 where
  pub onward : line.from ≤ line.next
  pub within : line.next ≤ length bytes
  pub reads : base_line (cursor_at bytes line.from) ≡ Ok (base, cursor_at bytes line.next)

-- ---- repairs

-- so many lines of dropped statements
unfoldable pub dropped_lines : ℕ → Cursor → Result (List Dropped × Cursor) ProofFault
dropped_lines zero c = Ok ([], c)
dropped_lines (suc count) c = do
  first ← dropped_line c
  others ← dropped_lines count first.1
  Ok (first.0 ∷ others.0, others.1)

-- how many statements are dropped, as many lines, and the base
unfoldable pub kept_at : Cursor → Result (Kept × Cursor) ProofFault
kept_at c = do
  count ← repaired_line c
  dropped ← dropped_lines count.0 count.1
  base ← base_line dropped.1
  Ok (record { dropped = dropped.0; base = base.0 }, base.1)
