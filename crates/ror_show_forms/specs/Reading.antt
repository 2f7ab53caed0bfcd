-- Reading a certificate: what it is and where it ends, or the first fault.
use Rattle.std.specs.Prelude.{ℕ, zero, suc, List, [], ◌∷◌, length, Result, Ok, codes}
use Rattle.ror_text.specs.Cursor.{Cursor, line_words}
use Rattle.ror_text.specs.Numbers.{small_number_of}
use Rattle.ror_text.specs.Reading.{◌>>=◌}
use Rattle.ror_table.specs.Table.{DecisionTable}
use Rattle.ror_proof.specs.declared.answer.Answer.{Answer}
use Rattle.ror_proof.specs.declared.read.ProofFault.{ProofFault}
use Rattle.ror_proof.specs.Reading.{answer_at, ended}
use Rattle.ror_proof.specs.Words.{after_word, all_at, number_in, small_number_at}
use Rattle.ror_show_forms.specs.declared.certificate.Certificate.{Certificate}

-- every word is a small number
abbrev pub small_numbers_at : ℕ → List (List ℕ) → Result (List ℕ) ProofFault
small_numbers_at place words = all_at (number_in small_number_of place) words

-- the words of the line that says which answer is meant: the number of the session's line, the place of the answer, the numbers
unfoldable pub head_words : ℕ → List (List ℕ) → Result (ℕ × ℕ × List ℕ) ProofFault
head_words place words = do
  more ← after_word place (codes "reduct") words
  line ← small_number_at place more
  at ← small_number_at place line.1
  numbers ← small_numbers_at place at.1
  Ok (line.0, at.0, numbers)

-- that line, and where the next one begins
abbrev pub head_line : Cursor → Result ((ℕ × ℕ × List ℕ) × Cursor) ProofFault
head_line c = ended c (head_words c.place (line_words c))

-- so many answers
unfoldable pub answers_at : DecisionTable → ℕ → Cursor → Result (List Answer × Cursor) ProofFault
answers_at t zero c = Ok ([], c)
answers_at t (suc count) c = do
  first ← answer_at t c
  others ← answers_at t count first.1
  Ok (first.0 ∷ others.0, others.1)

abbrev pub certificate_of : ℕ × ℕ × List ℕ → Answer → List Answer → Certificate
certificate_of head answer others = record {
  line = head.0;
  place = head.1;
  reduct = record { numbers = head.2; answer = answer; others = others };
}

-- that line, the answer over the part, and one more for each number
unfoldable pub certificate_at : DecisionTable → Cursor → Result (Certificate × Cursor) ProofFault
certificate_at t c = do
  head ← head_line c
  answer ← answer_at t head.1
  others ← answers_at t (length head.0.2) answer.1
  Ok (certificate_of head.0 answer.0 others.0, others.1)
