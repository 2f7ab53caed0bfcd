-- The fault of an entry: that of its first faulty word, in its first faulty line.
use Rattle.std.specs.Prelude.{◌≡◌, ℕ, List, [], ◌∷◌, map, codes, true, false, Bool}
use Rattle.std.specs.Str.{bytes_eq}
use Rattle.ror_text.specs.Cursor.{Cursor, line_words}
use Rattle.ror_text.specs.Lines.{word_at}
use Rattle.ror_table.specs.Table.{DecisionTable}
use Rattle.ror_proof.specs.declared.answer.Answer.{Answer}
use Rattle.ror_proof.specs.declared.read.ProofFault.{ProofFault}
use Rattle.ror_proof.specs.Expected.{Expected, IsLine, IsFaultOfLine, IsFaultOfAnswer}
use Rattle.ror_proof.specs.Expected.Expected.{the_word, one_of, an_id, a_small_number, the_end}
use Rattle.ror_proof.specs.Laws.{IsAnswerText}
use Rattle.ror_report.specs.Faults.{expected_number}
use Rattle.ror_spans.specs.declared.entry.Form.TheVariants as forms
use Rattle.ror_spans.specs.Reading.{begins_level}
use Rattle.ror_spans.specs.Text.{form_list, form_word}

-- the word after the ids is that of a span that is known
abbrev pub says_known : List (List ℕ) → Bool
says_known words = bytes_eq (word_at words 3) (form_word forms.Known)

-- `C necessary K possible P`, or `L`
abbrev pub expected_said : Bool → List Expected
expected_said true =
    a_small_number
    ∷ the_word (codes "necessary")
    ∷ a_small_number
    ∷ the_word (codes "possible")
    ∷ a_small_number
    ∷ the_end
    ∷ []
expected_said false = a_small_number ∷ the_end ∷ []

-- `pair A B contradictory C necessary K possible P`, or `pair A B wide L`
abbrev pub expected_pair : List (List ℕ) → List Expected
expected_pair words =
    the_word (codes "pair")
    ∷ an_id
    ∷ an_id
    ∷ one_of (map form_word form_list)
    ∷ expected_said (says_known words)

-- `level L`
abbrev pub expected_level : List (List ℕ) → List Expected
expected_level words = expected_number (codes "level") words

-- the fault of the first faulty line among those of levels and of their answers, of which each begins as the line of a level does
pub data IsFaultOfLevels (t : DecisionTable) (fault : ProofFault) : Cursor → Type 0 where
  this_level : (c : Cursor) → begins_level c.rest ≡ true → IsFaultOfLine t expected_level c fault
      → IsFaultOfLevels t fault c
  this_answer : (c answer : Cursor) → begins_level c.rest ≡ true
      → IsLine t expected_level c answer → IsFaultOfAnswer t answer fault
      → IsFaultOfLevels t fault c
  later_level : (c answer next : Cursor) (x : Answer) → begins_level c.rest ≡ true
      → IsLine t expected_level c answer → IsAnswerText t answer x next
      → IsFaultOfLevels t fault next → IsFaultOfLevels t fault c

-- the fault of the entry that begins here: of the line of the pair, or of what follows it
pub data IsFaultOfEntry (t : DecisionTable) (c : Cursor) (fault : ProofFault) : Type 0 where
  in_pair : IsFaultOfLine t expected_pair c fault → IsFaultOfEntry t c fault
  in_levels : (levels : Cursor) → IsLine t expected_pair c levels
      → says_known (line_words c) ≡ true → IsFaultOfLevels t fault levels
      → IsFaultOfEntry t c fault
  in_answer : (answer : Cursor) → IsLine t expected_pair c answer
      → says_known (line_words c) ≡ false → IsFaultOfAnswer t answer fault
      → IsFaultOfEntry t c fault
