-- Reading an entry: what it is and where it ends, or the first fault.
use Rattle.std.specs.Prelude.{ℕ, zero, suc, Bool, List, [], ◌∷◌, length, Result, Ok, codes, nat_eq, if◌then◌else◌}
use Rattle.std.specs.List.{starts_with}
use Rattle.ror_text.specs.Cursor.{Cursor, line_words}
use Rattle.ror_text.specs.Reading.{◌>>=◌}
use Rattle.ror_table.specs.Table.{DecisionTable}
use Rattle.ror_proof.specs.declared.read.ProofFault.{ProofFault}
use Rattle.ror_proof.specs.Questions.{alternative_at}
use Rattle.ror_proof.specs.Reading.{answer_at, ended}
use Rattle.ror_proof.specs.Words.{after_word, name_at, no_more, small_number_at}
use Rattle.ror_report.specs.Reading.{numbered_line}
use Rattle.ror_confidence.specs.declared.span.LevelAnswer.{LevelAnswer}
use Rattle.ror_spans.specs.declared.entry.Entry.{Entry}
use Rattle.ror_spans.specs.declared.entry.Entry.TheVariants as entries
use Rattle.ror_spans.specs.declared.entry.Form.{Form}
use Rattle.ror_spans.specs.declared.entry.Form.TheVariants as forms
use Rattle.ror_spans.specs.declared.read.Said.{Said}
use Rattle.ror_spans.specs.declared.read.Said.TheVariants as said
use Rattle.ror_spans.specs.declared.read.Head.{Head}
use Rattle.ror_spans.specs.Text.{form_list, form_word}

-- the words after `contradictory` or `wide` in the line of a pair
unfoldable pub said_words : Form → ℕ → List (List ℕ) → Result Said ProofFault
said_words forms.Known place words = do
  contradictory ← small_number_at place words
  more ← after_word place (codes "necessary") contradictory.1
  necessary ← small_number_at place more
  rest ← after_word place (codes "possible") necessary.1
  possible ← small_number_at place rest
  _ ← no_more place possible.1
  Ok (said.Known contradictory.0 necessary.0 possible.0)
said_words forms.Wide place words = do
  level ← small_number_at place words
  _ ← no_more place level.1
  Ok (said.Wide level.0)

-- the words of the line of a pair
unfoldable pub pair_words : DecisionTable → ℕ → List (List ℕ) → Result Head ProofFault
pair_words t place words = do
  more ← after_word place (codes "pair") words
  first ← alternative_at t place more
  second ← alternative_at t place first.1
  form ← name_at form_word form_list place second.1
  says ← said_words form.0 place form.1
  Ok (record { first = first.0; second = second.0; said = says })

-- that line, and where the next one begins
abbrev pub pair_line : DecisionTable → Cursor → Result (Head × Cursor) ProofFault
pair_line t c = ended c (pair_words t c.place (line_words c))

-- the line of a level
abbrev pub level_line : Cursor → Result (ℕ × Cursor) ProofFault
level_line c = numbered_line (codes "level") c

-- that line, and the answer after it
unfoldable pub level_answer_at : DecisionTable → Cursor
    → Result (LevelAnswer × Cursor) ProofFault
level_answer_at t c = do
  level ← level_line c
  answer ← answer_at t level.1
  Ok (record { level = level.0; answer = answer.0 }, answer.1)

abbrev pub begins_level : List ℕ → Bool
begins_level bytes = starts_with nat_eq bytes (codes "level ")

-- the answers of a span go on as long as the line of a level begins; and so many at most
unfoldable pub level_answers_at : DecisionTable → ℕ → Cursor
    → Result (List LevelAnswer × Cursor) ProofFault
level_answers_at t zero c = Ok ([], c)
level_answers_at t (suc most) c = if begins_level c.rest then (do
  first ← level_answer_at t c
  others ← level_answers_at t most first.1
  Ok (first.0 ∷ others.0, others.1)) else Ok ([], c)

-- what follows the line of a pair: all answers of the proof, where an answer has a byte at least, or the one that is too wide
unfoldable pub body_at : DecisionTable → ℕ → ℕ → Said → Cursor
    → Result (Entry × Cursor) ProofFault
body_at t first second (said.Known contradictory necessary possible) c = do
  answers ← level_answers_at t (length c.rest) c
  Ok (
    entries.Known first second (record {
      contradictory = contradictory;
      necessary = necessary;
      possible = possible;
      proof = answers.0;
    }),
    answers.1,
  )
body_at t first second (said.Wide level) c = do
  answer ← answer_at t c
  Ok (entries.Wide first second (record { level = level; answer = answer.0 }), answer.1)

-- the line of the pair, and what follows it
unfoldable pub entry_at : DecisionTable → Cursor → Result (Entry × Cursor) ProofFault
entry_at t c = do
  head ← pair_line t c
  body_at t head.0.first head.0.second head.0.said head.1
