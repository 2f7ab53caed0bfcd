-- Reading an entry: what it is and where it ends, or the first fault.
use Rattle.std.specs.Prelude.{ℕ, Bool, ◌||◌, List, length, Result, Ok, codes, nat_eq, ◌==◌}
use Rattle.std.specs.List.{starts_with}
use Rattle.ror_text.specs.Cursor.{Cursor, line_words}
use Rattle.ror_text.specs.Reading.{◌>>=◌}
use Rattle.ror_table.specs.Table.{DecisionTable}
use Rattle.ror_proof.specs.declared.answer.Answer.{Answer}
use Rattle.ror_proof.specs.declared.read.ProofFault.{ProofFault}
use Rattle.ror_proof.specs.Questions.{alternative_at}
use Rattle.ror_proof.specs.Reading.{ended}
use Rattle.ror_proof.specs.Words.{after_word, name_at, no_more}
use Rattle.ror_report.specs.Reading.{answers_until}
use Rattle.ror_group.specs.declared.entry.Entry.{Entry}
use Rattle.ror_group.specs.declared.quartet.Quartet.{Quartet}
use Rattle.ror_group.specs.Text.{group_word, group_words}

-- the words of the line that names the pair
unfoldable pub pair_words : DecisionTable → ℕ → List (List ℕ) → Result (ℕ × ℕ) ProofFault
pair_words t place words = do
  more ← after_word place (codes "pair") words
  first ← alternative_at t place more
  second ← alternative_at t place first.1
  _ ← no_more place second.1
  Ok (first.0, second.0)

-- that line, and where the next one begins
abbrev pub pair_line : DecisionTable → Cursor → Result ((ℕ × ℕ) × Cursor) ProofFault
pair_line t c = ended c (pair_words t c.place (line_words c))

-- the words of the line of the four words
unfoldable pub quartet_words : ℕ → List (List ℕ) → Result Quartet ProofFault
quartet_words place words = do
  more ← after_word place (codes "group") words
  one ← name_at group_word group_words place more
  two ← name_at group_word group_words place one.1
  three ← name_at group_word group_words place two.1
  four ← name_at group_word group_words place three.1
  _ ← no_more place four.1
  Ok (record {
    necessary_for_every = one.0;
    necessary_for_some = two.0;
    possible_for_every = three.0;
    possible_for_some = four.0;
  })

-- that line, and where the next one begins
abbrev pub quartet_line : Cursor → Result (Quartet × Cursor) ProofFault
quartet_line c = ended c (quartet_words c.place (line_words c))

abbrev pub begins_group : List ℕ → Bool
begins_group bytes = starts_with nat_eq bytes (codes "group ")

-- the answers of an entry go up to the line of the words, or to the end of the bytes
abbrev pub ends_answers : List ℕ → Bool
ends_answers bytes = length bytes == 0 || begins_group bytes

-- these answers, and so many at most
abbrev pub entry_answers : DecisionTable → ℕ → Cursor → Result (List Answer × Cursor) ProofFault
entry_answers t most c = answers_until ends_answers t most c

-- the line that names the pair, all answers up to the line of the words, and that line: an answer has a byte at least
unfoldable pub entry_at : DecisionTable → Cursor → Result (Entry × Cursor) ProofFault
entry_at t c = do
  pair ← pair_line t c
  answers ← entry_answers t (length pair.1.rest) pair.1
  quartet ← quartet_line answers.1
  Ok (
    record {
      first = pair.0.0;
      second = pair.0.1;
      answers = answers.0;
      quartet = quartet.0;
    },
    quartet.1,
  )
