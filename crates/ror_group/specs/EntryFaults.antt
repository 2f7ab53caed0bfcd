-- The fault of an entry: that of its first faulty word, in its first faulty line.
use Rattle.std.specs.Prelude.{ℕ, List, [], ◌∷◌, map, codes}
use Rattle.ror_text.specs.Cursor.{Cursor}
use Rattle.ror_table.specs.Table.{DecisionTable}
use Rattle.ror_proof.specs.declared.read.ProofFault.{ProofFault}
use Rattle.ror_proof.specs.Expected.{Expected, IsLine, IsFaultOfLine}
use Rattle.ror_proof.specs.Expected.Expected.{the_word, one_of, an_id, the_end}
use Rattle.ror_report.specs.Faults.{AreAnswerTexts, IsFaultOfAnswers}
use Rattle.ror_group.specs.Reading.{ends_answers}
use Rattle.ror_group.specs.Text.{group_word, group_words}

-- `pair A B`
abbrev pub expected_pair : List (List ℕ) → List Expected
expected_pair words = the_word (codes "pair") ∷ an_id ∷ an_id ∷ the_end ∷ []

abbrev pub a_group_word : Expected
a_group_word = one_of (map group_word group_words)

-- `group W W W W`
abbrev pub expected_group : List (List ℕ) → List Expected
expected_group words =
    the_word (codes "group")
    ∷ a_group_word
    ∷ a_group_word
    ∷ a_group_word
    ∷ a_group_word
    ∷ the_end
    ∷ []

-- the fault of the entry that begins here: of the line that names the pair, of an answer, or of the line of the words
pub data IsFaultOfEntry (t : DecisionTable) (c : Cursor) (fault : ProofFault) : Type 0 where
  in_pair : IsFaultOfLine t expected_pair c fault → IsFaultOfEntry t c fault
  in_answers : (answers : Cursor) → IsLine t expected_pair c answers
      → IsFaultOfAnswers ends_answers t fault answers → IsFaultOfEntry t c fault
  in_group : (answers group : Cursor) → IsLine t expected_pair c answers
      → AreAnswerTexts ends_answers t group answers → IsFaultOfLine t expected_group group fault
      → IsFaultOfEntry t c fault
