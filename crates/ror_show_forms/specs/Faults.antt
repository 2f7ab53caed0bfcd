-- The fault of a certificate: that of its first faulty word, in its first faulty line.
use Rattle.std.specs.Prelude.{◌⊎◌, ℕ, zero, suc, List, [], ◌∷◌, ◌++◌, map, drop, codes, decimal, length, ◌<◌, ◌^◌, Some, ◌≡◌}
use Rattle.std.specs.List.{AllByRecursion}
use Rattle.ror_text.specs.Cursor.{Cursor, line_words, line_after}
use Rattle.ror_table.specs.Table.{DecisionTable}
use Rattle.ror_proof.specs.declared.answer.Answer.{Answer}
use Rattle.ror_proof.specs.declared.read.ProofFault.{ProofFault}
use Rattle.ror_proof.specs.Expected.{Expected, IsFaultOfLine, IsFaultOfAnswer}
use Rattle.ror_proof.specs.Expected.Expected.{the_word, a_small_number, the_end}
use Rattle.ror_proof.specs.Laws.{IsAnswerText}

-- `reduct LINE PLACE` and as many numbers as words follow
abbrev pub expected_head : List (List ℕ) → List Expected
expected_head words =
    the_word (codes "reduct")
    ∷ a_small_number
    ∷ a_small_number
    ∷ (map (λ _. a_small_number) (drop 3 words) ++ the_end ∷ [])

-- the line that begins here says so, a line feed ends it, and the next one begins after it
pub record SaysHead (c : Cursor) (line place : ℕ) (numbers : List ℕ) (after : Cursor) : Type 0 where
  pub line_small : line < 2 ^ 32
  pub place_small : place < 2 ^ 32
  pub numbers_small : AllByRecursion (λ n. n < 2 ^ 32) numbers
  pub words : line_words c ≡ codes "reduct" ∷ decimal line ∷ decimal place ∷ map decimal numbers
  pub ended : line_after c ≡ Some after

-- the fault of the first faulty one among so many answers
abbrev pub IsFaultOfAnswers : DecisionTable → ℕ → Cursor → ProofFault → Type 0
IsFaultOfAnswers t zero c fault = ⊥
IsFaultOfAnswers t (suc count) c fault = IsFaultOfAnswer t c fault
    ⊎ ((x : Answer) × (after : Cursor) × IsAnswerText t c x after × IsFaultOfAnswers t count after fault)

-- the fault of the certificate that begins here: of the line that says which answer is meant, of the answer over the part, or of one
-- over all but one
pub data IsFaultOfCertificate (t : DecisionTable) (c : Cursor) (fault : ProofFault) : Type 0 where
  in_head : IsFaultOfLine t expected_head c fault → IsFaultOfCertificate t c fault
  in_answer : (line place : ℕ) (numbers : List ℕ) (answer : Cursor) → SaysHead c line place numbers answer
      → IsFaultOfAnswer t answer fault → IsFaultOfCertificate t c fault
  in_others : (line place : ℕ) (numbers : List ℕ) (answer others : Cursor) (x : Answer)
      → SaysHead c line place numbers answer → IsAnswerText t answer x others
      → IsFaultOfAnswers t (length numbers) others fault → IsFaultOfCertificate t c fault
