-- Reading the words of a question: the question and the words after it, or the first fault.
use Rattle.std.specs.Prelude.{ℕ, List, length, Result, Ok, codes, nat_le, if◌then◌else◌}
use Rattle.ror_text.specs.Reading.{◌>>=◌, need}
use Rattle.ror_statement.specs.declared.comparison.Scope.{Scope}
use Rattle.ror_statement.specs.declared.comparison.Scope.TheVariants.{Whole, One}
use Rattle.ror_statement.specs.declared.comparison.Pair.{Pair}
use Rattle.ror_statement.specs.declared.comparison.Form.{Form}
use Rattle.ror_statement.specs.declared.comparison.Form.TheVariants.{Value, Strength}
use Rattle.ror_statement.specs.declared.question.Question.{Question}
use Rattle.ror_statement.specs.declared.question.Question.TheVariants as questions
use Rattle.ror_table.specs.Table.{DecisionTable, alternative_named, criterion_named}
use Rattle.ror_proof.specs.declared.names.QuestionName.{QuestionName}
use Rattle.ror_proof.specs.declared.names.QuestionName.TheVariants as asked
use Rattle.ror_proof.specs.declared.read.ProofFault.{ProofFault}
use Rattle.ror_proof.specs.declared.read.ProofFault.TheVariants.{BadLine}
use Rattle.ror_proof.specs.Names.{question_word, question_names}
use Rattle.ror_proof.specs.Words.{first_word, after_word, name_at, small_number_at}

-- In each definition the number is the place of the first byte of the line whose words are read,
-- and the words are all that are left of the line: the last of them is to be the verdict.

-- the alternative whose id comes first
unfoldable pub alternative_at : DecisionTable → ℕ → List (List ℕ)
    → Result (ℕ × List (List ℕ)) ProofFault
alternative_at t place words = do
  id ← first_word place words
  alternative ← need (BadLine place) (alternative_named t id.0)
  Ok (alternative, id.1)

-- the criterion whose id comes first
unfoldable pub criterion_at : DecisionTable → ℕ → List (List ℕ)
    → Result (ℕ × List (List ℕ)) ProofFault
criterion_at t place words = do
  id ← first_word place words
  criterion ← need (BadLine place) (criterion_named t id.0)
  Ok (criterion, id.1)

unfoldable pub pair_at : DecisionTable → ℕ → List (List ℕ)
    → Result (Pair × List (List ℕ)) ProofFault
pair_at t place words = do
  first ← alternative_at t place words
  second ← alternative_at t place first.1
  Ok (record { first = first.0; second = second.0 }, second.1)

-- `on` and a criterion, where more than the verdict is left
unfoldable pub scope_at : DecisionTable → ℕ → List (List ℕ)
    → Result (Scope × List (List ℕ)) ProofFault
scope_at t place words = if nat_le (length words) 1 then Ok (Whole, words) else (do
  more ← after_word place (codes "on") words
  criterion ← criterion_at t place more
  Ok (One criterion.0, criterion.1))

-- a pair is before these words
unfoldable pub strength_at : DecisionTable → ℕ → Pair → List (List ℕ)
    → Result (Form × List (List ℕ)) ProofFault
strength_at t place first words = do
  second ← pair_at t place words
  scope ← scope_at t place second.1
  Ok (Strength first second.0 scope.0, scope.1)

-- two alternatives; two pairs of them, where more than the verdict is left
unfoldable pub form_at : DecisionTable → ℕ → List (List ℕ)
    → Result (Form × List (List ℕ)) ProofFault
form_at t place words = do
  first ← pair_at t place words
  if nat_le (length first.1) 1 then Ok (Value first.0.first first.0.second, first.1)
      else strength_at t place first.0 first.1

-- an alternative and a class
unfoldable pub class_at : DecisionTable → ℕ → List (List ℕ)
    → Result ((ℕ × ℕ) × List (List ℕ)) ProofFault
class_at t place words = do
  alternative ← alternative_at t place words
  class ← small_number_at place alternative.1
  Ok ((alternative.0, class.0), class.1)

abbrev pub necessary : Form → Question
necessary (Value a b) = questions.Necessary a b
necessary (Strength p q s) = questions.NecessaryStrength p q s

abbrev pub possible : Form → Question
possible (Value a b) = questions.Possible a b
possible (Strength p q s) = questions.PossibleStrength p q s

-- the question of this name, whose word is before these words
abbrev pub asked_at : DecisionTable → ℕ → QuestionName → List (List ℕ)
    → Result (Question × List (List ℕ)) ProofFault
asked_at t place asked.Consistent words = Ok (questions.Consistent, words)
asked_at t place asked.Necessary words = do
  form ← form_at t place words
  Ok (necessary form.0, form.1)
asked_at t place asked.Possible words = do
  form ← form_at t place words
  Ok (possible form.0, form.1)
asked_at t place asked.PossibleClass words = do
  class ← class_at t place words
  Ok (questions.PossibleClass class.0.0 class.0.1, class.1)
asked_at t place asked.NecessaryClass words = do
  class ← class_at t place words
  Ok (questions.NecessaryClass class.0.0 class.0.1, class.1)

unfoldable pub question_at : DecisionTable → ℕ → List (List ℕ)
    → Result (Question × List (List ℕ)) ProofFault
question_at t place words = do
  name ← name_at question_word question_names place words
  asked_at t place name.0 name.1
