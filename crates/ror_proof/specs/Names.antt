-- The words that stand for one of several things: forms of questions, verdicts, places.
use Rattle.std.specs.Prelude.{ℕ, List, [], ◌∷◌, Option, Some, None, codes, if◌then◌else◌}
use Rattle.std.specs.Str.{bytes_eq}
use Rattle.ror_statement.specs.declared.question.Question.{Question}
use Rattle.ror_statement.specs.declared.question.Question.TheVariants as questions
use Rattle.ror_proof.specs.declared.answer.PlaceText.{PlaceText}
use Rattle.ror_proof.specs.declared.answer.PlaceText.TheVariants as places
use Rattle.ror_proof.specs.declared.answer.Verdict.{Verdict}
use Rattle.ror_proof.specs.declared.answer.Verdict.TheVariants as verdicts
use Rattle.ror_proof.specs.declared.names.QuestionName.{QuestionName}
use Rattle.ror_proof.specs.declared.names.QuestionName.TheVariants as asked
use Rattle.ror_proof.specs.declared.names.VerdictName.{VerdictName}
use Rattle.ror_proof.specs.declared.names.VerdictName.TheVariants as said
use Rattle.ror_proof.specs.declared.names.PlaceName.{PlaceName}
use Rattle.ror_proof.specs.declared.names.PlaceName.TheVariants as named

-- the first of these whose word this is, if there is one
abbrev pub name_of : {N : Type 0} → (N → List ℕ) → List N → List ℕ → Option N
name_of word_of [] word = None
name_of word_of (name ∷ names) word =
    if bytes_eq word (word_of name) then Some name else name_of word_of names word

-- ---- questions

abbrev pub question_word : QuestionName → List ℕ
question_word asked.Consistent = codes "consistent"
question_word asked.Necessary = codes "necessary"
question_word asked.Possible = codes "possible"
question_word asked.PossibleClass = codes "possible-class"
question_word asked.NecessaryClass = codes "necessary-class"

abbrev pub question_names : List QuestionName
question_names =
    asked.Consistent ∷ asked.Necessary ∷ asked.Possible ∷ asked.PossibleClass ∷ asked.NecessaryClass
    ∷ []

abbrev pub question_name : Question → QuestionName
question_name questions.Consistent = asked.Consistent
question_name (questions.Necessary a b) = asked.Necessary
question_name (questions.Possible a b) = asked.Possible
question_name (questions.NecessaryStrength p q s) = asked.Necessary
question_name (questions.PossibleStrength p q s) = asked.Possible
question_name (questions.PossibleClass a h) = asked.PossibleClass
question_name (questions.NecessaryClass a h) = asked.NecessaryClass

-- ---- verdicts

abbrev pub verdict_word : VerdictName → List ℕ
verdict_word said.Yes = codes "yes"
verdict_word said.No = codes "no"
verdict_word said.Contradiction = codes "contradiction"
verdict_word said.Wide = codes "wide"

abbrev pub verdict_names : List VerdictName
verdict_names = said.Yes ∷ said.No ∷ said.Contradiction ∷ said.Wide ∷ []

abbrev pub verdict_name : Verdict → VerdictName
verdict_name (verdicts.Yes proof) = said.Yes
verdict_name (verdicts.No proof) = said.No
verdict_name (verdicts.Contradiction proof) = said.Contradiction
verdict_name (verdicts.Wide system note) = said.Wide

-- ---- places

abbrev pub place_word : PlaceName → List ℕ
place_word named.Start = codes "start"
place_word named.Step = codes "step"
place_word named.Denominator = codes "denominator"
place_word named.RowSum = codes "rowsum"
place_word named.ColumnSum = codes "columnsum"

abbrev pub place_names : List PlaceName
place_names =
    named.Start ∷ named.Step ∷ named.Denominator ∷ named.RowSum ∷ named.ColumnSum ∷ []

abbrev pub place_name : PlaceText → PlaceName
place_name (places.Start row column) = named.Start
place_name (places.Step row column) = named.Step
place_name (places.Denominator row) = named.Denominator
place_name (places.RowSum row) = named.RowSum
place_name (places.ColumnSum column) = named.ColumnSum
