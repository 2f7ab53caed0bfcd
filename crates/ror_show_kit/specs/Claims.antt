-- What an answer says of value functions, in a sentence.
use Rattle.std.specs.Prelude.{ℕ, Bool, true, false, not, List, [], ◌++◌, codes, decimal}
use Rattle.ror_table.specs.Table.{DecisionTable, id_of}
use Rattle.ror_statement.specs.declared.comparison.Pair.{Pair}
use Rattle.ror_statement.specs.declared.comparison.Scope.{Scope}
use Rattle.ror_statement.specs.declared.comparison.Relation.{Relation}
use Rattle.ror_statement.specs.declared.comparison.Relation.TheVariants as relations
use Rattle.ror_statement.specs.declared.comparison.Form.{Form}
use Rattle.ror_statement.specs.declared.comparison.Form.TheVariants.{Value, Strength}
use Rattle.ror_statement.specs.declared.question.QuestionKind.{QuestionKind}
use Rattle.ror_statement.specs.declared.question.QuestionKind.TheVariants.{Plain, Any, Every}
use Rattle.ror_statement.specs.declared.question.Property.{Property}
use Rattle.ror_statement.specs.declared.question.Property.TheVariants as property
use Rattle.ror_statement.specs.declared.question.Question.{Question}
use Rattle.ror_statement.specs.Questions.{kind_of, property_of}
use Rattle.ror_rows.specs.Rows.{turned}
use Rattle.ror_proof.specs.declared.answer.Verdict.{Verdict}
use Rattle.ror_proof.specs.Names.{question_name, question_word, verdict_name, verdict_word}
use Rattle.ror_show_kit.specs.Spoken.{on_text, one_line, scope_id, spoken_ids}
use Rattle.ror_show_kit.specs.Words.{word, number}

-- ---- how one quantity stands to another

abbrev pub value_verb : Relation → List ℕ
value_verb relations.Above = codes " is better than "
value_verb relations.AtLeast = codes " is at least as good as "
value_verb relations.Equal = codes " is as good as "

abbrev pub strength_verb : Relation → List ℕ
strength_verb relations.Above = codes " more strongly than "
strength_verb relations.AtLeast = codes " at least as strongly as "
strength_verb relations.Equal = codes " as strongly as "

abbrev pub values_claim : DecisionTable → Relation → ℕ → ℕ → List ℕ
values_claim t r a b = id_of t a ++ value_verb r ++ id_of t b

-- a pair's preference
abbrev pub preference : DecisionTable → Pair → List ℕ
preference t p = id_of t p.first ++ codes " is preferred to " ++ id_of t p.second

-- the pair that it is set against
abbrev pub against : DecisionTable → Pair → List ℕ
against t q = id_of t q.first ++ codes " to " ++ id_of t q.second

abbrev pub strengths_claim : DecisionTable → Relation → Pair → Pair → Scope → List ℕ
strengths_claim t r p q s = preference t p ++ strength_verb r ++ against t q ++ on_text (codes " ") (scope_id t s)

abbrev pub form_claim : DecisionTable → Relation → Form → List ℕ
form_claim t r (Value a b) = values_claim t r a b
form_claim t r (Strength p q s) = strengths_claim t r p q s

-- ---- what a value function has, or lacks

abbrev pub class_verb : Bool → List ℕ
class_verb true = codes " may belong to class "
class_verb false = codes " can't belong to class "

-- the function has the first quantity at least as great as the second, or it has the second greater
abbrev pub form_sentence : DecisionTable → Bool → Form → List ℕ
form_sentence t true f = form_claim t relations.AtLeast f
form_sentence t false f = form_claim t relations.Above (turned f)

abbrev pub property_sentence : DecisionTable → Bool → Property → List ℕ
property_sentence t has property.Compatible = []
property_sentence t has (property.AtLeast f) = form_sentence t has f
property_sentence t has (property.InClass a h) = id_of t a ++ class_verb has ++ decimal h

abbrev pub is_every : QuestionKind → Bool
is_every Every = true
is_every Any = false
is_every Plain = false

-- what holds of all functions where statements carry the answer: that they have what is asked of every one, or that they lack
-- what is asked of some one
abbrev pub claim_of : DecisionTable → Question → List ℕ
claim_of t q = property_sentence t (is_every (kind_of q)) (property_of q)

-- what one function says against that
abbrev pub counter_of : DecisionTable → Question → List ℕ
counter_of t q = property_sentence t (not (is_every (kind_of q))) (property_of q)

-- ---- the question and its verdict

abbrev pub form_ids : DecisionTable → Form → List ℕ
form_ids t f = one_line (spoken_ids t [] f)

abbrev pub property_ids : DecisionTable → Property → List ℕ
property_ids t property.Compatible = []
property_ids t (property.AtLeast f) = form_ids t f
property_ids t (property.InClass a h) = word (id_of t a) ++ number h

abbrev pub asked_text : DecisionTable → Question → Verdict → List ℕ
asked_text t q v = question_word (question_name q) ++ property_ids t (property_of q) ++ word (verdict_word (verdict_name v))
