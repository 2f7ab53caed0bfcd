-- The text of one reason.
use Rattle.std.specs.Prelude.{ℕ, nat_le, Bool, true, false, not, ◌==◌, List, [], ◌++◌, codes, decimal, length, slice_get, Option, Some, None, if◌then◌else◌}
use Rattle.std.specs.List.{flat_map, list_any, range_with_len}
use Rattle.std.specs.Option.{option_map_or}
use Rattle.ror_statement.specs.declared.statement.Numbered.{Numbered}
use Rattle.ror_statement.specs.declared.question.Question.{Question}
use Rattle.ror_statement.specs.declared.question.Question.TheVariants as questions
use Rattle.ror_statement.specs.Questions.{kind_of, property_of}
use Rattle.ror_table.specs.Table.{DecisionTable}
use Rattle.ror_proof.specs.declared.answer.Answer.{Answer}
use Rattle.ror_proof.specs.declared.answer.Verdict.{Verdict}
use Rattle.ror_check.specs.Proof.{is_wide}
use Rattle.ror_show_find_relation.specs.Dominance.{dominates}
use Rattle.ror_show_text_functions.specs.Rises.{rises_text}
use Rattle.ror_show_text_functions.specs.Text.{is_contradiction}
use Rattle.ror_show_kit.specs.Words.{number}
use Rattle.ror_show_kit.specs.Rows.{line_text}
use Rattle.ror_show_kit.specs.Claims.{is_every, claim_of, counter_of, asked_text}
use Rattle.ror_show_text_reasons.specs.Sides.{sides_text}
use Rattle.ror_show_text_reasons.specs.Met.{met_text}
use Rattle.ror_show_text_reasons.specs.Parts.{rows_text, part_sum}

-- ---- where statements carry the answer

abbrev pub claimed : DecisionTable → Question → List ℕ
claimed t q = claim_of t q ++ codes ", whatever value function agrees with these statements:"

abbrev pub clash : List ℕ
clash = codes "these statements can't all be meant, whatever the value function:"

-- what they carry
abbrev pub head_words : DecisionTable → Question → Bool → List ℕ
head_words t q true = clash
head_words t q false = claimed t q

abbrev pub head_text : DecisionTable → Question → Bool → List ℕ
head_text t q clashes = line_text 1 (head_words t q clashes)

-- of some nothing is concluded
abbrev pub is_any_wide : List Answer → Bool
is_any_wide others = list_any (λ x. is_wide x.verdict) others

-- all of them are needed, or of some it isn't known
abbrev pub needed : Bool → List ℕ
needed true = codes "  without one of them, as far as it is known:\n"
needed false = codes "  of these alone none can be spared:\n"

-- what one function says against the answer, and by how much
abbrev pub counter_text : DecisionTable → Question → Verdict → List ℕ
counter_text t q v = counter_of t q ++ sides_text t (not (is_every (kind_of q))) (property_of q) v

abbrev pub some_counter : DecisionTable → Question → Verdict → List ℕ
some_counter t q v = codes "by some value function " ++ counter_text t q v

-- where the function rises that agrees with the others
abbrev pub agreeing_words : DecisionTable → Verdict → List ℕ
agreeing_words t v = codes "some value function agrees with the others of these" ++ rises_text t v

abbrev pub spared_words : DecisionTable → Question → Bool → Verdict → List ℕ
spared_words t q true v = agreeing_words t v
spared_words t q false v = some_counter t q v

abbrev pub unknown : List ℕ
unknown = codes "not known: a number on the way passes 127 bits"

abbrev pub other_words : DecisionTable → Question → Bool → Verdict → List ℕ
other_words t q clashes v = if is_wide v then unknown else spared_words t q clashes v

abbrev pub without_words : DecisionTable → Question → Bool → ℕ → Verdict → List ℕ
without_words t q clashes n v = codes "without " ++ decimal n ++ codes ": " ++ other_words t q clashes v

-- what a function says that agrees with all statements but the one beside which the answer stands
abbrev pub without_by : DecisionTable → Question → Bool → ℕ → Answer → List ℕ
without_by t q clashes n other = line_text 4 (without_words t q clashes n other.verdict)

abbrev pub without_for : DecisionTable → Question → Bool → ℕ → Option Answer → List ℕ
without_for t q clashes n other = option_map_or (without_by t q clashes n) other []

abbrev pub without_at : DecisionTable → Question → Bool → List ℕ → List Answer → ℕ → List ℕ
without_at t q clashes ns others k = option_map_or (λ n. without_for t q clashes n (slice_get others k)) (slice_get ns k) []

abbrev pub withouts_text : DecisionTable → Question → Bool → List ℕ → List Answer → List ℕ
withouts_text t q clashes ns others = flat_map (without_at t q clashes ns others) (range_with_len 0 (length ns))

abbrev pub needed_text : DecisionTable → Question → Bool → List ℕ → List Answer → List ℕ
needed_text t q clashes ns others = needed (is_any_wide others) ++ withouts_text t q clashes ns others

-- what the analyst may do where they stand
abbrev pub advice : List ℕ → List ℕ
advice ns = codes "at least one of them has to go: withdraw N, or replace N by what was meant, where N is one of" ++ flat_map number ns

-- where a repair dropped this one of them, it stands no more, and another may be the one that wasn't meant
abbrev pub another : List ℕ → List ℕ
another ns = if nat_le (length ns) 1 then [] else codes " If another of them was not meant: undo the repair, and replace that one."

abbrev pub dropped_words : ℕ → List ℕ → List ℕ
dropped_words n ns = decimal n ++ codes " is dropped." ++ another ns

abbrev pub way_out : Option ℕ → List ℕ → List ℕ
way_out None ns = advice ns
way_out (Some n) ns = dropped_words n ns

abbrev pub one_part : List ℕ
one_part = codes "  this is one part of the statements that carries the answer, and there may be others\n"

-- what a repair kept doesn't contradict itself
abbrev pub one_clash : Option ℕ → List ℕ
one_clash None = codes "  there may be other contradictions among the statements\n"
one_clash (Some n) = codes "  there may have been other contradictions among the statements\n"

abbrev pub advice_text : Option ℕ → List ℕ → List ℕ
advice_text dropped ns = line_text 1 (way_out dropped ns)

abbrev pub clash_text : Option ℕ → List ℕ → List ℕ
clash_text dropped ns = advice_text dropped ns ++ one_clash dropped

abbrev pub tail_text : Option ℕ → Bool → List ℕ → List ℕ
tail_text dropped true ns = clash_text dropped ns
tail_text dropped false ns = one_part

abbrev pub carried_by : DecisionTable → List Numbered → List (Option ℕ) → Option ℕ → Question → List ℕ → Verdict → List Answer
    → Bool → List ℕ
carried_by t list lines dropped q ns v others clashes = head_text t q clashes ++ rows_text t list lines ns q v
    ++ part_sum t list ns q v ++ needed_text t q clashes ns others ++ tail_text dropped clashes ns

-- a repair dropped this one of the statements, or none
abbrev pub carried_text : DecisionTable → List Numbered → List (Option ℕ) → Option ℕ → Question → List ℕ → Verdict → List Answer
    → List ℕ
carried_text t list lines dropped q ns v others = carried_by t list lines dropped q ns v others (is_contradiction v)

-- ---- where the answer needs no statement

-- one alternative is asked to be at least as good as another by every function, and dominates it
abbrev pub is_dominance : DecisionTable → Question → Bool
is_dominance t (questions.Necessary a b) = dominates t a b
is_dominance t _ = false

abbrev pub dominance_words : DecisionTable → Question → List ℕ
dominance_words t q = codes "it holds by dominance alone: " ++ claim_of t q ++ codes " on each criterion"

abbrev pub free_words : DecisionTable → Question → List ℕ
free_words t q = claim_of t q ++ codes ", whatever the value function: no statement is needed"

abbrev pub empty_words : List ℕ
empty_words = codes "there is no value function: on each criterion all alternatives are worth the same"

abbrev pub alone_words : DecisionTable → Question → Bool → List ℕ
alone_words t q true = empty_words
alone_words t q false = if is_dominance t q then dominance_words t q else free_words t q

abbrev pub alone_text : DecisionTable → Question → Bool → List ℕ
alone_text t q clashes = line_text 1 (alone_words t q clashes)

-- ---- the text of a part that carries an answer

unfoldable pub reduct_text : DecisionTable → List Numbered → List (Option ℕ) → Option ℕ → List ℕ → Answer → List Answer → List ℕ
reduct_text t list lines dropped ns x others = if length ns == 0 then alone_text t x.question (is_contradiction x.verdict)
    else carried_text t list lines dropped x.question ns x.verdict others

-- ---- where one function decides

abbrev pub deciding_words : DecisionTable → Answer → List ℕ
deciding_words t x = codes "by some value function that agrees with the statements " ++ counter_text t x.question x.verdict

abbrev pub consistent_words : List ℕ
consistent_words = codes "some value function agrees with the statements"

abbrev pub is_consistency : Question → Bool
is_consistency questions.Consistent = true
is_consistency _ = false

abbrev pub decided_words : DecisionTable → Answer → List ℕ
decided_words t x = if is_consistency x.question then consistent_words else deciding_words t x

abbrev pub shown_words : DecisionTable → Answer → List ℕ
shown_words t x = codes "no statement carries that; the function is on the page of functions: " ++ asked_text t x.question x.verdict

abbrev pub decided_line : DecisionTable → Answer → List ℕ
decided_line t x = line_text 1 (decided_words t x)

abbrev pub shown_line : DecisionTable → Answer → List ℕ
shown_line t x = line_text 1 (shown_words t x)

unfoldable pub decided_text : DecisionTable → List Numbered → Answer → List ℕ
decided_text t list x = decided_line t x ++ met_text t list x.verdict ++ shown_line t x

-- ---- where an alternative may belong to a class by every function

abbrev pub bounded_words : DecisionTable → Question → List ℕ
bounded_words t q = claim_of t q ++ codes ", whatever value function agrees with the statements"

abbrev pub bounds : List ℕ
bounds = codes "  what shuts out the other classes are the reasons of the answers no of `ask possible-class`\n"

abbrev pub bounded_line : DecisionTable → Question → List ℕ
bounded_line t q = line_text 1 (bounded_words t q)

unfoldable pub bounded_text : DecisionTable → Question → List ℕ
bounded_text t q = bounded_line t q ++ bounds

-- ---- where nothing is found

-- over the statements a number passes the greatest width, so more bits can't help
abbrev pub wide_text : List ℕ
wide_text = codes "  no reason is found: over the statements a number on the way passes 127 bits\n  fewer statements may do\n"

-- the report's answer is too wide
abbrev pub not_answered : List ℕ
not_answered = codes "  the answer isn't concluded, so it has no reason: a number on the way passes the bits of the report\n  more bits may do where it has fewer than 127 (--bits 127), or fewer statements\n"
