-- The functions of answers as plain text, each in lines below what it is for.
use Rattle.std.specs.Prelude.{ℕ, Bool, true, false, List, [], ◌∷◌, ◌++◌, ◌==◌, length, codes, slice_get, Option, Some, None, if◌then◌else◌}
use Rattle.std.specs.List.{flat_map, list_any}
use Rattle.std.specs.Option.{option_map_or}
use Rattle.ror_text.specs.SpacedLines.{spaced_words}
use Rattle.ror_statement.specs.Questions.{property_of}
use Rattle.ror_table.specs.Table.{DecisionTable}
use Rattle.ror_value.specs.Value.{Normalised}
use Rattle.ror_proof.specs.declared.answer.Answer.{Answer}
use Rattle.ror_proof.specs.declared.answer.Verdict.{Verdict}
use Rattle.ror_proof.specs.declared.answer.Verdict.TheVariants as verdicts
use Rattle.ror_proof.specs.Names.{question_name, question_word, verdict_name, verdict_word}
use Rattle.ror_proof.specs.Printing.{spaced}
use Rattle.ror_proof.specs.Text.{property_words}
use Rattle.ror_show_kit.specs.Layout.{room_behind, wrapped}
use Rattle.ror_show_find_proofs.specs.declared.function_places.Place.{Place}
use Rattle.ror_show_find_proofs.specs.declared.findings.FunctionFound.{FunctionFound}
use Rattle.ror_show_text_functions.specs.Blocks.{block_text}

-- ---- one function

abbrev pub not_shown : List ℕ
not_shown = codes "     not shown: the value of all best levels passes 127 bits\n"

abbrev pub found_text : DecisionTable → Option Normalised → List ℕ
found_text t None = not_shown
found_text t (Some f) = block_text t f

-- ---- what it is for

abbrev pub base_title : List ℕ
base_title = codes "\n  one of the functions that agree with the statements, not a representative one\n"

-- the question and the verdict
unfoldable pub asked_text : DecisionTable → Answer → List ℕ
asked_text t x = question_word (question_name x.question) ++ spaced (property_words t (property_of x.question))
    ++ 32 ∷ verdict_word (verdict_name x.verdict)

-- those of the answer at a place
abbrev pub asked_at : DecisionTable → List Answer → ℕ → List ℕ
asked_at t xs k = option_map_or (asked_text t) (slice_get xs k) []

abbrev pub words_text : List (List ℕ) → List ℕ
words_text ws = wrapped 3 (room_behind 1) ws

unfoldable pub asked_title : List ℕ → List ℕ
asked_title asked = 10 ∷ 32 ∷ words_text (spaced_words asked) ++ 10 ∷ []

abbrev pub title_for : DecisionTable → List Answer → ℕ → Option ℕ → List ℕ
title_for t xs k None = base_title
title_for t xs k (Some j) = asked_title (asked_at t xs k)

abbrev pub title_text : DecisionTable → List Answer → Place → List ℕ
title_text t xs p = title_for t xs p.answer p.part

-- ---- all functions

-- a function that was found, below what it is for
unfoldable pub function_words : DecisionTable → List Answer → FunctionFound → List ℕ
function_words t xs f = title_text t xs f.at ++ found_text t f.function

abbrev pub legend : List ℕ
legend = codes "\n  marginal values, from the worst level of a criterion to the best: as shares of the value of all best levels,\n  with ~ before those that are rounded, and as whole numbers; a weight is that of the best level\n"

abbrev pub shown_text : DecisionTable → List Answer → List FunctionFound → List ℕ
shown_text t xs fs = legend ++ flat_map (function_words t xs) fs

-- ---- where there is none

abbrev pub is_contradiction : Verdict → Bool
is_contradiction (verdicts.Contradiction proof) = true
is_contradiction _ = false

abbrev pub none_text : List Answer → List ℕ
none_text xs = if list_any (λ x. is_contradiction x.verdict) xs then codes "\n  no function agrees with the statements\n"
    else codes "\n  no function stands in these answers\n"

-- ---- the text of answers

abbrev pub functions_of : DecisionTable → List Answer → List FunctionFound → List ℕ
functions_of t xs fs = if length fs == 0 then none_text xs else shown_text t xs fs
