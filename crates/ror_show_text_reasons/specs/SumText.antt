-- What statements sum up to, and what is used besides, in words.
use Rattle.std.specs.Prelude.{ℕ, ◌-◌, Bool, true, false, not, ◌||◌, ◌==◌, List, [], ◌∷◌, ◌++◌, codes, length, slice_get, Option, Some, None, if◌then◌else◌}
use Rattle.std.specs.List.{flat_map, range_with_len}
use Rattle.std.specs.Option.{option_map_or}
use Rattle.ror_show_kit.specs.Amounts.{amount_text}
use Rattle.ror_statement.specs.declared.statement.Statement.{Statement}
use Rattle.ror_statement.specs.declared.question.Question.{Question}
use Rattle.ror_table.specs.Table.{DecisionTable, criterion_id_of, is_linear, level}
use Rattle.ror_proof.specs.declared.answer.Verdict.{Verdict}
use Rattle.ror_show_kit.specs.Rows.{line_text}
use Rattle.ror_show_kit.specs.Words.{word}
use Rattle.ror_show_find_proofs.specs.declared.spans.Span.{Span}
use Rattle.ror_show_find_proofs.specs.declared.sums.Sum.{Sum}
use Rattle.ror_show_find_proofs.specs.Findings.{sum_found}

-- ---- spans

-- the criterion, where it isn't that of the span before
abbrev pub criterion_text : DecisionTable → ℕ → Option Span → List ℕ
criterion_text t i None = word (criterion_id_of t i)
criterion_text t i (Some before) = if before.criterion == i then codes " and" else 44 ∷ word (criterion_id_of t i)

-- the span before the one at a place
abbrev pub before : List Span → ℕ → Option Span
before spans k = if k == 0 then None else slice_get spans (k - 1)

-- the levels that it goes from and to
abbrev pub levels_text : DecisionTable → Span → List ℕ
levels_text t x = codes " " ++ amount_text (level t x.criterion x.worse) ++ codes " to " ++ amount_text (level t x.criterion x.better)

-- the whole of a linear criterion
abbrev pub extent_text : DecisionTable → Span → List ℕ
extent_text t x = if is_linear t x.criterion then codes " (linear)" else levels_text t x

abbrev pub span_text : DecisionTable → Option Span → Span → List ℕ
span_text t other x = criterion_text t x.criterion other ++ extent_text t x

abbrev pub span_in : DecisionTable → List Span → ℕ → List ℕ
span_in t spans k = option_map_or (span_text t (before spans k)) (slice_get spans k) []

abbrev pub spans_text : DecisionTable → List Span → List ℕ
spans_text t spans = flat_map (span_in t spans) (range_with_len 0 (length spans))

-- ---- what is said

abbrev pub said : Bool → List ℕ
said true = codes "summed up they say that something is worth more than itself"
said false = codes "summed up they say so"

-- what stands before a ground, where another one does or doesn't
abbrev pub joint : Bool → List ℕ
joint true = codes " and "
joint false = codes ", as "

-- that not all levels are worth the same
abbrev pub positive_text : Bool → List ℕ
positive_text true = codes ", as some criterion counts"
positive_text false = []

-- that criteria are linear
abbrev pub name_after : ℕ → List ℕ
name_after k = if k == 0 then [] else codes " and "

abbrev pub linear_name : DecisionTable → ℕ → ℕ → List ℕ
linear_name t k i = name_after k ++ criterion_id_of t i

abbrev pub linear_in : DecisionTable → List ℕ → ℕ → List ℕ
linear_in t linear k = option_map_or (linear_name t k) (slice_get linear k) []

abbrev pub linear_names : DecisionTable → List ℕ → List ℕ
linear_names t linear = flat_map (linear_in t linear) (range_with_len 0 (length linear))

abbrev pub linear_end : List ℕ → List ℕ
linear_end linear = if length linear == 1 then codes " is linear" else codes " are linear"

abbrev pub some_linear : DecisionTable → Bool → List ℕ → List ℕ
some_linear t before linear = joint before ++ linear_names t linear ++ linear_end linear

abbrev pub linear_text : DecisionTable → Bool → List ℕ → List ℕ
linear_text t before linear = if length linear == 0 then [] else some_linear t before linear

-- that better is never worth less
abbrev pub some_step : Bool → List ℕ
some_step true = codes " and better is never worth less:"
some_step false = codes ", as better is never worth less:"

abbrev pub some_steps : DecisionTable → Bool → List Span → List ℕ
some_steps t before spans = some_step before ++ spans_text t spans

abbrev pub steps_text : DecisionTable → Bool → List Span → List ℕ
steps_text t before spans = if length spans == 0 then [] else some_steps t before spans

-- where neither the first nor the last of these is used
abbrev pub alone_text : Bool → Bool → List ℕ
alone_text positive steps = if positive || steps then [] else codes ", and no other statement is used"

abbrev pub besides : DecisionTable → Bool → List ℕ → List Span → List ℕ
besides t positive linear spans = positive_text positive ++ linear_text t positive linear
    ++ steps_text t (positive || not (length linear == 0)) spans ++ alone_text positive (not (length spans == 0))

abbrev pub sum_words : DecisionTable → Sum → List ℕ
sum_words t x = said x.clashes ++ besides t x.positive x.linear x.spans

-- ---- of an answer

abbrev pub sum_line : DecisionTable → Sum → List ℕ
sum_line t x = line_text 1 (sum_words t x)

-- nothing is said where there isn't a multiplier for each row
abbrev pub found_text : DecisionTable → Option Sum → List ℕ
found_text t found = option_map_or (sum_line t) found []

-- of an answer over statements
unfoldable pub sum_text : DecisionTable → List Statement → Question → Verdict → List ℕ
sum_text t list q v = found_text t (sum_found t list q v)
