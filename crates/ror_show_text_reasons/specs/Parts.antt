-- The statements that carry an answer, each with the line that says it and how often it counts, and what they sum up to.
use Rattle.std.specs.Prelude.{ℕ, ◌==◌, List, [], ◌∷◌, ◌++◌, codes, decimal, length, slice_get, Option, Some, None, if◌then◌else◌}
use Rattle.std.specs.List.{flat_map, range_with_len}
use Rattle.std.specs.Option.{option_map_or}
use Rattle.ror_statement.specs.declared.statement.Numbered.{Numbered}
use Rattle.ror_statement.specs.declared.question.Question.{Question}
use Rattle.ror_table.specs.Table.{DecisionTable}
use Rattle.ror_proof.specs.declared.answer.Verdict.{Verdict}
use Rattle.ror_check.specs.Repair.{is_among}
use Rattle.ror_reason.specs.Reducts.{part_of, stated}
use Rattle.ror_show_text_reasons.specs.SumText.{sum_text}
use Rattle.ror_show_find_proofs.specs.declared.owners.Owners.{Owners}
use Rattle.ror_show_kit.specs.Spoken.{statement_text}
use Rattle.ror_show_kit.specs.Rows.{row_text}
use Rattle.ror_show_find_proofs.specs.Weights.{owners_of, weights_of}

-- ---- how often a statement counts

abbrev pub times_of : ℕ → List ℕ
times_of n = if n == 1 then codes "once" else (if n == 2 then codes "twice" else decimal n ++ codes " times")

abbrev pub more_times : ℕ → List ℕ
more_times n = codes " and " ++ decimal n

-- of several rows, each by itself
abbrev pub several : ℕ → List ℕ → List ℕ
several n ns = decimal n ++ flat_map more_times ns ++ codes " times"

abbrev pub times_text : List ℕ → List ℕ
times_text [] = codes "0 times"
times_text (n ∷ []) = times_of n
times_text (n ∷ ns) = several n ns

-- ---- where it was said

abbrev pub source_text : Option ℕ → List ℕ
source_text None = codes "the table's file"
source_text (Some line) = codes "line " ++ decimal line

-- the line that said the statement at a place
abbrev pub line_at : List (Option ℕ) → ℕ → Option ℕ
line_at lines k = option_map_or (λ line. line) (slice_get lines k) None

abbrev pub said_text : Option ℕ → List ℕ → List ℕ
said_text line weights = source_text line ++ codes ", counts " ++ times_text weights

-- ---- the statements of a part

unfoldable pub statement_row : DecisionTable → Option ℕ → Owners → Verdict → Numbered → List ℕ
statement_row t line owners v x =
    row_text x.number (statement_text t x.statement) (said_text line (weights_of x.number owners v))

-- the row of the statement at a place of the list, where the part has it
abbrev pub row_by : DecisionTable → List (Option ℕ) → List ℕ → Owners → Verdict → ℕ → Numbered → List ℕ
row_by t lines ns owners v k x = if is_among ns x then statement_row t (line_at lines k) owners v x else []

abbrev pub row_at : DecisionTable → List Numbered → List (Option ℕ) → List ℕ → Owners → Verdict → ℕ → List ℕ
row_at t list lines ns owners v k = option_map_or (row_by t lines ns owners v k) (slice_get list k) []

abbrev pub rows_by : DecisionTable → List Numbered → List (Option ℕ) → List ℕ → Owners → Verdict → List ℕ
rows_by t list lines ns owners v = flat_map (row_at t list lines ns owners v) (range_with_len 0 (length list))

unfoldable pub rows_text : DecisionTable → List Numbered → List (Option ℕ) → List ℕ → Question → Verdict → List ℕ
rows_text t list lines ns q v = rows_by t list lines ns (owners_of (part_of ns list) q) v

-- ---- what they sum up to

unfoldable pub part_sum : DecisionTable → List Numbered → List ℕ → Question → Verdict → List ℕ
part_sum t list ns q v = sum_text t (stated ns list) q v
