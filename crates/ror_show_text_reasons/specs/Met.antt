-- The quantities that the value function which decides an answer gives to what was stated.
use Rattle.std.specs.Prelude.{ℕ, ◌==◌, List, [], ◌++◌, codes, length, Option, Some, None, ℤ, if◌then◌else◌}
use Rattle.std.specs.List.{flat_map}
use Rattle.std.specs.Option.{option_map_or}
use Rattle.ror_statement.specs.declared.comparison.Form.{Form}
use Rattle.ror_statement.specs.declared.comparison.Scope.TheVariants.{Whole}
use Rattle.ror_statement.specs.declared.statement.Statement.{Statement}
use Rattle.ror_statement.specs.declared.statement.Assignment.{Assignment}
use Rattle.ror_statement.specs.declared.statement.Numbered.{Numbered}
use Rattle.ror_statement.specs.Statements.{comparison_of, assignment_of}
use Rattle.ror_table.specs.Table.{DecisionTable}
use Rattle.ror_value.specs.Meaning.{value_in, first_quantity, second_quantity}
use Rattle.ror_value.specs.Value.{Normalised}
use Rattle.ror_proof.specs.declared.answer.Verdict.{Verdict}
use Rattle.ror_show_find_proofs.specs.Functions.{function_of}
use Rattle.ror_show_kit.specs.Rows.{row_text}
use Rattle.ror_show_kit.specs.Spoken.{statement_text}
use Rattle.ror_show_text_reasons.specs.Sides.{number_behind}
use Rattle.ror_show_find_proofs.specs.Deciding.{deciding}

-- the two quantities that are compared
abbrev pub compared_words : DecisionTable → Normalised → Form → List ℕ
compared_words t f form = number_behind [] (first_quantity t f.steps form)
    ++ number_behind (codes " to ") (second_quantity t f.steps form)

-- the value of an alternative that is assigned to classes
abbrev pub assigned_words : DecisionTable → Normalised → Assignment → List ℕ
assigned_words t f x = number_behind (codes "worth ") (value_in t f.steps Whole x.alternative)

abbrev pub met_words : DecisionTable → Normalised → Statement → List ℕ
met_words t f s = option_map_or (λ c. compared_words t f c.form) (comparison_of s)
    (option_map_or (assigned_words t f) (assignment_of s) [])

abbrev pub met_row : DecisionTable → Normalised → Numbered → List ℕ
met_row t f x = row_text x.number (statement_text t x.statement) (met_words t f x.statement)

abbrev pub met_head : List ℕ
met_head = codes "  it meets each statement:\n"

abbrev pub met_rows : DecisionTable → List Numbered → Normalised → List ℕ
met_rows t list f = met_head ++ flat_map (met_row t f) list

-- where nothing is stated nothing is said
abbrev pub met_found : DecisionTable → List Numbered → Option Normalised → List ℕ
met_found t list None = []
met_found t list (Some f) = if length list == 0 then [] else met_rows t list f

unfoldable pub met_by : DecisionTable → List Numbered → List ℤ → List ℕ
met_by t list w = met_found t list (function_of t w)

abbrev pub met_for : DecisionTable → List Numbered → Option (List ℤ) → List ℕ
met_for t list None = []
met_for t list (Some w) = met_by t list w

abbrev pub met_text : DecisionTable → List Numbered → Verdict → List ℕ
met_text t list v = met_for t list (deciding v)
