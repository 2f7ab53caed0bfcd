-- The two quantities of a question by the value function that decides it.
use Rattle.std.specs.Prelude.{ℕ, Bool, true, false, List, [], ◌++◌, codes, Option, Some, None, ℤ}
use Rattle.std.specs.Fmt.{signed_decimal}
use Rattle.ror_statement.specs.declared.comparison.Form.{Form}
use Rattle.ror_statement.specs.declared.question.Property.{Property}
use Rattle.ror_statement.specs.declared.question.Property.TheVariants as property
use Rattle.ror_table.specs.Table.{DecisionTable}
use Rattle.ror_value.specs.Meaning.{first_quantity, second_quantity}
use Rattle.ror_value.specs.Value.{Normalised}
use Rattle.ror_rows.specs.Rows.{turned}
use Rattle.ror_proof.specs.declared.answer.Verdict.{Verdict}
use Rattle.ror_show_find_proofs.specs.Functions.{function_of}
use Rattle.ror_show_find_proofs.specs.Deciding.{deciding}

abbrev pub number_behind : List ℕ → ℤ → List ℕ
number_behind words n = words ++ signed_decimal n

abbrev pub sides : ℤ → ℤ → ℤ → List ℕ
sides first second whole = number_behind (codes " (") first ++ number_behind (codes " to ") second
    ++ number_behind (codes " of ") whole ++ codes ")"

-- the quantities that a form sets against each other, and the value of all best levels
abbrev pub form_sides : DecisionTable → Form → Normalised → List ℕ
form_sides t form f = sides (first_quantity t f.steps form) (second_quantity t f.steps form) f.total

abbrev pub found_sides : DecisionTable → Form → Option Normalised → List ℕ
found_sides t form None = []
found_sides t form (Some f) = form_sides t form f

unfoldable pub sides_by : DecisionTable → Form → List ℤ → List ℕ
sides_by t form w = found_sides t form (function_of t w)

abbrev pub sides_for : DecisionTable → Form → Option (List ℤ) → List ℕ
sides_for t form None = []
sides_for t form (Some w) = sides_by t form w

-- the greater one first
abbrev pub set_form : Bool → Form → Form
set_form true form = form
set_form false form = turned form

abbrev pub sides_text : DecisionTable → Bool → Property → Verdict → List ℕ
sides_text t has property.Compatible v = []
sides_text t has (property.AtLeast form) v = sides_for t (set_form has form) (deciding v)
sides_text t has (property.InClass a h) v = []
