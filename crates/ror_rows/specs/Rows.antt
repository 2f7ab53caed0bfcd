-- The rows of statements and questions, and the systems that they make.
use Rattle.std.specs.Prelude.{ℕ, ◌==◌, nat_lt, if◌then◌else◌, List, [], ◌∷◌, ◌++◌, length, map, ℤ, Bool, true, false, not}
use Rattle.std.specs.List.{flat_map, range_with_len}
use Rattle.smallvec.specs.SmallVec.{SmallVec}
use Rattle.ror_integers.specs.Vectors.{ones, row_difference}
use Rattle.ror_statement.specs.declared.comparison.Pair.{Pair}
use Rattle.ror_statement.specs.declared.comparison.Scope.{Scope}
use Rattle.ror_statement.specs.declared.comparison.Scope.TheVariants.{Whole, One}
use Rattle.ror_statement.specs.declared.comparison.Form.{Form}
use Rattle.ror_statement.specs.declared.comparison.Form.TheVariants.{Value, Strength}
use Rattle.ror_statement.specs.declared.comparison.Relation.{Relation}
use Rattle.ror_statement.specs.declared.comparison.Relation.TheVariants.{Above, AtLeast, Equal}
use Rattle.ror_statement.specs.declared.comparison.Comparison.{Comparison}
use Rattle.ror_statement.specs.declared.statement.Assignment.{Assignment}
use Rattle.ror_statement.specs.declared.statement.Statement.{Statement}
use Rattle.ror_statement.specs.declared.question.QuestionKind.{QuestionKind}
use Rattle.ror_statement.specs.declared.question.QuestionKind.TheVariants.{Plain, Any, Every}
use Rattle.ror_statement.specs.declared.question.Property.{Property}
use Rattle.ror_statement.specs.declared.question.Property.TheVariants as property
use Rattle.ror_statement.specs.declared.question.Question.{Question}
use Rattle.ror_statement.specs.Statements.{comparison_by, comparisons_of}
use Rattle.ror_statement.specs.Questions.{kind_of, property_of}
use Rattle.ror_table.specs.Blocks.{block}
use Rattle.ror_table.specs.Table.{DecisionTable, rank, columns}
use Rattle.ror_value.specs.Meaning.{assignments_of}
use Rattle.ror_system.specs.System.{LinearSystem}
use Rattle.ror_rows.specs.declared.extra.Extra.{Extra}

-- ---- rows

-- the row of an alternative's value: 1 at each step up to the alternative's rank on its criterion, else 0; on a linear
-- criterion the weight of the alternative's level
abbrev pub value_row : DecisionTable → ℕ → List ℤ
value_row t a = flat_map (λ i. block t i (rank t a i)) (range_with_len 0 (length t.criteria))

-- an alternative's rank on the criteria of the scope; 0 on the others
abbrev pub rank_in : DecisionTable → Scope → ℕ → ℕ → ℕ
rank_in t Whole a i = rank t a i
rank_in t (One k) a i = if i == k then rank t a i else 0

-- the row of an alternative's value within the scope: zeros on the criteria outside of it
abbrev pub scope_row : DecisionTable → Scope → ℕ → List ℤ
scope_row t s a = flat_map (λ i. block t i (rank_in t s a i)) (range_with_len 0 (length t.criteria))

-- the row of an intensity
abbrev pub pair_row : DecisionTable → Scope → Pair → List ℤ
pair_row t s p = row_difference (scope_row t s p.first) (scope_row t s p.second)

-- the row of a form: that of its first quantity less that of its second
abbrev pub form_row : DecisionTable → Form → List ℤ
form_row t (Value a b) = row_difference (value_row t a) (value_row t b)
form_row t (Strength p q s) = row_difference (pair_row t s p) (pair_row t s q)

-- the form with its quantities exchanged
abbrev pub turned : Form → Form
turned (Value a b) = Value b a
turned (Strength p q s) = Strength q p s

-- the weak rows and the strict rows of a comparison: an equality is two weak rows
abbrev pub weak_rows_for : DecisionTable → Relation → Form → List (List ℤ)
weak_rows_for t Above f = []
weak_rows_for t AtLeast f = form_row t f ∷ []
weak_rows_for t Equal f = form_row t f ∷ form_row t (turned f) ∷ []

abbrev pub strict_rows_for : DecisionTable → Relation → Form → List (List ℤ)
strict_rows_for t Above f = form_row t f ∷ []
strict_rows_for t _ f = []

abbrev pub weak_rows : DecisionTable → List Comparison → List (List ℤ)
weak_rows t cs = flat_map (λ c. weak_rows_for t c.relation c.form) cs

abbrev pub strict_rows : DecisionTable → List Comparison → List (List ℤ)
strict_rows t cs = flat_map (λ c. strict_rows_for t c.relation c.form) cs

-- ---- systems

-- the system of a list of statements and of extra comparisons: in each part the rows of all that the list says, in order,
-- then the extra ones; the first strict row, all ones, says that the total is positive
abbrev pub system_for : DecisionTable → List Statement → List Comparison → LinearSystem
system_for t list extra = record {
  columns = columns t;
  weak = weak_rows t (comparisons_of list) ++ weak_rows t extra;
  strict = ones (columns t) ∷ (strict_rows t (comparisons_of list) ++ strict_rows t extra);
}

-- the system with the rows of these comparisons after its own in each part
abbrev pub extended_by : DecisionTable → LinearSystem → List Comparison → LinearSystem
extended_by t s extra = record {
  columns = s.columns;
  weak = s.weak ++ weak_rows t extra;
  strict = s.strict ++ strict_rows t extra;
}

-- an extra row as the comparison that it stands for
abbrev pub relation_of_flag : Bool → Relation
relation_of_flag true = Above
relation_of_flag false = AtLeast

abbrev pub comparison_of_extra : Extra → Comparison
comparison_of_extra e = comparison_by (relation_of_flag e.strict) e.form

abbrev pub extras_of : SmallVec Extra → List Comparison
extras_of v = map comparison_of_extra v.items

-- ---- questions

-- what holds exactly where the extra row does not
abbrev pub negation_of : Extra → Extra
negation_of e = record { form = turned e.form; strict = not e.strict }

-- what an assignment asks of an alternative that may belong to class h: it is worth less than the assigned one where all
-- classes of the assignment are above h, and more where all are below; no alternative is worth more than itself
abbrev pub class_conditions : ℕ → ℕ → Assignment → List Extra
class_conditions a h x =
    if nat_lt h x.lowest then record { form = Value x.alternative a; strict = true } ∷ []
    else (if nat_lt x.highest h then record { form = Value a x.alternative; strict = true } ∷ [] else [])

-- the rows that hold of a compatible function exactly where it has the property
abbrev pub conditions_of : List Statement → Property → List Extra
conditions_of list property.Compatible = []
conditions_of list (property.AtLeast form) = record { form = form; strict = false } ∷ []
conditions_of list (property.InClass a h) = flat_map (class_conditions a h) (assignments_of list)

-- the extra rows of each system of a question: where it asks of some function, one system is of the functions that have the
-- property; where it asks of every one, a system for each condition is of the functions at which that one fails
abbrev pub systems_by : QuestionKind → List Extra → List (List Extra)
systems_by Plain conditions = []
systems_by Any conditions = conditions ∷ []
systems_by Every conditions = map (λ e. negation_of e ∷ []) conditions

abbrev pub systems_of_question : List Statement → Question → List (List Comparison)
systems_of_question list q =
    map (map comparison_of_extra) (systems_by (kind_of q) (conditions_of list (property_of q)))
