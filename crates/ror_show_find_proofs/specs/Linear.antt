-- On which linear criteria a sum uses that they are linear: those on which what is summed up doesn't cancel step by step.
use Rattle.std.specs.Prelude.{ℕ, zero, suc, Bool, true, false, ◌&&◌, ◌==◌, nat_lt, List, [], ◌∷◌, ◌++◌, length, map, Option, Some, None, IfSome, ℤ, pos, ◌+ℤ◌, ◌-ℤ◌, int_lt, if◌then◌else◌, not}
use Rattle.std.specs.List.{AllByRecursion, flat_map, range_with_len}
use Rattle.ror_integers.specs.Vectors.{dot, absolute_dot}
use Rattle.ror_statement.specs.declared.comparison.Form.{Form}
use Rattle.ror_statement.specs.declared.comparison.Form.TheVariants.{Value, Strength}
use Rattle.ror_statement.specs.declared.comparison.Relation.{Relation}
use Rattle.ror_statement.specs.declared.comparison.Relation.TheVariants.{Above, AtLeast, Equal}
use Rattle.ror_statement.specs.declared.comparison.Comparison.{Comparison}
use Rattle.ror_statement.specs.declared.statement.Statement.{Statement}
use Rattle.ror_statement.specs.declared.question.Question.{Question}
use Rattle.ror_statement.specs.Statements.{comparisons_of}
use Rattle.ror_table.specs.Table.{DecisionTable, is_linear, rank, steps}
use Rattle.ror_system.specs.System.{sum_limit, IsNarrow}
use Rattle.ror_system.specs.declared.accept.Multipliers.{Multipliers}
use Rattle.ror_rows.specs.Rows.{turned, rank_in}
use Rattle.ror_proof.specs.declared.answer.Verdict.{Verdict}
use Rattle.ror_value.specs.Over.{IsNamedIn}
use Rattle.ror_show_find_proofs.specs.declared.compared.Forms.{Forms}
use Rattle.ror_show_find_proofs.specs.Sums.{asked_besides}

-- ---- what is compared

-- by the statements, and by what is asked besides
abbrev pub compared : List Statement → Question → Verdict → List Comparison
compared list q v = comparisons_of list ++ asked_besides list q v

-- the forms of the weak rows of a comparison, and of its strict one
abbrev pub weak_forms_for : Relation → Form → List Form
weak_forms_for Above f = []
weak_forms_for AtLeast f = f ∷ []
weak_forms_for Equal f = f ∷ turned f ∷ []

abbrev pub strict_forms_for : Relation → Form → List Form
strict_forms_for Above f = f ∷ []
strict_forms_for AtLeast f = []
strict_forms_for Equal f = []

-- those of all comparisons, but for the first strict row, which is all ones
abbrev pub forms_of : List Comparison → Forms
forms_of cs = record {
  weak = flat_map (λ c. weak_forms_for c.relation c.form) cs;
  strict = flat_map (λ c. strict_forms_for c.relation c.form) cs;
}

-- they name what the table has
pub record AreNamedForms (t : DecisionTable) (f : Forms) : Type 0 where
  pub weak : AllByRecursion (IsNamedIn t) f.weak
  pub strict : AllByRecursion (IsNamedIn t) f.strict

-- ---- the rows at a step of a criterion, were it not linear

-- a rank lies above the step
abbrev pub passes : ℕ → ℕ → ℤ
passes r k = if nat_lt k r then pos 1 else pos 0

-- what one rank has of the gain of the step more than another
abbrev pub gap : ℕ → ℕ → ℕ → ℤ
gap r s k = passes r k -ℤ passes s k

-- and the first quantity of a form more than the second one
abbrev pub step_at : DecisionTable → ℕ → ℕ → Form → ℤ
step_at t i k (Value a b) = gap (rank t a i) (rank t b i) k
step_at t i k (Strength p q s) = gap (rank_in t s p.first i) (rank_in t s p.second i) k
    -ℤ gap (rank_in t s q.first i) (rank_in t s q.second i) k

abbrev pub weak_steps : DecisionTable → Forms → ℕ → ℕ → List ℤ
weak_steps t f i k = map (step_at t i k) f.weak

abbrev pub strict_steps : DecisionTable → Forms → ℕ → ℕ → List ℤ
strict_steps t f i k = pos 1 ∷ map (step_at t i k) f.strict

-- ---- what they sum up to

-- the sum of each times its multiplier, where there is one for each and the absolute values stay within 127 bits
abbrev pub narrow_sum : List ℤ → List ℤ → Option ℤ
narrow_sum xs ms = if length xs == length ms && nat_lt (absolute_dot xs ms) sum_limit then Some (dot xs ms) else None

abbrev pub IsNarrowSum : Option ℤ → Type 0
IsNarrowSum sum = IfSome sum IsNarrow

-- the sum of both parts isn't above 0
abbrev pub both_fall : Option ℤ → Option ℤ → Bool
both_fall (Some x) (Some y) = not (int_lt (pos 0) (x +ℤ y))
both_fall _ _ = false

abbrev pub step_falls : DecisionTable → Forms → Multipliers → ℕ → ℕ → Bool
step_falls t f m i k = both_fall (narrow_sum (weak_steps t f i k) m.weak) (narrow_sum (strict_steps t f i k) m.strict)

-- at each of the first n steps
abbrev pub all_fall : DecisionTable → Forms → Multipliers → ℕ → ℕ → Bool
all_fall t f m i zero = true
all_fall t f m i (suc n) = if step_falls t f m i n then all_fall t f m i n else false

-- ---- where linearity is used

-- The criterion is linear, and at some step what is summed up isn't known to fall: so the multipliers don't refute what they do, were it
-- not linear.
abbrev pub uses_linear : DecisionTable → Forms → Multipliers → ℕ → Bool
uses_linear t f m i = is_linear t i && not (all_fall t f m i (steps t i))

abbrev pub linear_if : DecisionTable → Forms → Multipliers → ℕ → List ℕ
linear_if t f m i = if uses_linear t f m i then i ∷ [] else []

-- those criteria, in order
abbrev pub linear_by : DecisionTable → Forms → Multipliers → List ℕ
linear_by t f m = flat_map (linear_if t f m) (range_with_len 0 (length t.criteria))

abbrev pub linear_used : DecisionTable → List Comparison → Multipliers → List ℕ
linear_used t cs m = linear_by t (forms_of cs) m
