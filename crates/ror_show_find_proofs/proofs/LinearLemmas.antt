-- What is compared names what the table has, and the entries at a step are small.
use Rattle.std.proofs.Common.{◌≡◌, ℕ, zero, suc, ◌+◌, ◌<◌, ◌≤◌, Bool, true, false, List, [], ◌∷◌, length, map, Option, Some, None, ℤ, pos, ◌-ℤ◌, ap, arith, if◌then◌else◌}
use Rattle.std.specs.Prelude.{nat_lt, unsigned_abs, MatchOption}
use Rattle.std.specs.List.{AllByRecursion, range_with_len}
use Rattle.std.proofs.lemmas.Int.{ints}
use Rattle.ror_text.proofs.Everywhere.{all-append, all-by, all-pieces}
use Rattle.ror_statement.specs.declared.comparison.Comparison.{Comparison}
use Rattle.ror_statement.specs.declared.comparison.Form.{Form}
use Rattle.ror_statement.specs.declared.comparison.Form.TheVariants.{Value, Strength}
use Rattle.ror_statement.specs.declared.comparison.Relation.{Relation}
use Rattle.ror_statement.specs.declared.comparison.Relation.TheVariants.{Above, AtLeast, Equal}
use Rattle.ror_statement.specs.declared.statement.Statement.{Statement}
use Rattle.ror_statement.specs.declared.question.Question.{Question}
use Rattle.ror_statement.specs.Statements.{comparisons_of}
use Rattle.ror_table.specs.Table.{DecisionTable, rank}
use Rattle.ror_value.specs.Over.{IsNamedIn, IsLawfulIn, IsAskedIn}
use Rattle.ror_integers.specs.Vectors.{dot, absolute_dot}
use Rattle.ror_integers.proofs.Dots.{dot-le-absolute_dot}
use Rattle.ror_system.specs.System.{sum_limit, IsNarrow}
use Rattle.ror_system.specs.declared.accept.Multipliers.{Multipliers}
use Rattle.ror_rows.specs.Laws.{AreNamed}
use Rattle.ror_rows.specs.Rows.{rank_in}
use Rattle.ror_rows.proofs.Building.{comparisons_named, turned-named}
use Rattle.ror_proof.specs.declared.answer.Verdict.{Verdict}
use Rattle.ror_show_find_proofs.specs.declared.compared.Forms.{Forms}
use Rattle.ror_show_find_proofs.specs.Sums.{asked_besides}
use Rattle.ror_show_find_proofs.specs.Linear.{compared, weak_forms_for, strict_forms_for, forms_of, AreNamedForms, passes, step_at, IsNarrowSum, uses_linear, linear_if, linear_by}
use Rattle.ror_show_find_proofs.proofs.Sufficing.{besides_named}

pub compared_named : (t : DecisionTable) (list : List Statement) (q : Question) (v : Verdict) → IsLawfulIn t list → IsAskedIn t q → AreNamed t (compared list q v)
compared_named t list q v lawful asked =
    all-append (λ (c : Comparison). IsNamedIn t c.form) (comparisons_of list) (asked_besides list q v) (comparisons_named t list lawful.each_valid) (besides_named t list q v lawful asked)

weak_named : (t : DecisionTable) (r : Relation) (f : Form) → IsNamedIn t f → AllByRecursion (IsNamedIn t) (weak_forms_for r f)
weak_named t Above f named = tt
weak_named t AtLeast f named = (named, tt)
weak_named t Equal f named = (named, (turned-named t f named, tt))

strict_named : (t : DecisionTable) (r : Relation) (f : Form) → IsNamedIn t f → AllByRecursion (IsNamedIn t) (strict_forms_for r f)
strict_named t Above f named = (named, tt)
strict_named t AtLeast f named = tt
strict_named t Equal f named = tt

pub forms_named : (t : DecisionTable) (cs : List Comparison) → AreNamed t cs → AreNamedForms t (forms_of cs)
forms_named t cs named = record {
  weak = all-pieces (IsNamedIn t) (λ (c : Comparison). weak_forms_for c.relation c.form) cs
      (all-by (λ (c : Comparison). IsNamedIn t c.form) (λ (c : Comparison). AllByRecursion (IsNamedIn t) (weak_forms_for c.relation c.form)) cs (λ c is. weak_named t c.relation c.form is) named);
  strict = all-pieces (IsNamedIn t) (λ (c : Comparison). strict_forms_for c.relation c.form) cs
      (all-by (λ (c : Comparison). IsNamedIn t c.form) (λ (c : Comparison). AllByRecursion (IsNamedIn t) (strict_forms_for c.relation c.form)) cs (λ c is. strict_named t c.relation c.form is) named);
}

-- ---- entries

abbrev IsSmall : ℕ → ℤ → Type 0
IsSmall n x = unsigned_abs x ≤ n

passes_small : (r k : ℕ) → IsSmall 1 (passes r k)
passes_small r k = by (nat_lt k r)
  where
    by : (b : Bool) → IsSmall 1 (if b then pos 1 else pos 0)
    by true = omega arith
    by false = omega arith

difference_small : (m n : ℕ) (x y : ℤ) → IsSmall m x → IsSmall n y → unsigned_abs (x -ℤ y) ≤ m + n
difference_small m n x y first second = omega (arith, ints, first, second)

pub step_narrow : (t : DecisionTable) (i k : ℕ) (f : Form) → IsNarrow (step_at t i k f)
step_narrow t i k (Value a b) =
    let small = difference_small 1 1 (passes (rank t a i) k) (passes (rank t b i) k) (passes_small (rank t a i) k) (passes_small (rank t b i) k) in
    omega (arith, small)
step_narrow t i k (Strength p q s) =
    let first = difference_small 1 1 (passes (rank_in t s p.first i) k) (passes (rank_in t s p.second i) k) (passes_small (rank_in t s p.first i) k) (passes_small (rank_in t s p.second i) k) in
    let second = difference_small 1 1 (passes (rank_in t s q.first i) k) (passes (rank_in t s q.second i) k) (passes_small (rank_in t s q.first i) k) (passes_small (rank_in t s q.second i) k) in
    let small = difference_small 2 2 (passes (rank_in t s p.first i) k -ℤ passes (rank_in t s p.second i) k) (passes (rank_in t s q.first i) k -ℤ passes (rank_in t s q.second i) k) first second in
    omega (arith, small)

pub steps_narrow : (t : DecisionTable) (i k : ℕ) (fs : List Form) → AllByRecursion IsNarrow (map (step_at t i k) fs)
steps_narrow t i k [] = tt
steps_narrow t i k (f ∷ fs) = (step_narrow t i k f, steps_narrow t i k fs)

pub strict_steps_narrow : (t : DecisionTable) (i k : ℕ) (fs : List Form) → AllByRecursion IsNarrow (pos 1 ∷ map (step_at t i k) fs)
strict_steps_narrow t i k fs = (omega arith, steps_narrow t i k fs)

pub narrow_at : (o : Option ℤ) (row ms : List ℤ) → MatchOption o (sum_limit ≤ absolute_dot row ms) (λ sum. (sum ≡ dot row ms) × (absolute_dot row ms < sum_limit)) → IsNarrowSum o
narrow_at None row ms is = tt
narrow_at (Some z) row ms is =
    let same = ap unsigned_abs is.0 in
    let least = dot-le-absolute_dot row ms in
    let less = is.1 in
    omega (arith, same, least, less)

-- ---- criteria

pub linear_there : (t : DecisionTable) (f : Forms) (m : Multipliers) → AllByRecursion (λ i. i < length t.criteria) (linear_by t f m)
linear_there t f m = all-pieces (λ i. i < length t.criteria) (linear_if t f m) (range_with_len 0 (length t.criteria)) (each (length t.criteria) 0 (omega arith))
  where
    one : (i : ℕ) → i < length t.criteria → AllByRecursion (λ j. j < length t.criteria) (linear_if t f m i)
    one i within = by (uses_linear t f m i)
      where
        by : (b : Bool) → AllByRecursion (λ j. j < length t.criteria) (if b then i ∷ [] else [])
        by true = (within, tt)
        by false = tt

    each : (n first : ℕ) → first + n ≤ length t.criteria → AllByRecursion (λ i. AllByRecursion (λ j. j < length t.criteria) (linear_if t f m i)) (range_with_len first n)
    each zero first within = tt
    each (suc n) first within = (one first (omega (arith, within)), each n (first + 1) (omega (arith, within)))
