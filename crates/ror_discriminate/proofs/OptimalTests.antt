-- What follows from the tests of an optimum: acceptance, or a first fault; and that an accepted one passes each test.
use Rattle.std.proofs.Common.{◌≡◌, ◌≢◌, ◌⊎◌, inl, inr, ℕ, ◌+◌, ◌*◌, ◌<◌, ◌≤◌, List, [], ◌∷◌, ◌++◌, length, drop, ℤ, pos, ◌*ℤ◌, ◌≤ℤ◌, ◌<ℤ◌, unsigned_abs, refl, ap, sym, subst, ◌∙◌, arith}
use Rattle.std.specs.List.{AllByRecursion}
use Rattle.std.proofs.lemmas.Bool.{cases_lt}
use Rattle.std.proofs.lemmas.Int.{by_lt_z, ints}
use Rattle.ror_integers.specs.Vectors.{entry, dot, absolute_dot, total, column, NoneNegative, SomePositive}
use Rattle.ror_integers.proofs.Ring.{sums, product_comm, product-one}
use Rattle.ror_integers.proofs.Order.{mul_le}
use Rattle.ror_integers.proofs.Signs.{NoneNegative-entry, NoneNegative-append_right, total_positive, some_positive_or_none}
use Rattle.ror_text.specs.FirstFault.{IsFirst}
use Rattle.ror_system.specs.System.{LinearSystem, IsNarrow, sum_limit}
use Rattle.ror_system.specs.Acceptance.{rows_of, IsAcceptedSolution, FailsMultipliers, IsEarlierTest}
use Rattle.ror_system.specs.declared.reject.Reject.TheVariants as rejects
use Rattle.ror_system.proofs.SolutionTests.{not_accepted}
use Rattle.ror_pivot.specs.Optimality.{AreTops, IsBest, strict_rows, least_value, total_by}
use Rattle.ror_pivot.specs.declared.optimum.Optimum.{Optimum}
use Rattle.ror_discriminate.specs.declared.fault.OptimalFault.{OptimalFault}
use Rattle.ror_discriminate.specs.declared.fault.OptimalFault.TheVariants as faults
use Rattle.ror_discriminate.specs.Faults.{FailsOptimal, optimal_stage, optimal_place, IsEarlierOptimalFault}
use Rattle.ror_discriminate.specs.Steps.{RefusesSteps, HaveForm, AreWeights, RefusesWeights, PassesColumn, RefusesColumn, PassesBelow}

pub same_number : (a b : ℕ) → (a ≢ b → ⊥) → a ≡ b
same_number a b h = at (cases_lt a b) (cases_lt b a)
  where
    at : (a < b) ⊎ (b ≤ a) → (b < a) ⊎ (a ≤ b) → a ≡ b
    at (inl l) k = absurd (h (λ e. omega arith))
    at (inr l) (inl k) = absurd (h (λ e. omega arith))
    at (inr l) (inr k) = omega arith

pub some_or_none : (xs : List ℤ) → ((SomePositive xs → ⊥) → ⊥) → SomePositive xs
some_or_none xs h = at (some_positive_or_none xs)
  where
    at : SomePositive xs ⊎ ((j : ℕ) → entry xs j ≤ℤ pos 0) → SomePositive xs
    at (inl p) = p
    at (inr n) = absurd (h (λ p. let q = n p.0 in let r = p.2 in omega (arith, sums)))

module _ (s : LinearSystem) (tops : List ℤ) (x : Optimum) where
  -- the tests of the stages below n are passed, those of columns apart
  record PassedStages (n : ℕ) : Type 0 where
    rows : 0 < n → strict_rows s ≢ []
    solution : 1 < n → IsAcceptedSolution s x.solution.steps
    total_within : 2 < n → IsNarrow (total_by tops x.solution.steps)
    lengths : 3 < n → (length x.multipliers.weak ≡ length s.weak) × (length x.multipliers.strict ≡ length s.strict)
    signs : 4 < n → NoneNegative (x.multipliers.weak ++ x.multipliers.strict)
    ones : 5 < n → entry x.multipliers.strict 0 ≡ pos 0
    some : 6 < n → SomePositive x.multipliers.strict

  stage_passed : (n : ℕ) → n ≤ 7 → PassedStages n → (g : OptimalFault) → optimal_stage g < n → FailsOptimal s tops x g → ⊥
  stage_passed n most p faults.NoStrictRow l f = p.rows l f
  stage_passed n most p (faults.Solution r) l f = not_accepted s x.solution.steps r f (p.solution l)
  stage_passed n most p faults.Total l f = f (p.total_within l)
  stage_passed n most p faults.Length l (inl f) = f (p.lengths l).0
  stage_passed n most p faults.Length l (inr f) = f (p.lengths l).1
  stage_passed n most p (faults.Negative k) l f = let a = NoneNegative-entry (x.multipliers.weak ++ x.multipliers.strict) k (p.signs l) in let b = f.1 in omega (arith, sums)
  stage_passed n most p faults.OnesRow l f = f (p.ones l)
  stage_passed n most p faults.NoStrict l f = f (p.some l)
  stage_passed n most p (faults.ScaleWide j) l f = absurd (omega arith)
  stage_passed n most p (faults.ColumnWide j) l f = absurd (omega arith)
  stage_passed n most p (faults.Column j) l f = absurd (omega arith)
  stage_passed n most p faults.Memory l f = f

  -- a fault at the first place of its stage
  first_of_stage : (f : OptimalFault) → optimal_stage f ≤ 7 → optimal_place f ≡ 0 → PassedStages (optimal_stage f) → FailsOptimal s tops x f → IsFirst (FailsOptimal s tops x) IsEarlierOptimalFault f
  first_of_stage f most place p fails = record { fails = fails; none_before = before }
    where
      before : (g : OptimalFault) → IsEarlierOptimalFault g f → FailsOptimal s tops x g → ⊥
      before g (inl l) h = stage_passed (optimal_stage f) most p g l h
      before g (inr both) h = let l = both.1 in absurd (omega arith)

  -- ---- the rows and the solution
  pub rows_first : strict_rows s ≡ [] → IsFirst (FailsOptimal s tops x) IsEarlierOptimalFault faults.NoStrictRow
  rows_first none = first_of_stage faults.NoStrictRow (omega arith) refl (record {
    rows = λ l. absurd (omega arith);
    solution = λ l. absurd (omega arith);
    total_within = λ l. absurd (omega arith);
    lengths = λ l. absurd (omega arith);
    signs = λ l. absurd (omega arith);
    ones = λ l. absurd (omega arith);
    some = λ l. absurd (omega arith);
  }) none

  pub steps_first : strict_rows s ≢ [] → (f : OptimalFault) → RefusesSteps s tops x.solution.steps f → IsFirst (FailsOptimal s tops x) IsEarlierOptimalFault f
  steps_first rows faults.NoStrictRow h = absurd h
  steps_first rows (faults.Solution r) h = first_of_stage (faults.Solution r) (omega arith) refl (record {
    rows = λ l. rows;
    solution = λ l. absurd (omega arith);
    total_within = λ l. absurd (omega arith);
    lengths = λ l. absurd (omega arith);
    signs = λ l. absurd (omega arith);
    ones = λ l. absurd (omega arith);
    some = λ l. absurd (omega arith);
  }) h
  steps_first rows faults.Total h = first_of_stage faults.Total (omega arith) refl (record {
    rows = λ l. rows;
    solution = λ l. h.0;
    total_within = λ l. absurd (omega arith);
    lengths = λ l. absurd (omega arith);
    signs = λ l. absurd (omega arith);
    ones = λ l. absurd (omega arith);
    some = λ l. absurd (omega arith);
  }) h.1
  steps_first rows faults.Length h = absurd h
  steps_first rows (faults.Negative k) h = absurd h
  steps_first rows faults.OnesRow h = absurd h
  steps_first rows faults.NoStrict h = absurd h
  steps_first rows (faults.ScaleWide j) h = absurd h
  steps_first rows (faults.ColumnWide j) h = absurd h
  steps_first rows (faults.Column j) h = absurd h
  steps_first rows faults.Memory h = absurd h

  -- ---- the multipliers
  module _ (rows : strict_rows s ≢ []) (accepted : IsAcceptedSolution s x.solution.steps) (within : IsNarrow (total_by tops x.solution.steps)) where
    solution_passed : PassedStages 3
    solution_passed = record {
      rows = λ l. rows;
      solution = λ l. accepted;
      total_within = λ l. within;
      lengths = λ l. absurd (omega arith);
      signs = λ l. absurd (omega arith);
      ones = λ l. absurd (omega arith);
      some = λ l. absurd (omega arith);
    }

    form_passed : HaveForm s x.multipliers.weak x.multipliers.strict → PassedStages 5
    form_passed form = record {
      rows = λ l. rows;
      solution = λ l. accepted;
      total_within = λ l. within;
      lengths = λ l. (form.one_for_each_weak, form.one_for_each_strict);
      signs = λ l. form.none_negative;
      ones = λ l. absurd (omega arith);
      some = λ l. absurd (omega arith);
    }

    ones_passed : HaveForm s x.multipliers.weak x.multipliers.strict → entry x.multipliers.strict 0 ≡ pos 0 → PassedStages 6
    ones_passed form ones = record {
      rows = λ l. rows;
      solution = λ l. accepted;
      total_within = λ l. within;
      lengths = λ l. (form.one_for_each_weak, form.one_for_each_strict);
      signs = λ l. form.none_negative;
      ones = λ l. ones;
      some = λ l. absurd (omega arith);
    }

    weights_passed : AreWeights s x.multipliers.weak x.multipliers.strict → PassedStages 7
    weights_passed w = record {
      rows = λ l. rows;
      solution = λ l. accepted;
      total_within = λ l. within;
      lengths = λ l. (w.form.one_for_each_weak, w.form.one_for_each_strict);
      signs = λ l. w.form.none_negative;
      ones = λ l. w.ones_row;
      some = λ l. w.some_strict;
    }

    -- the number of multipliers is right where another test of them is the first to fail
    same_lengths : (k : ℕ) → IsFirst (FailsMultipliers s x.multipliers.weak x.multipliers.strict) IsEarlierTest (rejects.Negative k) → (length x.multipliers.weak ≡ length s.weak) × (length x.multipliers.strict ≡ length s.strict)
    same_lengths k h = (same_number _ _ (λ ne. h.none_before rejects.Length (inl (omega arith)) (inl ne)), same_number _ _ (λ ne. h.none_before rejects.Length (inl (omega arith)) (inr ne)))

    negative_first : (k : ℕ) → IsFirst (FailsMultipliers s x.multipliers.weak x.multipliers.strict) IsEarlierTest (rejects.Negative k) → IsFirst (FailsOptimal s tops x) IsEarlierOptimalFault (faults.Negative k)
    negative_first k h = record { fails = h.fails; none_before = before }
      where
        passed : PassedStages 4
        passed = record {
          rows = λ l. rows;
          solution = λ l. accepted;
          total_within = λ l. within;
          lengths = λ l. same_lengths k h;
          signs = λ l. absurd (omega arith);
          ones = λ l. absurd (omega arith);
          some = λ l. absurd (omega arith);
        }

        same_stage : (g : OptimalFault) → optimal_stage g ≡ 4 → optimal_place g < k → FailsOptimal s tops x g → ⊥
        same_stage faults.NoStrictRow e l f = omega arith
        same_stage (faults.Solution r) e l f = omega arith
        same_stage faults.Total e l f = omega arith
        same_stage faults.Length e l f = omega arith
        same_stage (faults.Negative j) e l f = h.none_before (rejects.Negative j) (inr (refl, l)) f
        same_stage faults.OnesRow e l f = omega arith
        same_stage faults.NoStrict e l f = omega arith
        same_stage (faults.ScaleWide j) e l f = omega arith
        same_stage (faults.ColumnWide j) e l f = omega arith
        same_stage (faults.Column j) e l f = omega arith
        same_stage faults.Memory e l f = f

        before : (g : OptimalFault) → IsEarlierOptimalFault g (faults.Negative k) → FailsOptimal s tops x g → ⊥
        before g (inl l) f = stage_passed 4 (omega arith) passed g l f
        before g (inr both) f = same_stage g both.0 both.1 f

    pub weights_first : (f : OptimalFault) → RefusesWeights s x.multipliers.weak x.multipliers.strict f → IsFirst (FailsOptimal s tops x) IsEarlierOptimalFault f
    weights_first faults.NoStrictRow h = absurd h
    weights_first (faults.Solution r) h = absurd h
    weights_first faults.Total h = absurd h
    weights_first faults.Length h = first_of_stage faults.Length (omega arith) refl solution_passed h.fails
    weights_first (faults.Negative k) h = negative_first k h
    weights_first faults.OnesRow h = first_of_stage faults.OnesRow (omega arith) refl (form_passed h.0) h.1
    weights_first faults.NoStrict h = first_of_stage faults.NoStrict (omega arith) refl (ones_passed h.0 h.1) h.2
    weights_first (faults.ScaleWide j) h = absurd h
    weights_first (faults.ColumnWide j) h = absurd h
    weights_first (faults.Column j) h = absurd h
    weights_first faults.Memory h = absurd h

    pub columns_start : AreWeights s x.multipliers.weak x.multipliers.strict → PassesBelow s tops x 0
    columns_start w = record { strict = rows; solution = accepted; total_within = within; weights = w; columns = λ k l. absurd (omega arith) }

  -- ---- the columns
  all_stages : (j : ℕ) → PassesBelow s tops x j → PassedStages 7
  all_stages j p = weights_passed p.strict p.solution p.total_within p.weights

  -- a fault of column j, none of the same column that comes before it, and none of a column below
  column_fault_first : (j : ℕ) (f : OptimalFault) → PassesBelow s tops x j → optimal_stage f ≡ 7 → optimal_place f < 3 * (j + 1) → FailsOptimal s tops x f
      → (3 * j < optimal_place f → FailsOptimal s tops x (faults.ScaleWide j) → ⊥) → (3 * j + 1 < optimal_place f → FailsOptimal s tops x (faults.ColumnWide j) → ⊥) → IsFirst (FailsOptimal s tops x) IsEarlierOptimalFault f
  column_fault_first j f p stage place fails no_scale no_sum = record { fails = fails; none_before = before }
    where
      scale_at : (i : ℕ) → 3 * i < optimal_place f → FailsOptimal s tops x (faults.ScaleWide i) → (i < j) ⊎ (j ≤ i) → ⊥
      scale_at i l g (inl less) = (p.columns i less).scale g
      scale_at i l g (inr more) = let e : i ≡ j = omega arith in no_scale (omega arith) (subst (λ (k : ℕ). FailsOptimal s tops x (faults.ScaleWide k)) e g)

      sum_at : (i : ℕ) → 3 * i + 1 < optimal_place f → FailsOptimal s tops x (faults.ColumnWide i) → (i < j) ⊎ (j ≤ i) → ⊥
      sum_at i l g (inl less) = (p.columns i less).sum g
      sum_at i l g (inr more) = let e : i ≡ j = omega arith in no_sum (omega arith) (subst (λ (k : ℕ). FailsOptimal s tops x (faults.ColumnWide k)) e g)

      same_stage : (g : OptimalFault) → optimal_stage g ≡ 7 → optimal_place g < optimal_place f → FailsOptimal s tops x g → ⊥
      same_stage faults.NoStrictRow e l h = omega arith
      same_stage (faults.Solution r) e l h = omega arith
      same_stage faults.Total e l h = omega arith
      same_stage faults.Length e l h = omega arith
      same_stage (faults.Negative k) e l h = omega arith
      same_stage faults.OnesRow e l h = omega arith
      same_stage faults.NoStrict e l h = omega arith
      same_stage (faults.ScaleWide i) e l h = scale_at i l h (cases_lt i j)
      same_stage (faults.ColumnWide i) e l h = sum_at i l h (cases_lt i j)
      same_stage (faults.Column i) e l h = (p.columns i (omega arith)).inequality h
      same_stage faults.Memory e l h = h

      before : (g : OptimalFault) → IsEarlierOptimalFault g f → FailsOptimal s tops x g → ⊥
      before g (inl l) h = stage_passed 7 (omega arith) (all_stages j p) g (omega arith) h
      before g (inr both) h = same_stage g (both.0 ∙ stage) both.1 h

  pub column_first : (j : ℕ) (f : OptimalFault) → PassesBelow s tops x j → RefusesColumn s tops x j f → IsFirst (FailsOptimal s tops x) IsEarlierOptimalFault f
  column_first j f p (inl h) =
      subst (IsFirst (FailsOptimal s tops x) IsEarlierOptimalFault) (sym h.0) (column_fault_first j (faults.ScaleWide j) p refl (omega arith) (subst (FailsOptimal s tops x) h.0 h.1) (λ l. absurd (omega arith)) (λ l. absurd (omega arith)))
  column_first j f p (inr (inl h)) =
      subst (IsFirst (FailsOptimal s tops x) IsEarlierOptimalFault) (sym h.0) (column_fault_first j (faults.ColumnWide j) p refl (omega arith) (subst (FailsOptimal s tops x) h.0 h.1) (λ l. h.2) (λ l. absurd (omega arith)))
  column_first j f p (inr (inr h)) =
      subst (IsFirst (FailsOptimal s tops x) IsEarlierOptimalFault) (sym h.0) (column_fault_first j (faults.Column j) p refl (omega arith) (subst (FailsOptimal s tops x) h.0 h.1) (λ l. h.2) (λ l. h.3))

  pub columns_more : (j : ℕ) → PassesBelow s tops x j → PassesColumn s tops x j → PassesBelow s tops x (j + 1)
  columns_more j p here = record { strict = p.strict; solution = p.solution; total_within = p.total_within; weights = p.weights; columns = λ k l. at k (cases_lt k j) l }
    where
      at : (k : ℕ) → (k < j) ⊎ (j ≤ k) → k < j + 1 → PassesColumn s tops x k
      at k (inl less) l = p.columns k less
      at k (inr more) l = let e : j ≡ k = omega arith in subst (PassesColumn s tops x) e here

  -- ---- acceptance
  narrow_of : (z : ℤ) → ((IsNarrow z → ⊥) → ⊥) → IsNarrow z
  narrow_of z h = elim (cases_lt (unsigned_abs z) sum_limit) [ inl l ↦ l | inr l ↦ absurd (h (λ n. omega arith)) ]

  pub accepted : (n : ℕ) → PassesBelow s tops x n → s.columns ≤ n → IsBest s tops x.solution.steps x.multipliers.weak x.multipliers.strict
  accepted n p all = record {
    solution = p.solution;
    total_within = p.total_within;
    one_for_each_weak = p.weights.form.one_for_each_weak;
    one_for_each_strict = p.weights.form.one_for_each_strict;
    none_negative = p.weights.form.none_negative;
    ones_row = p.weights.ones_row;
    some_strict = p.weights.some_strict;
    scales_within = λ j l. narrow_of (entry tops j *ℤ total x.multipliers.strict) (λ f. (p.columns j (omega arith)).scale (l, f));
    columns_within = λ j l. elim (cases_lt (absolute_dot (x.multipliers.weak ++ x.multipliers.strict) (column (rows_of s) j)) sum_limit) [ inl m ↦ m | inr m ↦ absurd ((p.columns j (omega arith)).sum (l, m)) ];
    columns_best = λ j l. by_lt_z (least_value s x.solution.steps *ℤ (entry tops j *ℤ total x.multipliers.strict)) (total_by tops x.solution.steps *ℤ dot (x.multipliers.weak ++ x.multipliers.strict) (column (rows_of s) j)) (λ m. absurd ((p.columns j (omega arith)).inequality (l, m))) (λ m. m);
  }

  -- some strict row stands beside that of ones, which a multiplier above 0 can't weigh
  pub some_row : IsBest s tops x.solution.steps x.multipliers.weak x.multipliers.strict → strict_rows s ≢ []
  some_row best none = no_second s.strict x.multipliers.strict best.one_for_each_strict best.ones_row best.some_strict none
    where
      no_second : (rows : List (List ℤ)) (zs : List ℤ) → length zs ≡ length rows → entry zs 0 ≡ pos 0 → SomePositive zs → drop 1 rows ≡ [] → ⊥
      no_second [] zs long first some none = let l = some.1 in omega arith
      no_second (row ∷ rows) zs long first some none =
          let l = some.1 in
          let few = ap length none in
          let e : some.0 ≡ 0 = omega arith in
          let f = ap (entry zs) e in
          let p = some.2 in
          omega (arith, sums)

  pub passes : IsBest s tops x.solution.steps x.multipliers.weak x.multipliers.strict → (f : OptimalFault) → FailsOptimal s tops x f → ⊥
  passes best faults.NoStrictRow f = some_row best f
  passes best (faults.Solution r) f = not_accepted s x.solution.steps r f best.solution
  passes best faults.Total f = f best.total_within
  passes best faults.Length (inl f) = f best.one_for_each_weak
  passes best faults.Length (inr f) = f best.one_for_each_strict
  passes best (faults.Negative k) f = let a = NoneNegative-entry (x.multipliers.weak ++ x.multipliers.strict) k best.none_negative in let b = f.1 in omega (arith, sums)
  passes best faults.OnesRow f = f best.ones_row
  passes best faults.NoStrict f = f best.some_strict
  passes best (faults.ScaleWide j) f = f.1 (best.scales_within j f.0)
  passes best (faults.ColumnWide j) f = let a = best.columns_within j f.0 in let b = f.1 in omega arith
  passes best (faults.Column j) f = let a = best.columns_best j f.0 in let b = f.1 in omega (arith, sums)
  passes best faults.Memory f = f

  -- ---- the sum of the strict multipliers
  -- a sum that is too large is so at the first column, which counts at least 1
  pub weight_first : AreTops s.columns tops → PassesBelow s tops x 0 → (((pos 0 <ℤ total x.multipliers.strict) × IsNarrow (total x.multipliers.strict)) → ⊥) → IsFirst (FailsOptimal s tops x) IsEarlierOptimalFault (faults.ScaleWide 0)
  weight_first are p wide = column_fault_first 0 (faults.ScaleWide 0) p refl (omega arith) (some_column, λ narrow. wide (some, small narrow)) (λ l. absurd (omega arith)) (λ l. absurd (omega arith))
    where
      some : pos 0 <ℤ total x.multipliers.strict
      some = total_positive x.multipliers.strict (NoneNegative-append_right x.multipliers.weak x.multipliers.strict p.weights.form.none_negative) p.weights.some_strict

      some_column : 0 < s.columns
      some_column = at x.solution.steps p.solution.total_positive p.solution.solves.one_for_each_column
        where
          at : (d : List ℤ) → pos 0 <ℤ total d → length d ≡ s.columns → 0 < s.columns
          at [] positive long = absurd positive.lt
          at (y ∷ d) positive long = omega arith

      small : IsNarrow (entry tops 0 *ℤ total x.multipliers.strict) → IsNarrow (total x.multipliers.strict)
      small narrow =
          let top = at_least tops are.at_least_one (let long = are.one_for_each_column in omega (arith, some_column)) in
          let more = mul_le (total x.multipliers.strict) (pos 1) (entry tops 0) (omega (arith, sums, some)) top in
          smaller (total x.multipliers.strict) (entry tops 0 *ℤ total x.multipliers.strict) some (omega (arith, sums, product_comm (total x.multipliers.strict) (entry tops 0), product-one (total x.multipliers.strict))) narrow
        where
          at_least : (ts : List ℤ) → AllByRecursion (λ t. pos 1 ≤ℤ t) ts → 0 < length ts → pos 1 ≤ℤ entry ts 0
          at_least [] all l = absurd (omega arith)
          at_least (t ∷ ts) all l = all.0

          smaller : (a b : ℤ) → pos 0 <ℤ a → a ≤ℤ b → IsNarrow b → IsNarrow a
          smaller a b low le narrow = omega (arith, ints)
