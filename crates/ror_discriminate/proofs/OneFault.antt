-- An optimum has at most one first fault.
use Rattle.std.proofs.Common.{◌≡◌, ◌≢◌, ◌⊎◌, inl, inr, ℕ, zero, suc, ◌+◌, ◌*◌, ◌/◌, ◌%◌, ◌<◌, ◌≤◌, cond, eqb, List, ℤ, refl, ap, ap₂, sym, subst, ◌∙◌, arith}
use Rattle.std.proofs.lemmas.Bool.{cases_lt}
use Rattle.ror_text.specs.FirstFault.{IsFirst}
use Rattle.ror_text.proofs.FirstFaultLemmas.{first_at}
use Rattle.ror_system.specs.declared.reject.Reject.{Reject}
use Rattle.ror_system.specs.System.{LinearSystem}
use Rattle.ror_system.proofs.Reasons.{one_solution_reason}
use Rattle.ror_pivot.specs.declared.optimum.Optimum.{Optimum}
use Rattle.ror_discriminate.specs.declared.fault.OptimalFault.{OptimalFault}
use Rattle.ror_discriminate.specs.declared.fault.OptimalFault.TheVariants as faults
use Rattle.ror_discriminate.specs.Faults.{FailsOptimal, optimal_stage, optimal_place, IsEarlierOptimalFault}

-- the test of a column at a place
by_three : ℕ → OptimalFault
by_three p = cond (eqb (p % 3) 0) (faults.ScaleWide (p / 3)) (cond (eqb (p % 3) 1) (faults.ColumnWide (p / 3)) (faults.Column (p / 3)))

-- the test at a stage and a place, that of the solution apart
test_at : ℕ → ℕ → OptimalFault
test_at zero p = faults.NoStrictRow
test_at (suc zero) p = faults.Memory
test_at (suc (suc zero)) p = faults.Total
test_at (suc (suc (suc zero))) p = faults.Length
test_at (suc (suc (suc (suc zero)))) p = faults.Negative p
test_at (suc (suc (suc (suc (suc zero))))) p = faults.OnesRow
test_at (suc (suc (suc (suc (suc (suc zero)))))) p = faults.NoStrict
test_at (suc (suc (suc (suc (suc (suc (suc n))))))) p = by_three p

scale_place : (j : ℕ) → faults.ScaleWide j ≡ by_three (3 * j)
unfolding by_three
scale_place j = let e : (3 * j) % 3 ≡ 0 = omega arith in let f : (3 * j) / 3 ≡ j = omega arith in rw (e, f)

sum_place : (j : ℕ) → faults.ColumnWide j ≡ by_three (3 * j + 1)
unfolding by_three
sum_place j = let e : (3 * j + 1) % 3 ≡ 1 = omega arith in let f : (3 * j + 1) / 3 ≡ j = omega arith in rw (e, f)

column_place : (j : ℕ) → faults.Column j ≡ by_three (3 * j + 2)
unfolding by_three
column_place j = let e : (3 * j + 2) % 3 ≡ 2 = omega arith in let f : (3 * j + 2) / 3 ≡ j = omega arith in rw (e, f)

module _ (s : LinearSystem) (tops : List ℤ) (x : Optimum) where
  is_test : (f : OptimalFault) → optimal_stage f ≢ 1 → FailsOptimal s tops x f → f ≡ test_at (optimal_stage f) (optimal_place f)
  unfolding test_at
  is_test faults.NoStrictRow other h = refl
  is_test (faults.Solution r) other h = absurd (other refl)
  is_test faults.Total other h = refl
  is_test faults.Length other h = refl
  is_test (faults.Negative k) other h = refl
  is_test faults.OnesRow other h = refl
  is_test faults.NoStrict other h = refl
  is_test (faults.ScaleWide j) other h = scale_place j
  is_test (faults.ColumnWide j) other h = sum_place j
  is_test (faults.Column j) other h = column_place j
  is_test faults.Memory other h = absurd h

  of_solution : (f : OptimalFault) → optimal_stage f ≡ 1 → (r : Reject) × (f ≡ faults.Solution r)
  of_solution faults.NoStrictRow e = absurd (omega arith)
  of_solution (faults.Solution r) e = (r, refl)
  of_solution faults.Total e = absurd (omega arith)
  of_solution faults.Length e = absurd (omega arith)
  of_solution (faults.Negative k) e = absurd (omega arith)
  of_solution faults.OnesRow e = absurd (omega arith)
  of_solution faults.NoStrict e = absurd (omega arith)
  of_solution (faults.ScaleWide j) e = absurd (omega arith)
  of_solution (faults.ColumnWide j) e = absurd (omega arith)
  of_solution (faults.Column j) e = absurd (omega arith)
  of_solution faults.Memory e = absurd (omega arith)

  same_solution : (f g : OptimalFault) → optimal_stage f ≡ 1 → optimal_stage g ≡ 1 → FailsOptimal s tops x f → FailsOptimal s tops x g → f ≡ g
  same_solution f g a b h k =
      let p = of_solution f a in
      let q = of_solution g b in
      let e = one_solution_reason s x.solution.steps p.0 q.0 (subst (FailsOptimal s tops x) p.1 h) (subst (FailsOptimal s tops x) q.1 k) in
      p.1 ∙ ap faults.Solution e ∙ sym q.1

  pub one_first_fault : (f g : OptimalFault) → IsFirst (FailsOptimal s tops x) IsEarlierOptimalFault f → IsFirst (FailsOptimal s tops x) IsEarlierOptimalFault g → f ≡ g
  one_first_fault f g first second = by (cases_lt (optimal_stage f) 1) (cases_lt 1 (optimal_stage f))
    where
      at : (optimal_stage f ≡ optimal_stage g) × (optimal_place f ≡ optimal_place g)
      at = first_at (FailsOptimal s tops x) optimal_stage optimal_place f g first second

      others : optimal_stage f ≢ 1 → f ≡ g
      others other = is_test f other first.fails ∙ ap₂ test_at at.0 at.1 ∙ sym (is_test g (λ e. other (at.0 ∙ e)) second.fails)

      by : (optimal_stage f < 1) ⊎ (1 ≤ optimal_stage f) → (1 < optimal_stage f) ⊎ (optimal_stage f ≤ 1) → f ≡ g
      by (inl l) k = others (λ e. omega arith)
      by (inr l) (inl k) = others (λ e. omega arith)
      by (inr l) (inr k) = let e : optimal_stage f ≡ 1 = omega arith in same_solution f g e (sym at.0 ∙ e) first.fails second.fails
