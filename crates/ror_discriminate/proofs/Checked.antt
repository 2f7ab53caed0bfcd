-- What the check of an optimum of a list's system says of the list.
use Rattle.std.proofs.Common.{◌≡◌, ◌≢◌, ◌∙◌, List, Result, Ok, Err, ℤ, subst}
use Rattle.std.specs.Prelude.{IfOk, IfErr, MatchResult}
use Rattle.ror_text.specs.FirstFault.{IsFirst}
use Rattle.ror_statement.specs.declared.statement.Statement.{Statement}
use Rattle.ror_table.specs.Table.{DecisionTable, columns}
use Rattle.ror_table.specs.Blocks.{tops}
use Rattle.ror_system.specs.System.{LinearSystem}
use Rattle.ror_value.specs.Over.{IsLawfulIn}
use Rattle.ror_check.specs.Proof.{base_system}
use Rattle.ror_pivot.specs.Optimality.{AreTops, IsAcceptedOptimum}
use Rattle.ror_pivot.specs.declared.optimum.Optimum.{Optimum}
use Rattle.ror_discriminate.specs.declared.fault.OptimalFault.{OptimalFault}
use Rattle.ror_discriminate.specs.declared.fault.OptimalFault.TheVariants as faults
use Rattle.ror_discriminate.specs.declared.margin.Margin.{Margin}
use Rattle.ror_discriminate.specs.Margin.{IsMostDiscriminating, IsMarginOf}
use Rattle.ror_discriminate.specs.Faults.{FailsOptimal, IsEarlierOptimalFault}
use Rattle.ror_discriminate.specs.Steps.{IsMarginAt}
use Rattle.ror_discriminate.proofs.Margins.{least_margins, most_discriminating}
use Rattle.ror_discriminate.proofs.OptimalTests.{passes}

-- what the check over a system answers
abbrev pub IsChecked : LinearSystem → List ℤ → Optimum → Result Margin OptimalFault → Type 0
IsChecked s top x r = MatchResult r (λ margin. IsAcceptedOptimum s top x × IsMarginAt s top x.solution.steps margin)
    (IsFirst (FailsOptimal s top x) IsEarlierOptimalFault)

module _ (t : DecisionTable) (list : List Statement) where
  -- over the system of a list
  pub checked_of_list : (s : LinearSystem) (top : List ℤ) (x : Optimum) (r : Result Margin OptimalFault) → s ≡ base_system t list → top ≡ tops t → IsChecked s top x r → IsChecked (base_system t list) (tops t) x r
  checked_of_list s top x r e f h = subst (λ (ts : List ℤ). IsChecked (base_system t list) ts x r) f (subst (λ (s : LinearSystem). IsChecked s top x r) e h)

  pub margin_is : (steps : List ℤ) (m : Margin) → IsLawfulIn t list → IsMarginAt (base_system t list) (tops t) steps m → IsMarginOf t list steps m
  margin_is steps m lawful h = record { least_is = h.least_is ∙ least_margins t list steps lawful; total_is = h.total_is }

  pub checked_margin : (x : Optimum) (r : Result Margin OptimalFault) → IsLawfulIn t list → IsChecked (base_system t list) (tops t) x r → IfOk r (IsMarginOf t list x.solution.steps)
  checked_margin x (Ok m) lawful h = margin_is x.solution.steps m lawful h.1
  checked_margin x (Err f) lawful h = tt

  pub checked_best : (x : Optimum) (r : Result Margin OptimalFault) → IsLawfulIn t list → AreTops (columns t) (tops t) → IsChecked (base_system t list) (tops t) x r → IfOk r (λ _. IsMostDiscriminating t list x.solution.steps)
  checked_best x (Ok m) lawful are h = most_discriminating t list x.solution.steps x.multipliers.weak x.multipliers.strict are lawful h.0
  checked_best x (Err f) lawful are h = tt

  pub checked_not_accepted : (x : Optimum) (r : Result Margin OptimalFault) → IsChecked (base_system t list) (tops t) x r → IfErr r (λ e. e ≢ faults.Memory → IsAcceptedOptimum (base_system t list) (tops t) x → ⊥)
  checked_not_accepted x (Ok m) h = tt
  checked_not_accepted x (Err f) h = λ ne best. passes (base_system t list) (tops t) x best f h.fails
