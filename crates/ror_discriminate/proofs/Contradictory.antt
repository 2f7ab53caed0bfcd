-- What the check of a contradiction says of the list.
use Rattle.std.proofs.Common.{◌≡◌, ◌≢◌, List, [], subst, arith}
use Rattle.ror_text.specs.FirstFault.{IsFirst}
use Rattle.ror_statement.specs.declared.statement.Statement.{Statement}
use Rattle.ror_table.specs.Table.{DecisionTable}
use Rattle.ror_system.specs.Acceptance.{AreAcceptedMultipliers, FailsMultipliers, IsEarlierTest}
use Rattle.ror_system.specs.System.{LinearSystem}
use Rattle.ror_system.specs.declared.accept.Multipliers.{Multipliers}
use Rattle.ror_system.specs.declared.reject.Reject.{Reject}
use Rattle.ror_system.proofs.Motzkin.{not_both}
use Rattle.ror_system.proofs.MultiplierTests.{not_accepted}
use Rattle.ror_value.specs.Over.{IsLawfulIn}
use Rattle.ror_rows.proofs.Holding.{rows_hold_base}
use Rattle.ror_check.specs.Proof.{base_system}
use Rattle.ror_discriminate.specs.Margin.{strict_comparisons}
use Rattle.ror_discriminate.specs.Contradictions.{IsShownContradictory, FailsContradiction, IsEarlierContradictionFault}
use Rattle.ror_discriminate.specs.declared.fault.ContradictionFault.{ContradictionFault}
use Rattle.ror_discriminate.specs.declared.fault.ContradictionFault.TheVariants as faults

module _ (t : DecisionTable) (list : List Statement) (m : Multipliers) where
  pub shown_of : IsLawfulIn t list → strict_comparisons list ≢ [] → AreAcceptedMultipliers (base_system t list) m.weak m.strict → IsShownContradictory t list m
  shown_of lawful says accepted = record {
    says_strictly = says;
    contradictory = λ w compatible. not_both (base_system t list) m.weak m.strict accepted.refute (w, (rows_hold_base t list w lawful).0 compatible);
    accepted = accepted;
  }

  -- over the list's system
  pub shown_by : (s : LinearSystem) → s ≡ base_system t list → IsLawfulIn t list → strict_comparisons list ≢ [] → AreAcceptedMultipliers s m.weak m.strict → IsShownContradictory t list m
  shown_by s e lawful says accepted = shown_of lawful says (subst (λ (s : LinearSystem). AreAcceptedMultipliers s m.weak m.strict) e accepted)

  pub nothing_first : strict_comparisons list ≡ [] → IsFirst (FailsContradiction t list m) IsEarlierContradictionFault faults.NoStrictRow
  nothing_first none = record { fails = none; none_before = λ other l f. omega arith }

  pub multipliers_first : (s : LinearSystem) (r : Reject) → s ≡ base_system t list → strict_comparisons list ≢ [] → IsFirst (FailsMultipliers s m.weak m.strict) IsEarlierTest r → IsFirst (FailsContradiction t list m) IsEarlierContradictionFault (faults.Multipliers r)
  multipliers_first s r e says first = record {
    fails = subst (λ (s : LinearSystem). IsFirst (FailsMultipliers s m.weak m.strict) IsEarlierTest r) e first;
    none_before = before;
  }
    where
      before : (other : ContradictionFault) → IsEarlierContradictionFault other (faults.Multipliers r) → FailsContradiction t list m other → ⊥
      before faults.NoStrictRow l f = says f
      before (faults.Multipliers q) l f = omega arith
      before faults.Memory l f = f

  pub shown_passes : (f : ContradictionFault) → IsShownContradictory t list m → FailsContradiction t list m f → ⊥
  shown_passes faults.NoStrictRow shown f = shown.says_strictly f
  shown_passes (faults.Multipliers r) shown f = not_accepted (base_system t list) m.weak m.strict r f shown.accepted
  shown_passes faults.Memory shown f = f
