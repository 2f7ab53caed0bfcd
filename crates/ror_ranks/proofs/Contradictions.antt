-- What multipliers that refute a list's system say of the list.
use Rattle.std.proofs.Common.{◌≡◌, List, subst}
use Rattle.ror_statement.specs.declared.statement.Statement.{Statement}
use Rattle.ror_table.specs.Table.{DecisionTable}
use Rattle.ror_system.specs.System.{LinearSystem}
use Rattle.ror_system.specs.Acceptance.{AreAcceptedMultipliers}
use Rattle.ror_system.specs.declared.accept.Multipliers.{Multipliers}
use Rattle.ror_system.proofs.Motzkin.{not_both}
use Rattle.ror_value.specs.Over.{IsLawfulIn}
use Rattle.ror_value.specs.Meaning.{IsContradictory}
use Rattle.ror_rows.proofs.Holding.{rows_hold_base}
use Rattle.ror_check.specs.Proof.{base_system}

-- where they are accepted, no function is compatible with the list
pub refuted_is_contradictory : (t : DecisionTable) (list : List Statement) (m : Multipliers) → IsLawfulIn t list → AreAcceptedMultipliers (base_system t list) m.weak m.strict → IsContradictory t list
refuted_is_contradictory t list m lawful accepted =
    λ w compatible. not_both (base_system t list) m.weak m.strict accepted.refute (w, (rows_hold_base t list w lawful).0 compatible)

-- over the system that was made of the list
pub refuted_system : (t : DecisionTable) (list : List Statement) (m : Multipliers) (s : LinearSystem) → s ≡ base_system t list → IsLawfulIn t list → AreAcceptedMultipliers s m.weak m.strict → IsContradictory t list
refuted_system t list m s e lawful accepted = refuted_is_contradictory t list m lawful (subst (λ (s : LinearSystem). AreAcceptedMultipliers s m.weak m.strict) e accepted)
