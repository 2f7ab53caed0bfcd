use Rattle.std.proofs.Common.{refl}
use Rattle.ror_ranks.proofs.Contradictions.{refuted_system}
use Rattle.ror_ranks.proofs.check.refutation_fault.Goals as goal

pub returns-in-Ok-clause-contradictory : goal.returns-in-Ok-clause-contradictory
returns-in-Ok-clause-contradictory c =
    refuted_system c.args.table.now c.args.list.now c.args.multipliers.now c.in_ok-system.system c.in_ok-system.ensures.system c.requires.lawful (c.in-Ok.ensures.accepted.0 refl)
