use Rattle.std.proofs.Common.{◌∙◌}
use Rattle.ror_check.specs.Repair.{numbers_of}
use Rattle.ror_bench.proofs.RepairLemmas.{never_refused}
use Rattle.ror_bench.proofs.desk.withdraw_dropped.Goals as goal

pub unreachable-requires : goal.unreachable-requires
unreachable-requires c =
    never_refused c.args.history.now.state (numbers_of c.args.dropped.now) c.as_slice.result.now c.in-Err.fault c.requires.standing (c.as_slice.ensures.value ∙ c.in_ok-numbers.ensures) c.in_default.not-Memory c.in-Err.ensures.refused
