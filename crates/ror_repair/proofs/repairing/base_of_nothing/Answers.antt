use Rattle.std.proofs.Common.{rules, ◌<◌}
use Rattle.ror_repair.proofs.Nothing.{solution_base}
use Rattle.ror_repair.proofs.repairing.base_of_nothing.Goals as goal

pub returns-then-columns-gt0 : goal.returns-then-columns-gt0
returns-then-columns-gt0 c =
    let some : 0 < c.columns-columns.result = search rules in
    solution_base c.args.table.now c.columns-columns.result c.in_ok-steps.steps c.columns-columns.ensures.number some c.columns-columns.ensures.table.columns_limit c.in_ok-steps.ensures
