use Rattle.ror_report.proofs.BlockFaults.{block_err, block_fails, end_err, end_fails}
use Rattle.ror_report.proofs.laws.the_first_fault_is_given.Goals as goal

pub returns-clause-block : goal.returns-clause-block
returns-clause-block c = λ t from fault table. (block_err t from fault, block_fails t from fault table)

pub returns-clause-end : goal.returns-clause-end
returns-clause-end c = λ t from fault. (end_err t from fault, end_fails t from fault)
