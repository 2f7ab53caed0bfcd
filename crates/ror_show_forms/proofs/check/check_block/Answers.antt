use Rattle.ror_show_forms.proofs.Refusals.{block_refused, block_pure}
use Rattle.ror_show_forms.proofs.check.check_block.Goals as goal

pub returns-in-Err-clause-rejected : goal.returns-in-Err-clause-rejected
returns-in-Err-clause-rejected c = rw c.refused_entry.ensures (block_refused c.args.table.now c.args.kept.now c.args.certificate.now c.args.block c.in-Err.fault c.in-Err.ensures.refused)

pub returns-in-Err-clause-pure : goal.returns-in-Err-clause-pure
returns-in-Err-clause-pure c = rw c.refused_entry.ensures (block_pure c.args.block c.in-Err.fault c.in-Err.ensures.pure)
