use Rattle.ror_show_forms.proofs.Refusals.{reduct_refused, reduct_pure}
use Rattle.ror_show_forms.proofs.check.check_concluding.Goals as goal

pub returns-in-Err-clause-refused : goal.returns-in-Err-clause-refused
returns-in-Err-clause-refused c = rw c.entry_fault.ensures (reduct_refused c.args.table.now c.args.list.now c.args.answer.now c.args.reduct.now c.args.conclusion c.in-Err.fault c.requires.concludes c.in-Err.ensures.refused)

pub returns-in-Err-clause-pure : goal.returns-in-Err-clause-pure
returns-in-Err-clause-pure c = rw c.entry_fault.ensures (reduct_pure c.args.table.now c.args.list.now c.args.answer.now.question c.args.conclusion c.args.reduct.now c.in-Err.fault c.in-Err.ensures.refused)
