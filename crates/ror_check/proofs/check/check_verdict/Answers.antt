use Rattle.ror_check.proofs.FirstFaults.{verdict_proved, verdict_refused, wide_refused}
use Rattle.ror_check.proofs.check.check_verdict.Goals as goal

pub returns-in-Some-clause-ok : goal.returns-in-Some-clause-ok
returns-in-Some-clause-ok c = verdict_proved c.args.table.now c.args.list.now c.args.asked.now c.args.verdict.now c.in-Some.conclusion c.in-Some.proof.now c.check_proof.result c.in-Some.ensures c.check_proof.ensures.ok

pub returns-in-Some-clause-err : goal.returns-in-Some-clause-err
returns-in-Some-clause-err c = verdict_refused c.args.table.now c.args.list.now c.args.asked.now c.args.verdict.now c.in-Some.conclusion c.in-Some.proof.now c.check_proof.result c.in-Some.ensures c.check_proof.ensures.err

pub returns-in-None-clause-err : goal.returns-in-None-clause-err
returns-in-None-clause-err c = wide_refused c.args.table.now c.args.list.now c.args.asked.now c.args.verdict.now c.in-None.ensures
