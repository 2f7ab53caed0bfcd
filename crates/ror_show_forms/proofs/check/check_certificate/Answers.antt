use Rattle.ror_show_forms.proofs.Refusals.{answer_ready, certificate_refused}
use Rattle.ror_show_forms.proofs.check.check_certificate.Goals as goal

pub check_over-requires-clause-lawful : goal.check_over-requires-clause-lawful
check_over-requires-clause-lawful c = (answer_ready c.args.table.now c.args.kept.now c.args.certificate.now.line c.args.certificate.now.place c.in-Some.list.now c.in-Some.answer.now c.requires.ready c.in-Some.ensures).lawful

pub check_over-requires-clause-rising : goal.check_over-requires-clause-rising
check_over-requires-clause-rising c = (answer_ready c.args.table.now c.args.kept.now c.args.certificate.now.line c.args.certificate.now.place c.in-Some.list.now c.in-Some.answer.now c.requires.ready c.in-Some.ensures).rising

pub check_over-requires-clause-asked : goal.check_over-requires-clause-asked
check_over-requires-clause-asked c = (answer_ready c.args.table.now c.args.kept.now c.args.certificate.now.line c.args.certificate.now.place c.in-Some.list.now c.in-Some.answer.now c.requires.ready c.in-Some.ensures).sound.asked

pub returns-in-Some-clause-refused : goal.returns-in-Some-clause-refused
returns-in-Some-clause-refused c = certificate_refused c.args.table.now c.args.kept.now c.args.certificate.now c.in-Some.list.now c.in-Some.answer.now c.check_over.result c.in-Some.ensures c.check_over.ensures.refused
