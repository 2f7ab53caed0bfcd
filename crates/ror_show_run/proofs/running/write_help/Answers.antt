use Rattle.ror_show_run.proofs.Saying.{grown}
use Rattle.ror_show_run.proofs.running.write_help.Goals as goal

pub returns-clause-grows : goal.returns-clause-grows
returns-clause-grows g c = grown c.write_all.result _ _ c.args.helps.now c.requires c.write_all.ensures.all_taken c.write_all.ensures.short
