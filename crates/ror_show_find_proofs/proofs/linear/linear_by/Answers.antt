-- One criterion more.
use Rattle.std.proofs.Common.{[]}
use Rattle.ror_show_ground.proofs.Tests.{pieces_more}
use Rattle.ror_show_find_proofs.specs.Linear.{linear_if}
use Rattle.ror_show_find_proofs.proofs.linear.linear_by.Goals as goal

pub loop-i-preserved : goal.loop-i-preserved
loop-i-preserved c = pieces_more (linear_if c.args.table.now c.args.forms.now c.args.multipliers.now) c.loop-i.i [] c.loop-i.used.items c.push_if_used.new.used.items c.loop-i.invariant c.in_ok-push_if_used.ensures
