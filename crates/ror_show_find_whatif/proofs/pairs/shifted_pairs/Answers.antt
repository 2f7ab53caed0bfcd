-- The pairs from one alternative more.
use Rattle.std.proofs.Common.{[]}
use Rattle.ror_show_ground.proofs.Tests.{pieces_more}
use Rattle.ror_show_find_whatif.specs.Shifts.{pairs_from}
use Rattle.ror_show_find_whatif.proofs.pairs.shifted_pairs.Goals as goal

pub loop-a-preserved : goal.loop-a-preserved
loop-a-preserved c = pieces_more (pairs_from c.args.before.now c.args.after.now c.args.shift) c.loop-a.a [] c.loop-a.made.items c.push_from.new.made.items c.loop-a.invariant c.in_ok-push_from.ensures
