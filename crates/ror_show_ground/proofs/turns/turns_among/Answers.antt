-- That of one line more.
use Rattle.std.proofs.Common.{[]}
use Rattle.ror_show_ground.specs.Turns.{turn_of}
use Rattle.ror_show_ground.proofs.Tests.{pieces_more}
use Rattle.ror_show_ground.proofs.turns.turns_among.Goals as goal

pub loop-n-preserved : goal.loop-n-preserved
loop-n-preserved c = pieces_more (turn_of c.args.session.now c.args.kept.now) c.loop-n.n [] c.loop-n.made.items c.push_turn_of.new.made.items c.loop-n.invariant c.in_ok-push_turn_of.ensures
