-- That of one time more.
use Rattle.std.proofs.Common.{[]}
use Rattle.ror_show_find_classes.specs.TimeTurns.{turn_of}
use Rattle.ror_show_ground.proofs.Tests.{pieces_more}
use Rattle.ror_show_find_classes.proofs.turns.turns_among.Goals as goal

pub loop-place-preserved : goal.loop-place-preserved
loop-place-preserved c = pieces_more (turn_of c.args.times.now) c.loop-place.place [] c.loop-place.made.items c.push_turn_of.new.made.items c.loop-place.invariant c.in_ok-push_turn_of.ensures
