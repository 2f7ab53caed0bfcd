use Rattle.ror_show_find_proofs.specs.Weights.{weight_at}
use Rattle.ror_show_ground.proofs.Tests.{pieces_more}
use Rattle.ror_show_find_proofs.proofs.weights.push_weights.Goals as goal

pub loop-k-preserved : goal.loop-k-preserved
loop-k-preserved c = pieces_more (weight_at c.args.number c.args.owners.now c.args.multipliers.now) c.loop-k.k c.args.weights.now.items c.loop-k.weights.items c.push_weight.new.weights.items c.loop-k.invariant c.in_ok-push_weight.ensures
