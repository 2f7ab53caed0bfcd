use Rattle.std.proofs.iter.Serving.{serving}
use Rattle.ror_show_ground.proofs.lines.proved_among.Goals as goal

pub returns : goal.returns
returns c = grind serving
