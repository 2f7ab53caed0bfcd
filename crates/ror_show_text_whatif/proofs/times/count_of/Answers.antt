use Rattle.std.proofs.iter.Serving.{serving}
use Rattle.ror_show_text_whatif.proofs.times.count_of.Goals as goal

pub returns : goal.returns
returns c = grind serving
