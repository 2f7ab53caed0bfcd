use Rattle.std.proofs.iter.Serving.{serving}
use Rattle.ror_show_text_changes.proofs.class_sides.settled_among.Goals as goal

pub returns : goal.returns
returns c = grind serving
