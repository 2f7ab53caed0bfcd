-- One number more.
use Rattle.ror_show_kit.specs.Parts.{number_text}
use Rattle.ror_show_kit.proofs.Pieces.{number_more}
use Rattle.ror_show_kit.proofs.part.write_part_numbers.Goals as goal

pub loop-b-preserved : goal.loop-b-preserved
loop-b-preserved c = number_more (number_text c.args.part) c.loop-b.b c.args.text.now.items c.loop-b.text.items c.write_number_in.new.text.items c.loop-b.invariant c.in_ok-write_number_in.ensures
