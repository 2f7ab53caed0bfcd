use Rattle.ror_show_text_group.specs.Csv.{csv_lines}
use Rattle.ror_show_ground.proofs.Tests.{pieces_more}
use Rattle.ror_show_text_group.proofs.csv.write_lines.Goals as goal

pub loop-a-preserved : goal.loop-a-preserved
loop-a-preserved c = pieces_more (csv_lines c.args.table.now c.args.found.now) c.loop-a.a c.args.text.now.items c.loop-a.text.items c.write_lines_from.new.text.items c.loop-a.invariant c.in_ok-write_lines_from.ensures
