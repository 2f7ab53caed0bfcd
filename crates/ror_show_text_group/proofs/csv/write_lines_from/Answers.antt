use Rattle.ror_show_text_group.specs.Csv.{csv_line}
use Rattle.ror_show_ground.proofs.Tests.{pieces_more}
use Rattle.ror_show_text_group.proofs.csv.write_lines_from.Goals as goal

pub loop-b-preserved : goal.loop-b-preserved
loop-b-preserved c = pieces_more (csv_line c.args.table.now c.args.found.now c.args.a) c.loop-b.b c.args.text.now.items c.loop-b.text.items c.write_line.new.text.items c.loop-b.invariant c.in_ok-write_line.ensures
