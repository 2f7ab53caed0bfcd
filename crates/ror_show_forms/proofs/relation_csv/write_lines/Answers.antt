-- The line of one pair more.
use Rattle.ror_show_ground.proofs.Tests.{pieces_more}
use Rattle.ror_show_forms.specs.RelationCsv.{csv_line}
use Rattle.ror_show_forms.proofs.relation_csv.write_lines.Goals as goal

pub loop-b-preserved : goal.loop-b-preserved
loop-b-preserved c = pieces_more (csv_line c.args.table.now c.args.front.now c.args.rows.now c.args.a) c.loop-b.b c.args.text.now.items c.loop-b.text.items c.write_line.new.text.items c.loop-b.invariant c.in_ok-write_line.ensures
