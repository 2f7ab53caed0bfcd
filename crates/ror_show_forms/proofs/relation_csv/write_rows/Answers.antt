-- The lines of one alternative more.
use Rattle.ror_show_ground.proofs.Tests.{pieces_more}
use Rattle.ror_show_forms.specs.RelationCsv.{csv_lines}
use Rattle.ror_show_forms.proofs.relation_csv.write_rows.Goals as goal

pub loop-a-preserved : goal.loop-a-preserved
loop-a-preserved c = pieces_more (csv_lines c.args.table.now c.args.front.now c.args.rows.now) c.loop-a.a c.args.text.now.items c.loop-a.text.items c.write_lines.new.text.items c.loop-a.invariant c.in_ok-write_lines.ensures
