use Rattle.ror_show_forms.specs.Dot.{node}
use Rattle.ror_show_ground.proofs.Tests.{pieces_more}
use Rattle.ror_show_forms.proofs.dot.write_nodes.Goals as goal

pub loop-a-preserved : goal.loop-a-preserved
loop-a-preserved c = pieces_more (node c.args.table.now) c.loop-a.a c.args.text.now.items c.loop-a.text.items c.write_node.new.text.items c.loop-a.invariant c.in_ok-write_node.ensures
