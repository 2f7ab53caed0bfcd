-- The line of one class more.
use Rattle.ror_show_ground.proofs.Tests.{pieces_more}
use Rattle.ror_show_forms.specs.ClassCsv.{class_value}
use Rattle.ror_show_forms.proofs.class_csv.write_each_class.Goals as goal

pub loop-h-preserved : goal.loop-h-preserved
loop-h-preserved c = pieces_more (class_value c.args.front.now c.args.found.now) c.loop-h.h c.args.text.now.items c.loop-h.text.items c.write_class.new.text.items c.loop-h.invariant c.in_ok-write_class.ensures
