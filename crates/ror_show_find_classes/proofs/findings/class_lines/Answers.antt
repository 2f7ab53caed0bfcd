-- One line more.
use Rattle.std.proofs.Common.{[]}
use Rattle.ror_show_ground.proofs.Tests.{pieces_more}
use Rattle.ror_show_ground.specs.Grounds.{ground_of}
use Rattle.ror_show_find_classes.specs.Findings.{answered_line}
use Rattle.ror_show_find_classes.proofs.findings.class_lines.Goals as goal

pub loop-n-preserved : goal.loop-n-preserved
loop-n-preserved c = pieces_more (answered_line (ground_of c.args.ground.now)) c.loop-n.n [] c.loop-n.found.items c.push_answered.new.found.items c.loop-n.invariant c.in_ok-push_answered.ensures
