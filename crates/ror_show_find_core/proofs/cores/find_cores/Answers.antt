-- One line more.
use Rattle.ror_show_ground.specs.Grounds.{ground_of}
use Rattle.ror_show_find_core.specs.Cores.{AreLineCores}
use Rattle.ror_show_find_core.proofs.Lists.{zip_item}
use Rattle.ror_show_find_core.proofs.cores.find_cores.Goals as goal

pub lines-preserved : goal.lines-preserved
lines-preserved c =
    zip_item (AreLineCores (ground_of c.args.ground.now)) c.args.lines.now c.lines.k c.index-lines-k.result c.lines.found.items c.push.new.self.items c.in_ok-cores.cores c.lines-test.true c.index-lines-k.is c.lines.invariant c.in_ok-cores.ensures c.in_ok-push.ensures.items
