-- One answer more.
use Rattle.ror_show_find_core.specs.Cores.{IsCoreAt}
use Rattle.ror_show_find_core.proofs.Lists.{zip_item}
use Rattle.ror_show_find_core.proofs.cores.find_each.Goals as goal

pub told-preserved : goal.told-preserved
told-preserved c =
    let s = c.args.stood.now in
    zip_item (IsCoreAt s.table.now s.list.now s.answers.now) c.args.told.now c.told.k c.index-told-k.result c.told.found.items c.push.new.self.items c.in_ok-core.core c.told-test.true c.index-told-k.is c.told.invariant c.in_ok-core.ensures c.in_ok-push.ensures.items
