-- One row more.
use Rattle.std.proofs.Common.{length, subst}
use Rattle.ror_show_ground.specs.Grounds.{ground_of}
use Rattle.ror_show_ground.proofs.Lists.{holds_at, zip_next}
use Rattle.ror_show_find_classes.specs.declared.findings.ClassLine.{ClassLine}
use Rattle.ror_show_find_reasons.specs.Bounds.{IsRowWithin, AreBoundsOf}
use Rattle.ror_show_find_reasons.proofs.classes.bounds_of.Goals as goal

pub bounds_at-requires-clause-there : goal.bounds_at-requires-clause-there
bounds_at-requires-clause-there c =
    holds_at (IsRowWithin (length c.args.ground.now.kept.now)) c.args.rows.now c.loop-row.row-index c.row-item.result c.loop-row-test.true c.row-item.is c.requires.within

pub loop-row-preserved : goal.loop-row-preserved
loop-row-preserved c =
    let g = ground_of c.args.ground.now in
    let row = c.row-item.result in
    let here = subst (λ (x : ClassLine). AreBoundsOf c.args.sought g x c.in_ok-bounds.bounds) c.row-item.is c.in_ok-bounds.ensures in
    zip_next (AreBoundsOf c.args.sought g) c.args.rows.now c.loop-row.row-index row c.loop-row.made.items c.push.new.self.items c.in_ok-bounds.bounds c.loop-row-test.true c.loop-row.invariant here c.in_ok-push.ensures.items
