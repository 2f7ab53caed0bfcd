-- One row more.
use Rattle.std.proofs.Common.{length, subst}
use Rattle.ror_show_ground.specs.Grounds.{ground_of}
use Rattle.ror_show_ground.proofs.Lists.{holds_at, zip_next}
use Rattle.ror_show_find_classes.specs.declared.findings.ClassLine.{ClassLine}
use Rattle.ror_show_find_reasons.specs.Bounds.{IsRowWithin}
use Rattle.ror_show_find_whatif.specs.Findings.{IsRowWhatIf}
use Rattle.ror_show_find_whatif.proofs.times.rows_of.Goals as goal

pub find_whatif-requires-clause-there : goal.find_whatif-requires-clause-there
find_whatif-requires-clause-there c =
    holds_at (IsRowWithin (length c.args.ground.now.kept.now)) c.args.rows.now c.loop-row.row-index c.row-item.result c.loop-row-test.true c.row-item.is c.requires.within

pub loop-row-preserved : goal.loop-row-preserved
loop-row-preserved c =
    let g = ground_of c.args.ground.now in
    let row = c.row-item.result in
    let here = subst (λ (x : ClassLine). IsRowWhatIf g x c.in_ok-whatif.whatif) c.row-item.is c.in_ok-whatif.ensures in
    zip_next (IsRowWhatIf g) c.args.rows.now c.loop-row.row-index row c.loop-row.made.items c.push.new.self.items c.in_ok-whatif.whatif c.loop-row-test.true c.loop-row.invariant here c.in_ok-push.ensures.items
