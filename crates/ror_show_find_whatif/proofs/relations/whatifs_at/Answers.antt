-- One line more.
use Rattle.std.proofs.Common.{length}
use Rattle.ror_show_ground.specs.Grounds.{ground_of}
use Rattle.ror_show_ground.proofs.Lists.{zip_next, within_at}
use Rattle.ror_show_find_whatif.specs.declared.outcome.Asks.TheVariants.{Relation}
use Rattle.ror_show_find_whatif.specs.Findings.{IsWhatIf}
use Rattle.ror_show_find_whatif.proofs.relations.whatifs_at.Goals as goal

pub find_whatif-requires-clause-there : goal.find_whatif-requires-clause-there
find_whatif-requires-clause-there c = within_at (length c.args.ground.now.kept.now) c.args.places.now c.loop-place.place-index c.loop-place-test.true c.requires.within

pub loop-place-preserved : goal.loop-place-preserved
loop-place-preserved c =
    zip_next (IsWhatIf Relation (ground_of c.args.ground.now)) c.args.places.now c.loop-place.place-index 0 c.loop-place.found.items c.push.new.self.items c.in_ok-whatif.whatif c.loop-place-test.true c.loop-place.invariant c.in_ok-whatif.ensures c.in_ok-push.ensures.items
