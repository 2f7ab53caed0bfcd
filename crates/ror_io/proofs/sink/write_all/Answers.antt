use Rattle.ror_io.proofs.Writes.{IsWrittenTo-more}
use Rattle.ror_io.proofs.sink.write_all.Goals as goal

pub loop-taken-preserved : goal.loop-taken-preserved
loop-taken-preserved g c =
    IsWrittenTo-more _ _ _ _ _ _ _ _ _ c.loop-taken.invariant c.in_ok-taken.ensures.ok c.in_ok-taken.ensures.within c.in_ok-taken.ensures.taken
