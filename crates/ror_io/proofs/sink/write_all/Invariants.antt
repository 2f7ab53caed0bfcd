use Rattle.std.proofs.Common.{◌-◌, length}
use Rattle.ror_io.proofs.Writes.{IsWrittenTo}
use Rattle.ror_io.proofs.sink.write_all.Given as goal

abbrev pub invariant-loop-taken : goal.invariant-loop-taken
invariant-loop-taken g l =
    IsWrittenTo (g.S.Sink.written l.fn.sink) (g.S.Sink.written l.sink) (g.S.Sink.faults l.fn.sink) (g.S.Sink.faults l.sink) l.bytes l.taken

abbrev pub decreases-loop-taken : goal.decreases-loop-taken
decreases-loop-taken g l = length l.bytes - l.taken
