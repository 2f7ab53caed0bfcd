use Rattle.std.proofs.Common.{length, take, drop}
use Rattle.std.specs.List.{AllByRecursion}
use Rattle.ror_pivot.specs.Answers.{most_of}
use Rattle.ror_bench.specs.Bench.{LeavesNumbers}
use Rattle.ror_frame.specs.States.{sink_state}
use Rattle.ror_work.proofs.Making.{AreWritten}
use Rattle.ror_work.proofs.replay.write_blocks.Given as goal

abbrev pub invariant-loop-line : goal.invariant-loop-line
invariant-loop-line g l = record {
  numbers : AllByRecursion (LeavesNumbers (length (drop l.line-index l.lines))) l.bench.state;
  were : AreWritten (most_of l.fn.bits) l.fn.bench (take l.line-index l.lines) l.bench (sink_state (g.O.Sink.written l.fn.out) (g.O.Sink.faults l.fn.out)) (sink_state (g.O.Sink.written l.out) (g.O.Sink.faults l.out)) l.wide;
}
