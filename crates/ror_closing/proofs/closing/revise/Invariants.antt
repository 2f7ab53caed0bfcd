use Rattle.std.proofs.Common.{length, take, drop}
use Rattle.std.specs.List.{AllByRecursion}
use Rattle.ror_bench.specs.Bench.{LeavesNumbers}
use Rattle.ror_closing.specs.Closing.{HasRevised}
use Rattle.ror_closing.proofs.closing.revise.Given as goal

abbrev pub invariant-loop-line : goal.invariant-loop-line
invariant-loop-line l = record {
  numbers : AllByRecursion (LeavesNumbers (length (drop l.line-index l.lines))) l.bench.state;
  has : HasRevised l.fn.bench (take l.line-index l.lines) l.bench;
}
