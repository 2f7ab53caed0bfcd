use Rattle.std.proofs.Common.{◌≡◌, ◌≤◌, ◌+◌, ◌*◌, length, drop}
use Rattle.std.specs.List.{AllByRecursion}
use Rattle.ror_bench.specs.Bench.{LeavesNumbers}
use Rattle.ror_bench.proofs.ReportProofs.{IsWay}
use Rattle.ror_bench.proofs.report.check_blocks.Given as goal

abbrev pub invariant-loop-line : goal.invariant-loop-line
invariant-loop-line l = record {
  within : l.next ≤ length l.bytes;
  few : l.line-index ≤ l.next;
  block_is : l.block ≡ l.line-index + 1;
  fits : l.accepted.answers ≤ l.line-index * 4294967296;
  wide_fits : l.accepted.wide ≤ l.line-index * 4294967296;
  numbers : AllByRecursion (LeavesNumbers (length (drop l.line-index l.lines))) l.bench.state;
  way : IsWay l.initial.bench l.lines l.bytes l.start l.bench (drop l.line-index l.lines) l.next l.keep l.kept.items l.accepted l.line-index;
}
