use Rattle.std.proofs.Common.{◌≡◌, ◌≤◌, ◌*◌, length, take, drop}
use Rattle.std.specs.List.{AllByRecursion}
use Rattle.ror_bench.specs.Bench.{LeavesNumbers}
use Rattle.ror_work_json.proofs.Checking.{AreChecked}
use Rattle.ror_work_json.proofs.blocks.check_blocks.Given as goal

abbrev pub invariant-loop-line : goal.invariant-loop-line
invariant-loop-line l = record {
  block_is : l.block ≡ l.line-index;
  within : l.line-index ≤ length l.blocks;
  fits : l.accepted.answers ≤ l.line-index * 4294967296;
  wide_fits : l.accepted.wide ≤ l.line-index * 4294967296;
  numbers : AllByRecursion (LeavesNumbers (length (drop l.line-index l.lines))) l.bench.state;
  checked : AreChecked l.initial.bench (take l.line-index l.lines) (take l.line-index l.blocks) l.bench l.accepted;
}
