use Rattle.std.proofs.Common.{◌≡◌, ◌+◌, ◌*◌, ◌≤◌, List, take, drop, length}
use Rattle.std.specs.List.{AllByRecursion}
use Rattle.ror_report.specs.declared.block.Block.{Block}
use Rattle.ror_bench.specs.Bench.{HoldTheSame, LeavesNumbers}
use Rattle.ror_bench.specs.Reports.{accepted_of}
use Rattle.ror_bench.proofs.MakingLemmas.{IsMade}
use Rattle.ror_generate.specs.Generating.{most, answers_in}
use Rattle.ror_generate.proofs.summary.put_answers.Given as goal

abbrev pub invariant-loop-line : goal.invariant-loop-line
invariant-loop-line l = record {
  same : HoldTheSame l.checks l.bench;
  numbers : AllByRecursion (LeavesNumbers (length (drop l.line-index l.lines))) l.bench.state;
  first : List Block;
  made : IsMade most l.initial.bench (take l.line-index l.lines) l.bench first;
  answers : l.answers.items ≡ answers_in first;
  accepted : l.accepted ≡ accepted_of first;
  few : l.accepted.answers + l.accepted.wide ≤ 8589934590 * l.line-index;
}
