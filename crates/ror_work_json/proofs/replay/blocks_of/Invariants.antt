use Rattle.std.proofs.Common.{length, take, drop}
use Rattle.std.specs.List.{AllByRecursion}
use Rattle.ror_pivot.specs.Answers.{most_of}
use Rattle.ror_bench.specs.Bench.{LeavesNumbers}
use Rattle.ror_bench.specs.Blocks.{HasText}
use Rattle.ror_bench.proofs.MakingLemmas.{IsMade}
use Rattle.ror_work_json.proofs.replay.blocks_of.Given as goal

abbrev pub invariant-loop-line : goal.invariant-loop-line
invariant-loop-line l = record {
  numbers : AllByRecursion (LeavesNumbers (length (drop l.line-index l.lines))) l.bench.state;
  made : IsMade (most_of l.fn.bits) l.fn.bench (take l.line-index l.lines) l.bench l.blocks.items;
  text : AllByRecursion (HasText l.fn.bench.table) l.blocks.items;
}
