use Rattle.std.proofs.Common.{take, map}
use Rattle.ror_pivot.specs.Answers.{most_of}
use Rattle.ror_relation.specs.DecidedLists.{statements_of}
use Rattle.ror_group.specs.Combining.{asked_on, InStep}
use Rattle.ror_work_group.specs.Entries.{IsGivenFor}
use Rattle.ror_work_group.proofs.maker.answers_on.Given as goal

abbrev pub invariant-loop-place : goal.invariant-loop-place
invariant-loop-place l = record {
  given : InStep (IsGivenFor (most_of l.fn.on.bits) l.fn.on.table.now) (asked_on l.fn.on.pair.first l.fn.on.pair.second (map statements_of (take l.place l.lists))) l.answers.items;
}
