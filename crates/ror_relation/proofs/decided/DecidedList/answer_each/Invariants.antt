use Rattle.std.proofs.Common.{◌≤◌, take}
use Rattle.std.specs.List.{AllZip}
use Rattle.ror_pivot.specs.Answers.{most_of}
use Rattle.ror_given.specs.Answers.{IsGiven}
use Rattle.ror_relation.specs.DecidedLists.{statements_of}
use Rattle.ror_relation.proofs.decided.DecidedList.answer_each.Given as goal

abbrev pub invariant-loop-question : goal.invariant-loop-question
invariant-loop-question l =
    AllZip (IsGiven (most_of l.bits) l.table (statements_of l.self)) (take l.question-index l.questions) l.answers.items
    × (l.fn.engine.pivots ≤ l.engine.pivots)
