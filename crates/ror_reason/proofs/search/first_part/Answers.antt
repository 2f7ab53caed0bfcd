use Rattle.std.proofs.Common.{rules}
use Rattle.ror_reason.specs.SearchSteps.{HasAnswer}
use Rattle.ror_reason.proofs.SearchLemmas.{decided_part}
use Rattle.ror_reason.proofs.search.first_part.Goals as goal

pub returns-then-has_answer-clause-ok : goal.returns-then-has_answer-clause-ok
returns-then-has_answer-clause-ok c =
    let s = c.args.sought.now in
    let part = c.in_ok-part.part in
    let has : HasAnswer s.conclusion part.answers.items = search rules in
    decided_part s c.requires c.in_ok-numbers.numbers.items part c.in_ok-numbers.ensures c.in_ok-part.ensures.ok has
