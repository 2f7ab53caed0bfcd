use Rattle.std.proofs.Common.{arith}
use Rattle.ror_table.proofs.SpellingLemmas.{joined_some, few_behind}
use Rattle.ror_table.proofs.spelling.joined.Goals as goal

pub overflow_mul-result : goal.overflow_mul-result
overflow_mul-result c =
    let all = joined_some c.args.before.now c.args.behind.now c.in_ok-first.first c.in_ok-second.second c.power_of_ten.result c.in_ok-first.ensures.value c.in_ok-second.ensures.value (omega arith) c.power_of_ten.ensures in
    omega arith

pub overflow_add-result : goal.overflow_add-result
overflow_add-result c =
    let all = joined_some c.args.before.now c.args.behind.now c.in_ok-first.first c.in_ok-second.second c.power_of_ten.result c.in_ok-first.ensures.value c.in_ok-second.ensures.value (omega arith) c.power_of_ten.ensures in
    omega arith

pub returns-clause-value : goal.returns-clause-value
returns-clause-value c =
    let all = joined_some c.args.before.now c.args.behind.now c.in_ok-first.first c.in_ok-second.second c.power_of_ten.result c.in_ok-first.ensures.value c.in_ok-second.ensures.value (omega arith) c.power_of_ten.ensures in
    (all.0, all.1)

pub returns-clause-small : goal.returns-clause-small
returns-clause-small c =
    let all = joined_some c.args.before.now c.args.behind.now c.in_ok-first.first c.in_ok-second.second c.power_of_ten.result c.in_ok-first.ensures.value c.in_ok-second.ensures.value (omega arith) c.power_of_ten.ensures in
    (all.2, few_behind c.args.before.now c.args.behind.now c.in_ok-first.first c.in_ok-first.ensures.value (omega arith))
