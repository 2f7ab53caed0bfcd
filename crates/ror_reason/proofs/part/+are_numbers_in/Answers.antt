use Rattle.std.proofs.Common.{rules}
use Rattle.std.specs.Bool.{IsTrue}
use Rattle.ror_reason.proofs.Parts.{rest_rises, next_decides, skip_decides}
use Rattle.ror_reason.proofs.part.+are_numbers_in.Goals as goal

pub are_numbers_in-requires : goal.are_numbers_in-requires
are_numbers_in-requires t c = (search rules, rest_rises c.args.list.now c.in-len1-up-list.len_at_least c.requires)

pub are_numbers_in-requires-else-first-next : goal.are_numbers_in-requires-else-first-next
are_numbers_in-requires-else-first-next t c = (search rules, rest_rises c.args.list.now c.in-len1-up-list.len_at_least c.requires)

pub returns-then-first-next : goal.returns-then-first-next
returns-then-first-next t c = next_decides (IsTrue c.are_numbers_in.result) c.args.list.now c.args.numbers.now _ c.in-len1-up-list.len_at_least c.in-len1-up.len_at_least c.requires c.if-first-next.true c.are_numbers_in.ensures

pub returns-else-first-next : goal.returns-else-first-next
returns-else-first-next t c = skip_decides (IsTrue c.are_numbers_in-else-first-next.result) c.args.list.now c.args.numbers.now _ c.in-len1-up-list.len_at_least c.in-len1-up.len_at_least c.requires c.if-first-next.false c.are_numbers_in-else-first-next.ensures
