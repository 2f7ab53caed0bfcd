use Rattle.std.proofs.Common.{arith}
use Rattle.ror_ranks_find.proofs.FoundLemmas.{own_copies}
use Rattle.ror_ranks_find.proofs.shown.shown_by.Goals as goal

pub returns-else-is_ok : goal.returns-else-is_ok
returns-else-is_ok c = (own_copies c.args.conflicts.items, omega arith, c.requires.tree, c.requires.few_nodes)
