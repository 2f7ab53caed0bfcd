use Rattle.std.proofs.Common.{rules}
use Rattle.ror_check.proofs.Checking.{slice_get-at}
use Rattle.ror_ranks_find.proofs.FoundLemmas.{copied_more}
use Rattle.ror_ranks_find.proofs.shown.Shown.name.Goals as goal

pub returns-clause-copied : goal.returns-clause-copied
returns-clause-copied c = search (rules, copied_more, slice_get-at)
