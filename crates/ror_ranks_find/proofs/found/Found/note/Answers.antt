use Rattle.std.proofs.Common.{refl}
use Rattle.ror_ranks_find.proofs.FoundLemmas.{found_noted}
use Rattle.ror_ranks_find.proofs.found.Found.note.Goals as goal

pub returns-clause-found : goal.returns-clause-found
returns-clause-found c = found_noted c.args.sought.now c.args.self.now _ c.args.wide c.in_ok-push.ensures.items c.requires.found c.requires.wide refl refl refl
