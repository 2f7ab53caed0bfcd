use Rattle.std.proofs.Common.{rules, ◌≡◌}
use Rattle.ror_pivot.specs.Answers.{most_of}
use Rattle.ror_pivot.specs.declared.note.SolveFault.TheVariants.{Wide}
use Rattle.ror_warm.specs.Engine.{IsFaultOf}
use Rattle.ror_ranks_find.specs.Search.{system_without}
use Rattle.ror_ranks_find.proofs.FoundLemmas.{tried_wide_as}
use Rattle.ror_ranks_find.proofs.sought.try_without.Goals as goal

pub returns-in-Err-Wide-clause-tried : goal.returns-in-Err-Wide-clause-tried
returns-in-Err-Wide-clause-tried c =
    let s = c.args.sought.now in
    let l = c.in_ok-system.system in
    let is : l ≡ system_without s.asked c.args.members.items = search rules in
    let noted : IsFaultOf (most_of s.bits) l (Wide c.in-Err-Wide.note) = search rules in
    tried_wide_as s c.args.members.items c.from-members.result l c.in-Err-Wide.note c.from-members.ensures is c.requires.others noted
