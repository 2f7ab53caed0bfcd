use Rattle.std.proofs.Common.{sym, subst, ◌∙◌}
use Rattle.ror_system.specs.declared.accept.Solution.{Solution}
use Rattle.ror_ranks_find.specs.Search.{IsBaseFunction}
use Rattle.ror_ranks_find.proofs.FoundLemmas.{found_none}
use Rattle.ror_ranks_find.proofs.FindLemmas.{start_reached}
use Rattle.ror_ranks_find.proofs.found.Found.start.Goals as goal

pub returns-clause-found : goal.returns-clause-found
returns-clause-found c =
    let s = c.args.sought.now in
    let has = subst (λ (x : Solution). IsBaseFunction s x) (sym c.in_ok-copied.ensures) c.requires.function in
    let reached = start_reached s c.in_ok-copied.field-0 c.from.result has (c.from.ensures ∙ c.in_ok-except.ensures) in
    found_none s _ c.new.ensures.items c.new-2.ensures.items reached
