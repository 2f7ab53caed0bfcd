use Rattle.std.proofs.Common.{◌≡◌, true, List, ℕ, sym, subst, ◌∙◌}
use Rattle.ror_ranks.specs.Conflicts.{are_others}
use Rattle.ror_ranks.proofs.OthersLemmas.{others_but_are}
use Rattle.ror_ranks.proofs.check.check_function.Goals as goal

pub system_without-requires-clause-others : goal.system_without-requires-clause-others
system_without-requires-clause-others c =
    let t = c.args.asked.now.table.now in
    let a = c.args.asked.now.alternative in
    subst (λ (xs : List ℕ). are_others t a xs ≡ true) (sym (c.as_slice.ensures.value ∙ c.in_ok-rest.ensures)) (others_but_are t a c.as_slice-except.result.now)
