use Rattle.std.proofs.Common.{ℕ, List, [], ◌∷◌, ◌++◌, map, reverse, refl, ap, ◌∙◌}
use Rattle.ror_ranks.specs.declared.extreme.Conflict.{Conflict}
use Rattle.ror_ranks.specs.Trees.{members_at}
use Rattle.ror_proof.proofs.PrintLemmas.{on_ok}
use Rattle.ror_ranks_find.proofs.growing.put_branch.Goals as goal

pub returns : goal.returns
returns c =
    let set = c.args.set.now in
    let old = c.args.tree.now.sets.items in
    let members = c.members_of-members.ensures ∙ ap (λ (cs : List Conflict). members_at cs c.args.place) c.as_slice.ensures.value in
    on_ok c.push_joined.result c.push_joined.ensures (λ sets. record {
      nodes = c.in_ok-push.ensures.items;
      sets = sets ∙ ap (λ (ms : List ℕ). old ++ reverse (map (λ b. set ++ b ∷ []) ms)) members;
      goal = refl;
      state = refl;
    })
