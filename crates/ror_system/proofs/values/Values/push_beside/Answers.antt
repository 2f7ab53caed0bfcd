use Rattle.std.proofs.Common.{◌≡◌, ◌+◌, ◌∙◌, ◌++◌, ◌∷◌, [], negsuc, FitsSigned, length, rules}
use Rattle.std.specs.Int.{w32, w128}
use Rattle.std.proofs.lemmas.Int.{to_z-of_z}
use Rattle.ror_system.specs.Values.{plain_limit}
use Rattle.ror_system.proofs.ValueLemmas.{kept, with_one_beside, all_among}
use Rattle.ror_system.proofs.values.Values.push_beside.Goals as goal

pub returns-in_err-push-2-clause-kept : goal.returns-in_err-push-2-clause-kept
returns-in_err-push-2-clause-kept c =
    let same = kept _ c.push.new.self.items _ c.push-2.new.self.items _ _ c.self.invariant c.self.view_is c.in_ok-push.ensures.items c.in_err-push-2.ensures.items in
    search rules

pub invariant_of-self-2 : goal.invariant_of-self-2
invariant_of-self-2 c =
    let f : FitsSigned w32 c.in_ok-place.place = search rules in
    let at : c.in_ok-place.place ≡ negsuc (plain_limit + length c.self.inside.beside.items) = search rules in
    all_among _ _ _ _ _ _ c.self.invariant c.in_ok-push.ensures.items c.in_ok-push-2.ensures.items (to_z-of_z w32 _ f ∙ at)

pub returns-clause-ok : goal.returns-clause-ok
returns-clause-ok c =
    let f : FitsSigned w32 c.in_ok-place.place = search rules in
    let at : c.in_ok-place.place ≡ negsuc (plain_limit + length c.self.inside.beside.items) = search rules in
    let g : FitsSigned w128 c.args.number = search rules in
    let b : c.push.new.self.items ≡ c.self.inside.beside.items ++ c.args.number ∷ [] = search rules in
    with_one_beside _ _ _ _ _ _ _ c.self.invariant c.self.view_is b c.in_ok-push-2.ensures.items (to_z-of_z w32 _ f ∙ at)
