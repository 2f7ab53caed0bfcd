use Rattle.std.proofs.Common.{◌≡◌, ◌+◌, ◌∙◌, ◌++◌, ◌∷◌, [], ℕ, ℤ, List, ap, sym, subst, rules, arith, FitsSigned}
use Rattle.std.specs.Int.{w128}
use Rattle.ror_system.specs.Numbers.{spread, ArePlaced}
use Rattle.ror_system.proofs.NumberLemmas.{as_many, other_placed, other_more}
use Rattle.ror_system.proofs.numbers.Numbers.push_other.Goals as goal

pub overflow_cast-self-inside : goal.overflow_cast-self-inside
overflow_cast-self-inside c =
    let n = as_many c.self.inside.len c.self.inside.places.items c.self.inside.values _ c.self.invariant c.self.view_is in
    let m = c.requires.room in
    record { fits = omega arith }

pub overflow_add-self : goal.overflow_add-self
overflow_add-self c =
    let n = as_many c.self.inside.len c.self.inside.places.items c.self.inside.values _ c.self.invariant c.self.view_is in
    let m = c.requires.room in
    record { fits = omega arith }

pub invariant_of-self-in-Ok : goal.invariant_of-self-in-Ok
invariant_of-self-in-Ok c =
    let len = c.self.inside.len in
    let f : FitsSigned w128 c.args.number = search rules in
    let vs : c.push-2.new.self ≡ c.self.inside.values ++ c.args.number ∷ [] = search rules in
    let ps : c.push.new.self.items ≡ c.self.inside.places.items ++ len ∷ [] = c.in_ok-push.ensures.items in
    subst (λ (xs : List ℤ). ArePlaced 0 (len + 1) c.push.new.self.items xs) (sym vs) (subst (λ (xs : List ℕ). ArePlaced 0 (len + 1) xs (c.self.inside.values ++ c.args.number ∷ [])) (sym ps) (other_placed 0 len c.self.inside.places.items c.self.inside.values c.args.number c.self.invariant c.requires.other))

pub returns-in-Ok-clause-ok : goal.returns-in-Ok-clause-ok
returns-in-Ok-clause-ok c =
    let len = c.self.inside.len in
    let f : FitsSigned w128 c.args.number = search rules in
    let vs : c.push-2.new.self ≡ c.self.inside.values ++ c.args.number ∷ [] = search rules in
    let ps : c.push.new.self.items ≡ c.self.inside.places.items ++ len ∷ [] = c.in_ok-push.ensures.items in
    ap (λ (xs : List ℤ). spread 0 (len + 1) c.push.new.self.items xs) vs ∙ ap (λ (xs : List ℕ). spread 0 (len + 1) xs (c.self.inside.values ++ c.args.number ∷ [])) ps ∙ other_more 0 len c.self.inside.places.items c.self.inside.values c.args.number c.self.invariant ∙ ap (λ (xs : List ℤ). xs ++ c.args.number ∷ []) c.self.view_is
