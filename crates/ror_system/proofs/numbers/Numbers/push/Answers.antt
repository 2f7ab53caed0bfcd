use Rattle.std.proofs.Common.{◌≡◌, ◌∙◌, ◌++◌, ◌∷◌, [], ℤ, List, ap, sym, pos, rules, arith}
use Rattle.ror_system.proofs.NumberLemmas.{as_many, zero_placed, zero_more}
use Rattle.ror_system.proofs.numbers.Numbers.push.Goals as goal

pub push_other-requires-clause-room : goal.push_other-requires-clause-room
push_other-requires-clause-room c =
    let n = as_many c.self.inside.len c.self.inside.places.items c.self.inside.values _ c.self.invariant c.self.view_is in
    omega arith

pub invariant_of-self : goal.invariant_of-self
invariant_of-self c = zero_placed 0 c.self.inside.len c.self.inside.places.items c.self.inside.values c.self.invariant

pub returns-clause-ok : goal.returns-clause-ok
returns-clause-ok c =
    let e : c.args.number ≡ pos 0 = search rules in
    zero_more 0 c.self.inside.len c.self.inside.places.items c.self.inside.values c.self.invariant ∙ ap (λ (xs : List ℤ). xs ++ pos 0 ∷ []) c.self.view_is ∙ ap (λ (x : ℤ). c.args.self.now ++ x ∷ []) (sym e)
