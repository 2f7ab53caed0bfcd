use Rattle.std.proofs.Common.{ℕ, Vec, Global}
use Rattle.ror_elements.proofs.PlaceLemmas.{name_added}
use Rattle.ror_elements.proofs.names.Names.push.Goals as goal

pub invariant_of-self-2 : goal.invariant_of-self-2
invariant_of-self-2 c =
    (name_added (λ (name : Vec ℕ Global). name.items) c.args.name c.self.inside.places.entries c.insert.new.self.entries c.len-place.result c.args.self.now c.self.invariant c.self.view_is c.requires c.len-place.ensures.len c.in_ok-insert.ensures.entries).0

pub returns : goal.returns
returns c =
    (name_added (λ (name : Vec ℕ Global). name.items) c.args.name c.self.inside.places.entries c.insert.new.self.entries c.len-place.result c.args.self.now c.self.invariant c.self.view_is c.requires c.len-place.ensures.len c.in_ok-insert.ensures.entries).1
