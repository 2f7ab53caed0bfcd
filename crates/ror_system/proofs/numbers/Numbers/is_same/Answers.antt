use Rattle.std.proofs.Common.{◌≡◌, ◌∙◌, ap, sym, List, ℕ, ℤ, length, rules, arith}
use Rattle.std.proofs.lemmas.Bool.Decides.{Decides-eqb}
use Rattle.std.proofs.lemmas.Slice.Eq.{slice_eq-Decides}
use Rattle.ror_system.specs.Numbers.{spread}
use Rattle.ror_system.proofs.NumberLemmas.{as_many, places_same, values_same}
use Rattle.ror_system.proofs.numbers.Numbers.is_same.Goals as goal

pub returns-then-self-other : goal.returns-then-self-other
returns-then-self-other c = (
  λ no. search rules,
  λ e.
      let a = as_many c.self.inside.len c.self.inside.places.items c.self.inside.values _ c.self.invariant c.self.view_is in
      let b = as_many c.other.inside.len c.other.inside.places.items c.other.inside.values _ c.other.invariant c.other.view_is in
      let n = ap length e in
      absurd (omega arith),
)

pub returns-then-not-are_placed_alike : goal.returns-then-not-are_placed_alike
returns-then-not-are_placed_alike c = (
  λ no. search rules,
  λ e.
      let same = places_same c.args.other.now c.self.inside.len c.other.inside.len c.self.inside.places.items c.other.inside.places.items c.self.inside.values c.other.inside.values c.self.invariant (c.self.view_is ∙ e) c.other.invariant c.other.view_is in
      let both = slice_eq-Decides Decides-eqb _ _ _ c.eq-are_placed_alike.ensures in
      let yes_too = both.1 (c.as_slice.ensures.value ∙ same ∙ sym c.as_slice-2.ensures.value) in
      absurd (search rules),
)

pub returns : goal.returns
returns c = (
  λ same.
      let vs = c.is_same.ensures.0 same in
      let n : c.self.inside.len ≡ c.other.inside.len = search rules in
      let ps : c.self.inside.places.items ≡ c.other.inside.places.items = sym c.as_slice.ensures.value ∙ (slice_eq-Decides Decides-eqb _ _ _ c.eq-are_placed_alike.ensures).0 (search rules) ∙ c.as_slice-2.ensures.value in
      sym c.self.view_is ∙ ap (λ (k : ℕ). spread 0 k c.self.inside.places.items c.self.inside.values) n ∙ ap (λ (xs : List ℕ). spread 0 c.other.inside.len xs c.self.inside.values) ps ∙ ap (λ (xs : List ℤ). spread 0 c.other.inside.len c.other.inside.places.items xs) vs ∙ c.other.view_is,
  λ e.
      c.is_same.ensures.1 (values_same c.args.other.now c.self.inside.len c.other.inside.len c.self.inside.places.items c.other.inside.places.items c.self.inside.values c.other.inside.values c.self.invariant (c.self.view_is ∙ e) c.other.invariant c.other.view_is),
)
