use Rattle.std.proofs.Common.{◌≡◌, ◌<◌, ◌≤◌, ◌∙◌, ℕ, ℤ, length, unsigned_abs, arith, rules, subst, sym, ap, FitsSigned}
use Rattle.std.specs.Int.{w128}
use Rattle.std.specs.List.{AllByRecursion}
use Rattle.std.proofs.lemmas.Int.{to_z-of_z}
use Rattle.ror_integers.specs.Vectors.{entry}
use Rattle.ror_system.proofs.NumberLemmas.{All-spread, All-of_spread, All-from_entries, All-entry}
use Rattle.ror_system.proofs.numbers.Numbers.are_within.Goals as goal

pub returns-then-unsigned_abs-most : goal.returns-then-unsigned_abs-most
returns-then-unsigned_abs-most c =
    let P : ℤ → Type 0 = λ number. unsigned_abs number ≤ c.args.most in
    let f : FitsSigned w128 c.entry.result = search rules in
    let e = to_z-of_z w128 _ f ∙ c.entry.ensures in
    let v = c.unsigned_abs.ensures.value in (
      λ no. search rules,
      λ all.
          let values = All-of_spread P 0 c.self.inside.len c.self.inside.places.items c.self.inside.values c.self.invariant (subst (AllByRecursion P) (sym c.self.view_is) all) in
          let one : unsigned_abs (entry c.self.inside.values c.loop-index.index) ≤ c.args.most = All-entry P c.self.inside.values c.loop-index.index values (omega arith) in
          let two : unsigned_abs (entry c.self.inside.values c.loop-index.index) ≡ c.unsigned_abs.result = ap unsigned_abs (sym e) ∙ sym v in
          absurd (omega arith),
    )

pub returns : goal.returns
returns c =
    let P : ℤ → Type 0 = λ number. unsigned_abs number ≤ c.args.most in
    let values = All-from_entries P c.self.inside.values (λ (j : ℕ) (l : j < length c.self.inside.values). c.loop-index.invariant j (omega arith)) in
    (λ yes_too. subst (AllByRecursion P) c.self.view_is (All-spread P 0 c.self.inside.len c.self.inside.places.items c.self.inside.values (omega arith) c.self.invariant values), λ all. search rules)
