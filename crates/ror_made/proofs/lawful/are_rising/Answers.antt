use Rattle.std.proofs.Common.{◌≡◌, ℕ, ◌+◌, ◌-◌, ◌<◌, ◌≤◌, List, length, get_or, subst, arith, inl, inr}
use Rattle.std.proofs.lemmas.Bool.{cases_lt}
use Rattle.std.proofs.lemmas.List.{get_or-map}
use Rattle.ror_statement.specs.declared.statement.Numbered.{Numbered}
use Rattle.ror_statement.specs.Statements.{numbers_in}
use Rattle.ror_made.proofs.lawful.are_rising.Goals as goal

rising_more : (list : List Numbered) (place : ℕ) (d e : Numbered) → 1 ≤ place → place < length list → ((k : ℕ) → k + 1 < place → get_or (numbers_in list) k 0 < get_or (numbers_in list) (k + 1) 0) → (get_or list (place - 1) d).number < (get_or list place e).number
    → (k : ℕ) → k + 1 < place + 1 → get_or (numbers_in list) k 0 < get_or (numbers_in list) (k + 1) 0
rising_more list place d e from lt before here k within = elim (cases_lt (k + 1) place) [
  | inl less ↦ before k less
  | inr le ↦
      let low : place - 1 ≡ k = omega arith in
      let high : place ≡ k + 1 = omega arith in
      let first = get_or-map (λ (x : Numbered). x.number) list k d 0 (omega arith) in
      let second = get_or-map (λ (x : Numbered). x.number) list (k + 1) e 0 (omega arith) in
      let order : (get_or list k d).number < (get_or list (k + 1) e).number = subst (λ n. (get_or list k d).number < (get_or list n e).number) high (subst (λ n. (get_or list n d).number < (get_or list place e).number) low here) in
      omega (arith, first, second, order)
]

pub loop-place-preserved : goal.loop-place-preserved
loop-place-preserved c = rising_more c.args.standing.now c.loop-place.place _ _ c.loop-place.auto.place c.loop-place-test.true c.loop-place.invariant c.if-standing-place.false
