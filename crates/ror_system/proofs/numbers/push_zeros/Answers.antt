use Rattle.std.proofs.Common.{◌≡◌, ◌∙◌, ◌-◌, ◌++◌, ℕ, length, replicate, pos, ap, sym, arith, append-nil}
use Rattle.ror_system.proofs.NumberLemmas.{zeros_behind}
use Rattle.ror_system.proofs.numbers.push_zeros.Goals as goal

pub loop-place-init : goal.loop-place-init
loop-place-init c = sym (append-nil _)

pub loop-place-preserved : goal.loop-place-preserved
loop-place-preserved c = zeros_behind c.args.numbers.now.items _ _ c.loop-place._place c.loop-place.invariant c.in_ok-push.ensures.items

pub returns : goal.returns
returns c =
    let xs = c.args.numbers.now.items in
    let e : c.loop-place._place ≡ c.args.count - length xs = omega arith in
    c.loop-place.invariant ∙ ap (λ (k : ℕ). xs ++ replicate k (pos 0)) e
