use Rattle.std.proofs.Common.{◌++◌, List, ℤ, pos, ap, get_or, FitsSigned, rules}
use Rattle.std.specs.Int.{w128}
use Rattle.std.proofs.lemmas.Int.{to_z-of_z}
use Rattle.ror_system.proofs.NumberLemmas.{IsLeftToPush-more, IsLeftToPush-end}
use Rattle.ror_system.proofs.numbers.Numbers.of.Goals as goal

pub loop-number-init : goal.loop-number-init
loop-number-init c = ap (λ (xs : List ℤ). xs ++ c.args.numbers.now) c.new-list.ensures

pub loop-number-preserved : goal.loop-number-preserved
loop-number-preserved c =
    let g : FitsSigned w128 (get_or c.args.numbers.now c.loop-number.number-index (pos 0)) = search rules in
    IsLeftToPush-more _ _ _ _ _ _ c.loop-number.invariant c.loop-number-test.true (to_z-of_z w128 _ g) c.in_ok-push.ensures.ok

pub returns : goal.returns
returns c = IsLeftToPush-end _ _ _ _ c.loop-number.invariant c.loop-number-test.false
