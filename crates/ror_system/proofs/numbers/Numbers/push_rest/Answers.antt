use Rattle.std.proofs.Common.{◌∙◌, refl, FitsSigned, arith, rules}
use Rattle.std.specs.Int.{w128}
use Rattle.std.proofs.lemmas.Int.{to_z-of_z}
use Rattle.ror_system.proofs.NumberLemmas.{IsLeftToPush-more, IsLeftToPush-end}
use Rattle.ror_system.proofs.numbers.Numbers.push_rest.Goals as goal

pub loop-k-init : goal.loop-k-init
loop-k-init c = refl

pub loop-k-preserved : goal.loop-k-preserved
loop-k-preserved c =
    let g : FitsSigned w128 c.entry.result = search rules in
    IsLeftToPush-more _ _ c.args.other.now _ c.loop-k.k _ c.loop-k.invariant (omega arith) (to_z-of_z w128 _ g ∙ c.entry.ensures) c.in_ok-push.ensures.ok

pub returns : goal.returns
returns c = IsLeftToPush-end _ c.args.other.now _ c.loop-k.k c.loop-k.invariant (omega arith)
