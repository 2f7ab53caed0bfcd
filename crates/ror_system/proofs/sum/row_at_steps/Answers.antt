use Rattle.std.proofs.Common.{◌≤◌, ◌∙◌, ◌^◌, pos, get_or, refl, arith, rules, FitsSigned}
use Rattle.std.specs.Int.{w128}
use Rattle.std.proofs.lemmas.Int.{ints, to_z-of_z}
use Rattle.ror_integers.specs.Vectors.{absolute_dot}
use Rattle.ror_system.proofs.Sums.{IsLeft-more, IsLeft-over, IsLeft-end}
use Rattle.ror_system.proofs.Others.{IsWalked-at, IsWalked-more, IsWalked-end, Lasts-right, value_there}
use Rattle.ror_system.proofs.sum.row_at_steps.Goals as goal

pub returns-in_err-sum : goal.returns-in_err-sum
returns-in_err-sum c =
    let row = c.args.row.now in
    let steps = c.args.steps.now in
    let places = c.others.result.0.now in
    let i = c.loop-i.i in
    let j = get_or places i 0 in
    let f : FitsSigned w128 c.entry.result = search rules in
    let g : FitsSigned w128 c.entry-in-loop-i.result = search rules in
    let e = value_there steps c.others.result.1.now places i _ c.others.ensures.values (omega arith) (to_z-of_z w128 _ g ∙ c.entry-in-loop-i.ensures) in
    let at = IsWalked-at steps places i j _ (Lasts-right _ (pos 0) _ 0 row steps c.requires) (omega arith) refl c.loop-i.invariant in
    let within = at.0 in
    let over = IsLeft-over _ (pos 0) _ 0 row steps j _ _ (2 ^ 127) at.1 (omega arith) at.0 (to_z-of_z w128 _ f ∙ c.entry.ensures.value) e c.in_err-sum.ensures in
    let all : 2 ^ 127 ≤ absolute_dot row steps = omega arith in
    search rules

pub loop-i-preserved : goal.loop-i-preserved
loop-i-preserved c =
    let row = c.args.row.now in
    let steps = c.args.steps.now in
    let places = c.others.result.0.now in
    let i = c.loop-i.i in
    let j = get_or places i 0 in
    let f : FitsSigned w128 c.entry.result = search rules in
    let g : FitsSigned w128 c.entry-in-loop-i.result = search rules in
    let e = value_there steps c.others.result.1.now places i _ c.others.ensures.values (omega arith) (to_z-of_z w128 _ g ∙ c.entry-in-loop-i.ensures) in
    let at = IsWalked-at steps places i j _ (Lasts-right _ (pos 0) _ 0 row steps c.requires) (omega arith) refl c.loop-i.invariant in
    let within = at.0 in
    IsWalked-more steps places i j _ _ (omega arith) refl c.loop-i.invariant (IsLeft-more _ (pos 0) _ 0 row steps j _ _ _ _ at.1 (omega arith) at.0 (to_z-of_z w128 _ f ∙ c.entry.ensures.value) e c.in_ok-sum.ensures.0 c.in_ok-sum.ensures.1)

pub returns : goal.returns
returns c =
    let end = IsWalked-end c.args.steps.now c.others.result.0.now c.loop-i.i _ (Lasts-right _ (pos 0) _ 0 c.args.row.now c.args.steps.now c.requires) (omega arith) c.loop-i.invariant in
    let long = end.1 in
    let e = IsLeft-end _ (pos 0) _ 0 c.args.row.now c.args.steps.now end.0 end.2 (omega arith) in
    let v = e.0 in
    let w = e.1 in
    let n = c.loop-i.sum.narrow in
    (omega (arith, ints), omega arith)
