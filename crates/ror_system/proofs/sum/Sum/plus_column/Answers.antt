use Rattle.std.proofs.Common.{◌+◌, ◌≤◌, ◌∙◌, ◌^◌, get_or, refl, sym, arith, rules, FitsSigned}
use Rattle.std.specs.Int.{w128}
use Rattle.std.proofs.lemmas.Int.{to_z-of_z}
use Rattle.ror_integers.specs.Vectors.{column, absolute_dot}
use Rattle.ror_integers.proofs.Rows.{length-column}
use Rattle.ror_system.proofs.Sums.{IsLeft-more, IsLeft-over, IsLeft-end, entry-column_of}
use Rattle.ror_system.proofs.Others.{IsWalked-at, IsWalked-more, IsWalked-end, Lasts-left, value_there}
use Rattle.ror_system.proofs.sum.Sum.plus_column.Goals as goal

pub returns-in_err-sum : goal.returns-in_err-sum
returns-in_err-sum c =
    let rows = c.args.rows.now in
    let ms = c.args.multipliers.now in
    let places = c.others.result.0.now in
    let i = c.loop-i.i in
    let j = c.args.j in
    let p = get_or places i 0 in
    let n = length-column rows j in
    let f : FitsSigned w128 c.entry.result = search rules in
    let g : FitsSigned w128 c.entry-in-loop-i.result = search rules in
    let at = IsWalked-at ms places i p _ (Lasts-left _ c.args.self.value _ c.args.self.width ms (column rows j) (omega arith)) (omega arith) refl c.loop-i.invariant in
    let within = at.0 in
    let v = value_there ms c.others.result.1.now places i _ c.others.ensures.values (omega arith) (to_z-of_z w128 _ f ∙ c.entry.ensures) in
    let e = to_z-of_z w128 _ g ∙ c.entry-in-loop-i.ensures.value ∙ sym (entry-column_of rows p j _ (omega arith) c.index-rows-places.is) in
    let over = IsLeft-over _ c.args.self.value _ c.args.self.width ms (column rows j) p _ _ (2 ^ 127) at.1 at.0 (omega arith) v e c.in_err-sum.ensures in
    let all : 2 ^ 127 ≤ c.args.self.width + absolute_dot ms (column rows j) = omega arith in
    search rules

pub loop-i-preserved : goal.loop-i-preserved
loop-i-preserved c =
    let rows = c.args.rows.now in
    let ms = c.args.multipliers.now in
    let places = c.others.result.0.now in
    let i = c.loop-i.i in
    let j = c.args.j in
    let p = get_or places i 0 in
    let n = length-column rows j in
    let f : FitsSigned w128 c.entry.result = search rules in
    let g : FitsSigned w128 c.entry-in-loop-i.result = search rules in
    let at = IsWalked-at ms places i p _ (Lasts-left _ c.args.self.value _ c.args.self.width ms (column rows j) (omega arith)) (omega arith) refl c.loop-i.invariant in
    let within = at.0 in
    let v = value_there ms c.others.result.1.now places i _ c.others.ensures.values (omega arith) (to_z-of_z w128 _ f ∙ c.entry.ensures) in
    let e = to_z-of_z w128 _ g ∙ c.entry-in-loop-i.ensures.value ∙ sym (entry-column_of rows p j _ (omega arith) c.index-rows-places.is) in
    IsWalked-more ms places i p _ _ (omega arith) refl c.loop-i.invariant (IsLeft-more _ c.args.self.value _ c.args.self.width ms (column rows j) p _ _ _ _ at.1 at.0 (omega arith) v e c.in_ok-sum.ensures.0 c.in_ok-sum.ensures.1)

pub returns : goal.returns
returns c =
    let n = length-column c.args.rows.now c.args.j in
    let end = IsWalked-end c.args.multipliers.now c.others.result.0.now c.loop-i.i _ (Lasts-left _ c.args.self.value _ c.args.self.width c.args.multipliers.now (column c.args.rows.now c.args.j) (omega arith)) (omega arith) c.loop-i.invariant in
    let long = end.1 in
    IsLeft-end _ c.args.self.value _ c.args.self.width c.args.multipliers.now (column c.args.rows.now c.args.j) end.0 end.2 (omega arith)
