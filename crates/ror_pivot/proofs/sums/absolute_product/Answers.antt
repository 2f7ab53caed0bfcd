-- A number that has no word is too wide in each product with a word that is not 0.
use Rattle.std.proofs.Common.{◌≢◌, ◌<◌, ◌*ℤ◌, ℤ, pos, unsigned_abs, subst, rules}
use Rattle.std.specs.Int.{w128}
use Rattle.std.proofs.lemmas.Int.{to_z-of_z}
use Rattle.ror_pivot.proofs.SumLemmas.{none_given, product_over}
use Rattle.ror_pivot.proofs.sums.absolute_product.Goals as goal

pub returns-in_err-from_i128 : goal.returns-in_err-from_i128
returns-in_err-from_i128 g c =
    let value = g.W.Word.value in
    let most = g.W.Word.most in
    let word = value c.args.word in
    let not_zero : word ≢ pos 0 = search (rules, c.is_zero.ensures.1) in
    let wide = subst (λ (z : ℤ). most < unsigned_abs z) (to_z-of_z w128 c.args.number c.ranges.number) c.in_err-from_i128.ensures in
    none_given value most c.from_residual.result (pos (unsigned_abs (c.args.number *ℤ word))) c.from_residual.ensures
    (product_over most c.args.number word wide not_zero)
