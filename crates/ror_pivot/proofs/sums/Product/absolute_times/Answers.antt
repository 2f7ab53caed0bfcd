-- A product of words that is too wide is so in each product with a number that is not 0.
use Rattle.std.proofs.Common.{◌≢◌, ◌<◌, ◌*ℤ◌, ℤ, pos, unsigned_abs, of_z, ap, subst}
use Rattle.std.specs.Int.{w128}
use Rattle.ror_integers.proofs.Ring.{product_comm}
use Rattle.ror_pivot.proofs.SumLemmas.{none_given, product_over}
use Rattle.ror_pivot.proofs.sums.Product.absolute_times.Goals as goal

pub returns-in_err-mul : goal.returns-in_err-mul
returns-in_err-mul g c =
    let value = g.W.Word.value in
    let most = g.W.Word.most in
    let number = c.args.number in
    let product = c.args.self.now in
    let not_zero : number ≢ pos 0 = λ e. c.if-number-eq0.false (ap (of_z w128) e) in
    let wide = subst (λ (z : ℤ). most < unsigned_abs z) c.self.view_is c.in_err-mul.ensures in
    none_given value most c.from_residual.result (pos (unsigned_abs (number *ℤ product))) c.from_residual.ensures
    (subst (λ (z : ℤ). most < unsigned_abs z) (product_comm product number) (product_over most product number wide not_zero))
