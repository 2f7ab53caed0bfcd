use Rattle.std.proofs.Common.{rules, ◌<◌, ◌∙◌, ap, sym, subst, arith, pos, ◌<ℤ◌, w64, FitsSigned, unsigned_abs, Some}
use Rattle.std.proofs.lemmas.Int.{ints}
use Rattle.ror_table.specs.Amounts.{IsAmount}
use Rattle.ror_table.specs.declared.amount.Amount.{Amount}
use Rattle.ror_table.specs.declared.limits.TheConstants.{AMOUNT_LIMIT}
use Rattle.ror_table.proofs.AmountLemmas.{divisor_fits, code_divisor, code_quotient_fits, code_lowest, amount_of-some, IsAmount-lowest}
use Rattle.ror_table.proofs.amount.Amount.new.Goals as goal

pub overflow_cast-common : goal.overflow_cast-common
overflow_cast-common c =
    let h : pos 0 <ℤ c.args.den = omega (arith, ints) in
    let fn : FitsSigned w64 c.args.num = search rules in
    let fd : FitsSigned w64 c.args.den = search rules in
    let d : unsigned_abs c.args.den < AMOUNT_LIMIT = omega (arith, ints) in
    let g = code_divisor c.args.num c.args.den c.greatest_divisor-common.result c.unsigned_abs-2.result c.unsigned_abs-3.result fn fd
    c.greatest_divisor-common.ensures c.unsigned_abs-2.ensures.value c.unsigned_abs-3.ensures.value in
    let small = divisor_fits c.args.num c.args.den c.greatest_divisor-common.result g h d in
    omega (arith, ints)

pub nonzero_div-result : goal.nonzero_div-result
nonzero_div-result c =
    let h : pos 0 <ℤ c.args.den = omega (arith, ints) in
    let fn : FitsSigned w64 c.args.num = search rules in
    let fd : FitsSigned w64 c.args.den = search rules in
    let d : unsigned_abs c.args.den < AMOUNT_LIMIT = omega (arith, ints) in
    let g = code_divisor c.args.num c.args.den c.greatest_divisor-common.result c.unsigned_abs-2.result c.unsigned_abs-3.result fn fd
    c.greatest_divisor-common.ensures c.unsigned_abs-2.ensures.value c.unsigned_abs-3.ensures.value in
    let small = divisor_fits c.args.num c.args.den c.greatest_divisor-common.result g h d in
    (small.0, code_quotient_fits c.args.num c.greatest_divisor-common.result fn small.0 small.1)

pub nonzero_div-result-2 : goal.nonzero_div-result-2
nonzero_div-result-2 c =
    let h : pos 0 <ℤ c.args.den = omega (arith, ints) in
    let fn : FitsSigned w64 c.args.num = search rules in
    let fd : FitsSigned w64 c.args.den = search rules in
    let d : unsigned_abs c.args.den < AMOUNT_LIMIT = omega (arith, ints) in
    let g = code_divisor c.args.num c.args.den c.greatest_divisor-common.result c.unsigned_abs-2.result c.unsigned_abs-3.result fn fd
    c.greatest_divisor-common.ensures c.unsigned_abs-2.ensures.value c.unsigned_abs-3.ensures.value in
    let small = divisor_fits c.args.num c.args.den c.greatest_divisor-common.result g h d in
    (small.0, code_quotient_fits c.args.den c.greatest_divisor-common.result fd small.0 small.1)

pub returns-clause-value : goal.returns-clause-value
returns-clause-value c =
    let h : pos 0 <ℤ c.args.den = omega (arith, ints) in
    let fn : FitsSigned w64 c.args.num = search rules in
    let fd : FitsSigned w64 c.args.den = search rules in
    let d : unsigned_abs c.args.den < AMOUNT_LIMIT = omega (arith, ints) in
    let g = code_divisor c.args.num c.args.den c.greatest_divisor-common.result c.unsigned_abs-2.result c.unsigned_abs-3.result fn fd
    c.greatest_divisor-common.ensures c.unsigned_abs-2.ensures.value c.unsigned_abs-3.ensures.value in
    let n : unsigned_abs c.args.num < AMOUNT_LIMIT = omega (arith, ints) in
    let low = code_lowest c.args.num c.args.den c.greatest_divisor-common.result g fn fd h d in
    ap (λ (p : Amount). Some p) low ∙ sym (amount_of-some c.args.num c.args.den h n d)

pub returns-clause-amount : goal.returns-clause-amount
returns-clause-amount c =
    let h : pos 0 <ℤ c.args.den = omega (arith, ints) in
    let fn : FitsSigned w64 c.args.num = search rules in
    let fd : FitsSigned w64 c.args.den = search rules in
    let d : unsigned_abs c.args.den < AMOUNT_LIMIT = omega (arith, ints) in
    let g = code_divisor c.args.num c.args.den c.greatest_divisor-common.result c.unsigned_abs-2.result c.unsigned_abs-3.result fn fd
    c.greatest_divisor-common.ensures c.unsigned_abs-2.ensures.value c.unsigned_abs-3.ensures.value in
    let n : unsigned_abs c.args.num < AMOUNT_LIMIT = omega (arith, ints) in
    let low = code_lowest c.args.num c.args.den c.greatest_divisor-common.result g fn fd h d in
    subst IsAmount (sym low) (IsAmount-lowest c.args.num c.args.den h n d)
