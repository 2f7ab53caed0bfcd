use Rattle.std.proofs.Common.{rules, w64, FitsSigned, ap₂, ◌∙◌, int_cmp}
use Rattle.ror_table.proofs.AmountLemmas.{wide_product}
use Rattle.ror_table.proofs.amount.Amount.compare.Goals as goal

pub returns : goal.returns
returns c =
    let a : FitsSigned w64 c.args.self.now.num = search rules in
    let b : FitsSigned w64 c.args.self.now.den = search rules in
    let d : FitsSigned w64 c.args.o.now.num = search rules in
    let e : FitsSigned w64 c.args.o.now.den = search rules in
    c.cmp-2.ensures ∙ ap₂ int_cmp
    (wide_product c.args.self.now.num c.args.o.now.den c.from.result c.from-2.result a e c.from.ensures c.from-2.ensures)
    (wide_product c.args.o.now.num c.args.self.now.den c.from-3.result c.from-4.result d b c.from-3.ensures c.from-4.ensures)
