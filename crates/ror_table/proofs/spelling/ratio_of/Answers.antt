use Rattle.std.proofs.Common.{rules, ◌≡◌, ◌∙◌, ap₂, ◌<◌, ◌^◌, unsigned_abs, pos, arith, w64, FitsSigned, to_z}
use Rattle.std.proofs.lemmas.Int.{ints, to_z-of_z}
use Rattle.ror_table.specs.Amounts.{amount_of}
use Rattle.ror_table.proofs.SpellingLemmas.{ratio_made}
use Rattle.ror_table.proofs.spelling.ratio_of.Goals as goal

pub returns-clause-value : goal.returns-clause-value
returns-clause-value c =
    let fits : FitsSigned w64 c.in_ok-num.num = search rules in
    let small : unsigned_abs c.in_ok-num.num < 10 ^ 18 = c.in_ok-num.ensures.small in
    let few : c.in_ok-unsigned.field-0 < 10 ^ 18 = c.in_ok-unsigned.ensures.small in
    let den : to_z w64 c.in_ok-unsigned.field-0 ≡ pos c.in_ok-unsigned.field-0 = omega (arith, ints) in
    c.new.ensures.value
    ∙ ap₂ amount_of (to_z-of_z w64 c.in_ok-num.num fits) den
    ∙ ratio_made c.args.first.now c.args.second.now c.in_ok-num.num c.in_ok-unsigned.field-0 c.in_ok-num.ensures.value c.in_ok-unsigned.ensures.value small few
