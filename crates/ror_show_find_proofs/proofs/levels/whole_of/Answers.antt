-- The value of the best levels is above 0.
use Rattle.std.proofs.Common.{◌≡◌, ◌<ℤ◌, pos, sym, subst, ◌∙◌, rules, arith}
use Rattle.std.specs.Prelude.{unsigned_abs, ◌≤ℤ◌, ℤ, ◌<◌, ◌^◌}
use Rattle.std.proofs.lemmas.Int.{ints}
use Rattle.ror_value.proofs.Values.{ideal-positive}
use Rattle.ror_show_find_proofs.proofs.Runs.{share_of}
use Rattle.ror_show_find_proofs.proofs.levels.whole_of.Goals as goal

pub returns-clause-share : goal.returns-clause-share
returns-clause-share c =
    let t = c.args.table.now in
    let f = c.args.function.now in
    let whole : c.unsigned_abs-whole.result ≡ unsigned_abs c.total.result = search rules in
    let total : c.total.result ≡ c.args.function.now.total = c.total.ensures.number in
    let positive : pos 0 <ℤ c.total.result = subst (λ (z : ℤ). pos 0 <ℤ z) (sym (total ∙ c.requires.ideal)) (ideal-positive t f.steps c.requires.table c.requires.function) in
    let above : pos 0 ≤ℤ c.total.result = grind (arith, ints) in
    let same : c.total.result ≤ℤ c.total.result = grind (arith, ints) in
    let narrow : unsigned_abs c.total.result < 2 ^ 127 = subst (λ (z : ℤ). unsigned_abs z < 2 ^ 127) (sym total) c.total.ensures.narrow in
    share_of c.total.result c.total.result _ whole whole above same positive narrow
