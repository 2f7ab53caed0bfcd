-- The marginal value isn't above the value of the best levels, which is above 0.
use Rattle.std.proofs.Common.{◌≡◌, ◌<ℤ◌, pos, sym, subst, ◌∙◌, rules}
use Rattle.std.specs.Prelude.{unsigned_abs, ◌≤ℤ◌, ℤ, ◌<◌, ◌^◌}
use Rattle.ror_value.proofs.Values.{ideal-positive}
use Rattle.ror_show_find_proofs.proofs.Runs.{share_of}
use Rattle.ror_show_find_proofs.proofs.levels.share_at.Goals as goal

pub returns-clause-share : goal.returns-clause-share
returns-clause-share c =
    let t = c.args.table.now in
    let f = c.args.function.now in
    let part : c.unsigned_abs.result ≡ unsigned_abs c.marginal.result = search rules in
    let whole : c.unsigned_abs-2.result ≡ unsigned_abs c.total.result = search rules in
    let total : c.total.result ≡ c.args.function.now.total = c.total.ensures.number in
    let positive : pos 0 <ℤ c.total.result = subst (λ (z : ℤ). pos 0 <ℤ z) (sym (total ∙ c.requires.function.ideal)) (ideal-positive t f.steps c.requires.function.table c.requires.function.function) in
    let below : c.marginal.result ≤ℤ c.total.result = subst (λ (z : ℤ). c.marginal.result ≤ℤ z) (sym total) c.marginal.ensures.bounds.1 in
    let narrow : unsigned_abs c.total.result < 2 ^ 127 = subst (λ (z : ℤ). unsigned_abs z < 2 ^ 127) (sym total) c.total.ensures.narrow in
    share_of c.marginal.result c.total.result _ part whole c.marginal.ensures.bounds.0 below positive narrow
