use Rattle.std.proofs.Common.{arith, ℕ, subst, take}
use Rattle.std.proofs.lemmas.List.{take_all}
use Rattle.ror_bench.proofs.UniqueLemmas.{true_not_false}
use Rattle.ror_work_levels.specs.Suiting.{IsUnfitAt}
use Rattle.ror_work_levels.proofs.Suits.{AreFitAt, fit_more, first_unfit_here}
use Rattle.ror_work_levels.proofs.fit.first_unfit.Goals as goal

pub loop-line-init : goal.loop-line-init
loop-line-init c = tt

pub loop-line-preserved : goal.loop-line-preserved
loop-line-preserved c = fit_more c.first_desk-desk.result c.args.lines.now c.loop-line.line-index c.line-item.result c.loop-line-test.true c.line-item.is c.loop-line.invariant (λ is. true_not_false _ (c.is_unfit.ensures.1 is) c.if-is_unfit.false)

pub returns : goal.returns
returns c =
    let lines = c.args.lines.now in
    let all = subst (AreFitAt c.first_desk-desk.result) (take_all c.loop-line.line-index lines (omega arith)) c.loop-line.invariant in
    subst (λ (desk : ℕ). AreFitAt desk lines) c.first_desk-desk.ensures all

pub returns-then-is_unfit : goal.returns-then-is_unfit
returns-then-is_unfit c =
    let lines = c.args.lines.now in
    let line = c.line-item.result in
    let front = subst (λ (desk : ℕ). AreFitAt desk (take c.loop-line.line-index lines)) c.first_desk-desk.ensures c.loop-line.invariant in
    first_unfit_here lines c.loop-line.line-index line c.loop-line-test.true c.line-item.is front (subst (λ (desk : ℕ). IsUnfitAt desk line) c.first_desk-desk.ensures (c.is_unfit.ensures.0 c.if-is_unfit.true))
