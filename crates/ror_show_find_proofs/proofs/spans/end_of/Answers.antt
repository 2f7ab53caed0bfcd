use Rattle.std.proofs.Common.{◌≡◌, true, false, sym, ◌∙◌, rules}
use Rattle.std.specs.Prelude.{◌<◌}
use Rattle.ror_table.specs.Table.{width}
use Rattle.ror_show_find_proofs.specs.Spans.{is_step_used}
use Rattle.ror_show_find_proofs.proofs.SpanLemmas.{ends_here, extends}
use Rattle.ror_show_find_proofs.proofs.spans.end_of.Goals as goal

pub returns-then-not-is_step_used : goal.returns-then-not-is_step_used
returns-then-not-is_step_used c =
    let unused : is_step_used c.args.table.now c.args.used.now c.args.i c.steps.end ≡ false = search rules in
    sym (ends_here c.args.table.now c.args.used.now c.args.i c.steps.end unused) ∙ c.steps.invariant

pub steps-preserved : goal.steps-preserved
steps-preserved c =
    let there : is_step_used c.args.table.now c.args.used.now c.args.i c.steps.end ≡ true = search rules in
    let below : c.steps.end < width c.args.table.now c.args.i = search rules in
    sym (extends c.args.table.now c.args.used.now c.args.i c.steps.end below there) ∙ c.steps.invariant
