use Rattle.std.proofs.Common.{rules, ◌≡◌, ◌≢◌, ◌-◌, true, false, refl, sym, ap, ◌∙◌}
use Rattle.ror_report.specs.Text.{end_text}
use Rattle.ror_bench.specs.Reports.{miscounted}
use Rattle.ror_bench.proofs.ReportProofs.{last_read, late_rejects, end_rejects}
use Rattle.ror_bench.proofs.report.check_end.Goals as goal

pub returns-then-not-begins_end-clause-rejected : goal.returns-then-not-begins_end-clause-rejected
returns-then-not-begins_end-clause-rejected c =
    let is : c.begins_end.result ≡ false = search rules in
    late_rejects c.args.table.now c.args.bytes.now c.args.from c.args.block (c.args.block - 1) c.late_block.result (sym c.begins_end.ensures ∙ is) c.late_block.ensures.rejected

pub returns-in-Ok-clause-last : goal.returns-in-Ok-clause-last
returns-in-Ok-clause-last c =
    let same : c.in-Ok.blocks ≡ c.args.block - 1 = c.if-blocks-block.true in
    last_read c.args.bytes.now c.args.from c.in-Ok.blocks c.in-Ok.ensures.exact ∙ ap end_text same

pub returns-in-Ok-2-clause-rejected : goal.returns-in-Ok-2-clause-rejected
returns-in-Ok-2-clause-rejected c =
    let is : c.begins_end.result ≡ true = search rules in
    let other : c.in-Ok.blocks ≢ c.args.block - 1 = c.if-blocks-block.false in
    rw c.wrong_block.ensures (refl, miscounted c.in-Ok.blocks (sym c.begins_end.ensures ∙ is) c.in-Ok.ensures.exact other refl)

pub returns-in-Err-clause-rejected : goal.returns-in-Err-clause-rejected
returns-in-Err-clause-rejected c =
    let is : c.begins_end.result ≡ true = search rules in
    rw c.misread.ensures (end_rejects c.args.table.now c.args.bytes.now c.args.from c.args.block (c.args.block - 1) c.in-Err.fault (sym c.begins_end.ensures ∙ is) c.in-Err.ensures.exact)
