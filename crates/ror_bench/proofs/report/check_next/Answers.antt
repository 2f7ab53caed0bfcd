use Rattle.std.proofs.Common.{◌≡◌, true, false, sym, ◌∙◌}
use Rattle.ror_bench.specs.Bench.{revisions_at}
use Rattle.ror_bench.proofs.ReportProofs.{early_rejects, refused_rejects, misread_rejects}
use Rattle.ror_bench.proofs.report.check_next.Goals as goal

pub returns-then-begins_end-clause-rejected : goal.returns-then-begins_end-clause-rejected
returns-then-begins_end-clause-rejected c =
    let is : c.begins_end.result ≡ true = c.if-begins_end.true in
    early_rejects c.args.bench.now.table (revisions_at c.args.bench.now c.args.line.now.desk) c.args.line.now c.args.bytes.now c.args.from c.args.block c.early_end.result (sym c.begins_end.ensures ∙ is) c.early_end.ensures.rejected

pub returns-in-Err-check_line-clause-rejected : goal.returns-in-Err-check_line-clause-rejected
returns-in-Err-check_line-clause-rejected c =
    let is : c.begins_end.result ≡ false = c.if-begins_end.false in
    rw c.refused_block.ensures (refused_rejects c.args.bench.now.table c.table.result.now (revisions_at c.args.bench.now c.args.line.now.desk) c.args.line.now c.args.bytes.now c.args.from c.args.block c.in-Ok.after c.in-Ok.found c.in-Err-check_line.fault c.table.ensures.value (sym c.begins_end.ensures ∙ is) c.in-Ok.ensures.exact c.in-Err-check_line.ensures.refused)

pub returns-in-Err-clause-rejected : goal.returns-in-Err-clause-rejected
returns-in-Err-clause-rejected c =
    let is : c.begins_end.result ≡ false = c.if-begins_end.false in
    rw c.misread.ensures (misread_rejects c.args.bench.now.table c.table.result.now (revisions_at c.args.bench.now c.args.line.now.desk) c.args.line.now c.args.bytes.now c.args.from c.args.block c.in-Err.fault c.table.ensures.value (sym c.begins_end.ensures ∙ is) c.in-Err.ensures.exact)
