use Rattle.std.proofs.Common.{subst, sym}
use Rattle.std.proofs.lemmas.Result.{err_from_is_err_and}
use Rattle.ror_table.specs.Table.{DecisionTable}
use Rattle.ror_json.specs.Texts.{IsJsonReport}
use Rattle.ror_work_json.proofs.Rejections.{refused_text, rejected_blocks, proved_blocks}
use Rattle.ror_work_json.proofs.blocks.check_text.Goals as goal

pub returns-in_err-blocks-clause-rejected : goal.returns-in_err-blocks-clause-rejected
returns-in_err-blocks-clause-rejected c =
    let p = err_from_is_err_and c.from_residual.result c.from_residual.ensures.1 in
    rw (p.1, p.2) (refused_text c.args.bench c.args.lines.now c.args.bytes.now c.table-2.result.now c.in_err-blocks.field-0.0 c.table-2.ensures.value c.in_err-blocks.ensures.rejected)

pub returns-clause-rejected : goal.returns-clause-rejected
returns-clause-rejected c =
    let json = subst (λ (t : DecisionTable). IsJsonReport t c.args.bytes.now c.in_ok-blocks.blocks.items) c.table-2.ensures.value c.in_ok-blocks.ensures.read in
    rejected_blocks c.args.bench c.args.lines.now c.args.bytes.now c.in_ok-blocks.blocks.items c.check_blocks.result json (rw (sym c.as_slice.ensures.value) c.check_blocks.ensures.rejected)

pub returns-clause-accepted : goal.returns-clause-accepted
returns-clause-accepted c =
    let json = subst (λ (t : DecisionTable). IsJsonReport t c.args.bytes.now c.in_ok-blocks.blocks.items) c.table-2.ensures.value c.in_ok-blocks.ensures.read in
    proved_blocks c.args.bench c.args.lines.now c.args.bytes.now c.in_ok-blocks.blocks.items c.check_blocks.result json (rw (sym c.as_slice.ensures.value) c.check_blocks.ensures.accepted)
