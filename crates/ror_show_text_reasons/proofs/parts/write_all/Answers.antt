use Rattle.ror_show_text_reasons.specs.Parts.{row_at}
use Rattle.ror_show_ground.proofs.Tests.{pieces_more}
use Rattle.ror_show_text_reasons.proofs.parts.write_all.Goals as goal

pub loop-k-preserved : goal.loop-k-preserved
loop-k-preserved c =
    let sc = c.args.scene.now in
    let x = c.args.case.now in
    pieces_more (row_at sc.table.now sc.list.now sc.lines.now x.numbers.now c.args.owners.now x.answer.now.verdict) c.loop-k.k c.args.text.now.items c.loop-k.text.items c.write_row_at.new.text.items c.loop-k.invariant c.in_ok-write_row_at.ensures
