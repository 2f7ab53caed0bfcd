use Rattle.ror_show_text_reasons.specs.Reasons.{without_at}
use Rattle.ror_show_ground.proofs.Tests.{pieces_more}
use Rattle.ror_show_text_reasons.proofs.carried.write_withouts.Goals as goal

pub loop-k-preserved : goal.loop-k-preserved
loop-k-preserved c =
    let x = c.args.case.now in
    pieces_more (without_at c.args.table.now x.answer.now.question c.args.clashes x.numbers.now x.others.now) c.loop-k.k c.args.text.now.items c.loop-k.text.items c.write_without.new.text.items c.loop-k.invariant c.in_ok-write_without.ensures
