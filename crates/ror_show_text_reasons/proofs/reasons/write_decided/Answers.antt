use Rattle.std.proofs.lemmas.Result.{on_ok_weaker}
use Rattle.ror_show_text_reasons.specs.Met.{met_text}
use Rattle.ror_show_text_reasons.specs.Reasons.{decided_line, shown_line, decided_text}
use Rattle.ror_show_kit.proofs.Pieces.{three_more}
use Rattle.ror_show_text_reasons.proofs.reasons.write_decided.Goals as goal

pub returns : goal.returns
unfolding decided_text
returns c =
    let t = c.args.table.now in
    let x = c.args.answer.now in
    on_ok_weaker c.write_shown_line.result
    (λ last. three_more (decided_line t x) (met_text t c.args.list.now x.verdict) (shown_line t x) c.args.text.now.items c.write_decided_line.new.text.items c.write_met.new.text.items c.write_shown_line.new.text.items c.in_ok-write_decided_line.ensures c.in_ok-write_met.ensures last)
    c.write_shown_line.ensures
