use Rattle.std.proofs.Common.{◌≡◌, ◌++◌, rules}
use Rattle.std.specs.Prelude.{OnOk}
use Rattle.std.proofs.lemmas.Result.{on_ok_weaker}
use Rattle.ror_show_text_reasons.specs.Reasons.{advice_text, one_clash}
use Rattle.ror_show_kit.proofs.Pieces.{two_more}
use Rattle.ror_show_text_reasons.proofs.carried.write_clash.Goals as goal

pub returns : goal.returns
returns c =
    let ended : OnOk c.write_text.result (c.write_text.new.text.items ≡ c.write_advice.new.text.items ++ one_clash c.args.dropped) = search rules in
    on_ok_weaker c.write_text.result
    (λ last. two_more (advice_text c.args.dropped c.args.numbers.now) (one_clash c.args.dropped) c.args.text.now.items c.write_advice.new.text.items c.write_text.new.text.items c.in_ok-write_advice.ensures last)
    ended
