use Rattle.std.proofs.lemmas.Result.{on_ok_weaker}
use Rattle.std.proofs.Common.{◌≡◌, ◌++◌, rules}
use Rattle.ror_show_text_reasons.specs.Reasons.{is_any_wide, needed, withouts_text}
use Rattle.ror_show_kit.proofs.Pieces.{two_more}
use Rattle.ror_show_text_reasons.proofs.carried.write_needed.Goals as goal

pub returns : goal.returns
returns c =
    let x = c.args.case.now in
    let begun : c.extend_from_slice.new.self.items ≡ c.args.text.now.items ++ needed (is_any_wide x.others.now) = search rules in
    on_ok_weaker c.write_withouts.result
    (λ last. two_more (needed (is_any_wide x.others.now)) (withouts_text c.args.table.now x.answer.now.question c.args.clashes x.numbers.now x.others.now) c.args.text.now.items c.extend_from_slice.new.self.items c.write_withouts.new.text.items begun last)
    c.write_withouts.ensures
