use Rattle.std.proofs.Common.{rules, ◌≡◌, ◌++◌}
use Rattle.std.specs.List.{flat_map}
use Rattle.std.proofs.lemmas.Result.{on_ok_weaker}
use Rattle.ror_show_kit.specs.Words.{number}
use Rattle.ror_show_text_reasons.specs.Withdrawn.{stays}
use Rattle.ror_show_kit.proofs.Pieces.{two_more}
use Rattle.ror_show_text_reasons.proofs.withdrawn.write_stays.Goals as goal

pub returns : goal.returns
returns c =
    let begun : c.write_text.new.text.items ≡ c.args.text.now.items ++ stays c.args.clashes = search rules in
    on_ok_weaker c.write_numbers.result
    (λ last. two_more (stays c.args.clashes) (flat_map number c.args.numbers.now) c.args.text.now.items c.write_text.new.text.items c.write_numbers.new.text.items begun last)
    c.write_numbers.ensures
