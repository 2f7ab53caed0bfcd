use Rattle.std.proofs.Common.{◌≡◌, ◌++◌, [], ◌∷◌, FitsSigned, rules}
use Rattle.std.specs.Int.{w128}
use Rattle.std.specs.Prelude.{codes}
use Rattle.ror_show_text_reasons.specs.Sides.{number_behind}
use Rattle.ror_show_kit.proofs.Pieces.{four_more}
use Rattle.ror_show_text_reasons.proofs.sides.write_numbers.Goals as goal

pub returns : goal.returns
returns c =
    let fits_first : FitsSigned w128 c.args.first = search rules in
    let fits_second : FitsSigned w128 c.args.second = search rules in
    let fits_whole : FitsSigned w128 c.args.whole = search rules in
    let one : c.write_number.new.text.items ≡ c.args.text.now.items ++ number_behind (codes " (") c.args.first = search rules in
    let two : c.write_number-2.new.text.items ≡ c.write_number.new.text.items ++ number_behind (codes " to ") c.args.second = search rules in
    let three : c.write_number-3.new.text.items ≡ c.write_number-2.new.text.items ++ number_behind (codes " of ") c.args.whole = search rules in
    four_more (number_behind (codes " (") c.args.first) (number_behind (codes " to ") c.args.second) (number_behind (codes " of ") c.args.whole) (41 ∷ []) c.args.text.now.items c.write_number.new.text.items c.write_number-2.new.text.items c.write_number-3.new.text.items c.push.new.self.items one two three c.in_ok-push.ensures.items
