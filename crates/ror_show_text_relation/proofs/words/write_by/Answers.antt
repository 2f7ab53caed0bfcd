use Rattle.std.proofs.Common.{ℕ, map, ◌++◌, ap, ◌∙◌}
use Rattle.std.specs.Prelude.{codes, decimal}
use Rattle.ror_show_kit.specs.Layout.{next_room, next_word, wrapped}
use Rattle.ror_show_kit.proofs.Pieces.{two_more}
use Rattle.ror_show_text_relation.proofs.words.write_by.Goals as goal

pub returns : goal.returns
returns c =
    let word = codes "  always better by" in
    let words = map decimal c.args.numbers.now in
    let room = c.args.room in
    two_more (next_word 8 room word) (wrapped 8 (next_room 8 room word) words) c.args.text.now.items c.write_word.new.text.items c.wrap_numbers.new.text.items c.in_ok-left.ensures.text
    (c.in_ok-wrap_numbers.ensures.text ∙ ap (λ (n : ℕ). c.write_word.new.text.items ++ wrapped 8 n words) c.in_ok-left.ensures.room)
