use Rattle.std.proofs.Common.{ℕ, List, ◌++◌, Option, option_map, ap, ◌∙◌}
use Rattle.std.proofs.lemmas.Result.{on_ok_weaker}
use Rattle.ror_show_kit.specs.Layout.{next_room, next_word, wrapped}
use Rattle.ror_show_kit.proofs.Pieces.{two_more}
use Rattle.ror_show_find_reasons.specs.Pairs.{carrying_numbers}
use Rattle.ror_show_text_relation.specs.ArrowText.{carrying_words, better_words, lead_word}
use Rattle.ror_show_text_relation.proofs.words.write_arrow_words.Goals as goal

pub returns : goal.returns
returns c =
    let pair = c.args.pair.now in
    let lead = lead_word c.args.table.now pair.pair.1 in
    let words = carrying_words (carrying_numbers pair) ++ better_words (carrying_numbers pair) pair.better in
    let told = option_map (λ x. x.now) c.numbers.result in
    let room = c.args.room in
    let before = c.write_lead.new.text.items in
    on_ok_weaker c.write_reasons.result
    (λ last. two_more (next_word 8 room lead) (wrapped 8 (next_room 8 room lead) words) c.args.text.now.items before c.write_reasons.new.text.items c.in_ok-left.ensures.text
    (last ∙ ap (λ (n : ℕ). before ++ wrapped 8 n (carrying_words told ++ better_words told pair.better)) c.in_ok-left.ensures.room
    ∙ ap (λ (o : Option (List ℕ)). before ++ wrapped 8 (next_room 8 room lead) (carrying_words o ++ better_words o pair.better)) c.numbers.ensures))
    c.write_reasons.ensures
