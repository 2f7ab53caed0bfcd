-- One number more.
use Rattle.std.proofs.Common.{◌≡◌, ◌+◌, ◌++◌, [], ◌∷◌, get_or, map, take, ap, ◌∙◌, rules}
use Rattle.std.specs.Prelude.{decimal}
use Rattle.std.proofs.lemmas.List.{take_more, map-append}
use Rattle.ror_show_kit.specs.Layout.{room_left, wrapped}
use Rattle.ror_show_kit.proofs.Pieces.{words_more, room_more}
use Rattle.ror_show_text_relation.proofs.words.wrap_numbers.Goals as goal

pub numbers-preserved : goal.numbers-preserved
numbers-preserved c =
    let numbers = c.args.numbers.now in
    let i = c.numbers.number-index in
    let room = c.args.room in
    let word = decimal (get_or numbers i 0) in
    let so_far = map decimal (take i numbers) in
    let more = map decimal (take (i + 1) numbers) in
    let all : map decimal (take (i + 1) numbers) ≡ map decimal (take i numbers) ++ decimal (get_or numbers i 0) ∷ [] = ap (map decimal) (take_more numbers i 0 c.numbers-test.true) ∙ map-append decimal (take i numbers) (get_or numbers i 0 ∷ []) in
    let pushed : c.write_word.new.text.items ≡ c.numbers.text.items ++ wrapped 8 c.numbers.left (decimal (get_or numbers i 0) ∷ []) = search rules in
    let left : c.in_ok-left.left ≡ room_left 8 c.numbers.left (decimal (get_or numbers i 0) ∷ []) = search rules in
    record {
      printed = words_more 8 room so_far (word ∷ []) more c.args.text.now.items c.numbers.text.items c.write_word.new.text.items c.numbers.left c.numbers.invariant.printed c.numbers.invariant.room pushed all;
      room = room_more 8 room so_far (word ∷ []) more c.numbers.left c.in_ok-left.left c.numbers.invariant.room left all;
    }
