-- One word more.
use Rattle.std.proofs.Common.{◌+◌, ◌<◌, ℕ, [], ◌∷◌, length, get_or, map, take, sym, subst, List, arith}
use Rattle.std.proofs.lemmas.List.{take_more, length-map}
use Rattle.ror_show_kit.specs.Layout.{room_behind}
use Rattle.ror_show_kit.proofs.Pieces.{words_more, room_more}
use Rattle.ror_show_text_functions.proofs.OneWord.{one_word, one_room}
use Rattle.ror_show_text_functions.proofs.words.write_words.Goals as goal

pub loop-k-preserved : goal.loop-k-preserved
loop-k-preserved c =
    let ws : List (List ℕ) = map (λ word. word.now) c.args.words.now in
    let i = c.loop-k.k in
    let within : c.loop-k.k < length (map (λ word. word.now) c.args.words.now) = subst (λ (n : ℕ). c.loop-k.k < n) (sym (length-map c.args.words.now (λ word. word.now))) (omega arith) in
    let all = take_more ws i [] within in
    let word = get_or ws i [] in
    let pushed = one_word c.loop-k.room c.loop-k.text.items c.write_word.new.text.items c.word_at.result.now word c.word_at.ensures.word c.in_ok-room.ensures.text in
    let left = one_room c.loop-k.room c.in_ok-room.room c.word_at.result.now word c.word_at.ensures.word c.in_ok-room.ensures.room in
    record {
      printed = words_more 3 (room_behind 1) (take i ws) (word ∷ []) (take (i + 1) ws) c.args.text.now.items c.loop-k.text.items c.write_word.new.text.items c.loop-k.room c.loop-k.invariant.printed c.loop-k.invariant.room pushed all;
      room = room_more 3 (room_behind 1) (take i ws) (word ∷ []) (take (i + 1) ws) c.loop-k.room c.in_ok-room.room c.loop-k.invariant.room left all;
    }
