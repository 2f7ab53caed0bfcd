-- One word more, and all of them.
use Rattle.std.proofs.Common.{◌≡◌, ◌++◌, rules}
use Rattle.ror_text.specs.SpacedLines.{spaced_words}
use Rattle.ror_show_hints.specs.Forms.{next_word, next_room, flowed}
use Rattle.ror_show_hints.proofs.FormLemmas.{word_on, words_done}
use Rattle.ror_show_hints.proofs.said.write_words.Goals as goal

pub words-preserved : goal.words-preserved
words-preserved c =
    let pushed : c.write_word.new.text.items ≡ c.words.text.items ++ next_word c.words.room c.in-Some.word.now = search rules in
    let behind : c.in_ok-behind.behind ≡ next_room c.words.room c.in-Some.word.now = search rules in
    word_on c.words.room c.in_ok-behind.behind c.in-Some.word.now c.words.left c.in-Some.rest c.words.text.items c.write_word.new.text.items (c.args.text.now.items ++ flowed 110 (spaced_words c.args.sentence.now)) c.in-Some.ensures pushed behind c.words.invariant

pub returns : goal.returns
returns c = words_done c.words.room c.words.left c.words.text.items (c.args.text.now.items ++ flowed 110 (spaced_words c.args.sentence.now)) c.in_default.ensures c.words.invariant
