use Rattle.std.proofs.Common.{◌≡◌, true, rules}
use Rattle.std.proofs.lemmas.Bool.{not-false}
use Rattle.ror_session.proofs.LineLemmas.{utf8_rest, sign_of}
use Rattle.ror_session.proofs.reading.desk_of.Goals as goal

pub text_of-requires : goal.text_of-requires
text_of-requires c =
    let passed : c.has_desk_word.result ≡ true = search (rules, not-false) in
    utf8_rest c.word_at-word.result.now (c.word_at-word.ensures.utf8 c.requires.utf8) (sign_of c.word_at-word.result.now _ c.has_desk_word.result c.word_at-word.ensures.word c.has_desk_word.ensures passed)
