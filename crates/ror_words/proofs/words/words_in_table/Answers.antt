use Rattle.std.proofs.Common.{rules, ◌≡◌, true, false, ◌∷◌, map, Some, sym, ap, ◌∙◌}
use Rattle.std.specs.Option.{option_map}
use Rattle.std.specs.String.{string_bytes}
use Rattle.ror_words.specs.Commands.{row_for}
use Rattle.ror_words.specs.Words.{given_in, suits}
use Rattle.ror_words.specs.Named.{row_with, given_with}
use Rattle.ror_words.proofs.WordLemmas.{suited, unsuited}
use Rattle.ror_words.proofs.words.words_in_table.Goals as goal

pub returns-else-suit : goal.returns-else-suit
returns-else-suit c =
    let word = c.deref.result.now in
    let rest = map string_bytes c.in_ok-word.rest.now in
    let row = row_with c.in_ok-row.row in
    let given = given_with c.in_ok-arguments.arguments in
    let found : row_for word ≡ Some row = sym c.row_for.ensures ∙ ap (option_map row_with) c.in_ok-row.was in
    let read : given_in rest ≡ Some given = sym c.arguments_in.ensures ∙ ap (option_map given_with) c.in_ok-arguments.was in
    let words : map string_bytes c.args.words.now ≡ word ∷ rest = search rules in
    let unfit : suits row given ≡ false = sym c.suit.ensures ∙ c.if-suit.false in
    unsuited _ word rest row given words found read unfit

pub returns-then-suit : goal.returns-then-suit
returns-then-suit c =
    let word = c.deref.result.now in
    let rest = map string_bytes c.in_ok-word.rest.now in
    let row = row_with c.in_ok-row.row in
    let given = given_with c.in_ok-arguments.arguments in
    let found : row_for word ≡ Some row = sym c.row_for.ensures ∙ ap (option_map row_with) c.in_ok-row.was in
    let read : given_in rest ≡ Some given = sym c.arguments_in.ensures ∙ ap (option_map given_with) c.in_ok-arguments.was in
    let words : map string_bytes c.args.words.now ≡ word ∷ rest = search rules in
    let fit : suits row given ≡ true = sym c.suit.ensures ∙ c.if-suit.true in
    suited _ word rest row given words found read fit
