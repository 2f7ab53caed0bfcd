use Rattle.std.proofs.Common.{◌≡◌, ◌∙◌, MatchResult, Option, Some, None, map, ap, sym, subst, inl, inr, []}
use Rattle.std.specs.Option.{option_map, ok_or}
use Rattle.std.specs.String.{string_bytes}
use Rattle.clap.specs.Words.{App, IsAmong, app_of, kind_of, is_simple, is_simple_and_free, matches_of, fault_of, found_of}
use Rattle.ror_show_words.specs.declared.words.CheckWords as words
use Rattle.ror_show_words.specs.declared.words.WordsFault.TheVariants.{Unknown}
use Rattle.ror_show_words.specs.Words.{CheckWords, check_app, check_in}
use Rattle.ror_show_words.specs.Named.{check_words_of}
use Rattle.ror_show_words.proofs.Reading.{check-simple, check-free, check-taken, check-refused}
use Rattle.ror_show_words.proofs.words.check_words.Goals as goal

chosen : (o : Option words.CheckWords) (given : Option CheckWords) → option_map check_words_of o ≡ given → MatchResult (ok_or o Unknown) (λ w. given ≡ Some (check_words_of w)) (λ e. e ≡ Unknown → given ≡ None)
chosen None given is = λ e. sym is
chosen (Some w) given is = sym is

pub returns-in-Ok : goal.returns-in-Ok
returns-in-Ok c =
    let words = map string_bytes c.args.words.now in
    let app : app_of c.in_ok-check_command.field-0 ≡ check_app = c.in_ok-check_command.ensures in
    let found = (c.in-Ok.ensures.matches (ap is_simple app ∙ check-simple)).0 ∙ ap (λ (a : App). matches_of a words) app in
    let none : fault_of check_app words ≡ [] = sym (ap (λ (a : App). fault_of a words) app) ∙ c.in-Ok.ensures.kinds (ap is_simple_and_free app ∙ check-free) in
    rw c.ok_or.ensures.value (chosen c.check_words_found.result (check_in words) (c.check_words_found.ensures ∙ check-taken words (found_of c.in-Ok.matches) none found))

pub returns-in-Err : goal.returns-in-Err
returns-in-Err c unknown =
    let words = map string_bytes c.args.words.now in
    let app : app_of c.in_ok-check_command.field-0 ≡ check_app = c.in_ok-check_command.ensures in
    elim (c.in-Err.ensures.kinds (ap is_simple_and_free app ∙ check-free)) [
      | inl memory ↦ absurd (c.fault_with.ensures unknown memory)
      | inr among ↦ check-refused words (kind_of c.in-Err.error) (subst (λ (a : App). IsAmong (kind_of c.in-Err.error) (fault_of a words)) app among)
    ]
