use Rattle.std.proofs.Common.{◌≡◌, ◌∙◌, MatchResult, Option, Some, None, map, ap, sym, subst, inl, inr, []}
use Rattle.std.specs.Option.{option_map, ok_or}
use Rattle.std.specs.String.{string_bytes}
use Rattle.clap.specs.Words.{App, IsAmong, app_of, kind_of, is_simple, is_simple_and_free, matches_of, fault_of, found_of}
use Rattle.ror_show_words.specs.declared.words.ImportWords as words
use Rattle.ror_show_words.specs.declared.words.WordsFault.TheVariants.{Unknown}
use Rattle.ror_show_words.specs.Words.{ImportWords, import_app, import_in}
use Rattle.ror_show_words.specs.Named.{import_words_of}
use Rattle.ror_show_words.proofs.Reading.{import-simple, import-free, import-taken, import-refused}
use Rattle.ror_show_words.proofs.words.import_words.Goals as goal

chosen : (o : Option words.ImportWords) (given : Option ImportWords) → option_map import_words_of o ≡ given → MatchResult (ok_or o Unknown) (λ w. given ≡ Some (import_words_of w)) (λ e. e ≡ Unknown → given ≡ None)
chosen None given is = λ e. sym is
chosen (Some w) given is = sym is

pub returns-in-Ok : goal.returns-in-Ok
returns-in-Ok c =
    let words = map string_bytes c.args.words.now in
    let app : app_of c.in_ok-import_command.field-0 ≡ import_app = c.in_ok-import_command.ensures in
    let found = (c.in-Ok.ensures.matches (ap is_simple app ∙ import-simple)).0 ∙ ap (λ (a : App). matches_of a words) app in
    let none : fault_of import_app words ≡ [] = sym (ap (λ (a : App). fault_of a words) app) ∙ c.in-Ok.ensures.kinds (ap is_simple_and_free app ∙ import-free) in
    rw c.ok_or.ensures.value (chosen c.import_words_found.result (import_in words) (c.import_words_found.ensures ∙ import-taken words (found_of c.in-Ok.matches) none found))

pub returns-in-Err : goal.returns-in-Err
returns-in-Err c unknown =
    let words = map string_bytes c.args.words.now in
    let app : app_of c.in_ok-import_command.field-0 ≡ import_app = c.in_ok-import_command.ensures in
    elim (c.in-Err.ensures.kinds (ap is_simple_and_free app ∙ import-free)) [
      | inl memory ↦ absurd (c.fault_with.ensures unknown memory)
      | inr among ↦ import-refused words (kind_of c.in-Err.error) (subst (λ (a : App). IsAmong (kind_of c.in-Err.error) (fault_of a words)) app among)
    ]
