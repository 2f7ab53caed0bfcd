-- Reading the words and lines of a plain table one after the other.
use Rattle.std.proofs.Common.{◌≡◌, ℕ, ◌+◌, ◌<◌, ◌≤◌, Bor, List, [], ◌∷◌, ◌++◌, length, get_or, map, drop, Option, Some, None, Ok, Err, true, false, All, refl, sym, ap, subst, ◌∙◌, arith}
use Rattle.std.specs.Prelude.{IfSome, ⊤}
use Rattle.std.specs.Option.{option_map, option_and_then}
use Rattle.std.proofs.lemmas.List.{drop_more, drop_all, length_push, append_assoc, append-nil, length-map, get_or-map}
use Rattle.std.proofs.lemmas.List.Elements.{All-push}
use Rattle.std.specs.Str.{IsUtf8, is_utf8}
use Rattle.ror_text.proofs.LineLemmas.{is_utf8-from_cases}
use Rattle.ror_table.specs.declared.amount.Amount.{Amount}
use Rattle.ror_table.specs.declared.plain.Version.{Version}
use Rattle.ror_table.specs.Amounts.{IsAmount}
use Rattle.ror_table.specs.Spellings.{performance_in}
use Rattle.ror_table.specs.Plain.{performances_of}

-- ps was read of the first n words
pub record AreReadBefore (version : Version) (words : List (List ℕ)) (n : ℕ) (ps : List Amount) : Type 0 where
  pub number : length ps ≡ n
  pub amounts : All IsAmount ps
  pub rest : option_map (λ more. ps ++ more) (performances_of version (drop n words)) ≡ performances_of version words

same_option : (o : Option (List Amount)) → option_map (λ more. [] ++ more) o ≡ o
same_option None = refl
same_option (Some x) = refl

pub AreReadBefore-none : (version : Version) (words : List (List ℕ)) → AreReadBefore version words 0 []
AreReadBefore-none version words = record { number = refl; amounts = λ k d lt. absurd (omega arith); rest = same_option (performances_of version words) }

shifted : (ps : List Amount) (p : Amount) (o : Option (List Amount)) → option_map (λ more. (ps ++ p ∷ []) ++ more) o ≡ option_map (λ more. ps ++ more) (option_map (λ more. p ∷ more) o)
shifted ps p None = refl
shifted ps p (Some more) = ap Some (append_assoc ps (p ∷ []) more)

pub AreReadBefore-more : (version : Version) (words : List (List ℕ)) (n : ℕ) (ps more : List Amount) (word : List ℕ) (p : Amount) → AreReadBefore version words n ps → n < length words → word ≡ get_or words n word → performance_in version word ≡ Some p → IsAmount p → more ≡ ps ++ p ∷ [] → AreReadBefore version words (n + 1) more
AreReadBefore-more version words n ps more word p before within read is amount pushed = subst (AreReadBefore version words (n + 1)) (sym pushed) (record {
  number = length_push ps p ∙ ap (λ k. k + 1) before.number;
  amounts = All-push IsAmount ps p before.amounts amount;
  rest =
      let split : drop n words ≡ word ∷ drop (n + 1) words = drop_more words n word within ∙ ap (λ w. w ∷ drop (n + 1) words) (sym read) in
      let one : performances_of version (drop n words) ≡ option_map (λ more. p ∷ more) (performances_of version (drop (n + 1) words)) = ap (performances_of version) split ∙ ap (λ o. option_and_then (λ x. option_map (λ more. x ∷ more) (performances_of version (drop (n + 1) words))) o) is in
      shifted ps p (performances_of version (drop (n + 1) words)) ∙ ap (option_map (λ more. ps ++ more)) (sym one) ∙ before.rest;
})

pub performances_stop : (version : Version) (words : List (List ℕ)) (n : ℕ) (ps : List Amount) (word : List ℕ) → AreReadBefore version words n ps → n < length words → word ≡ get_or words n word → performance_in version word ≡ None → performances_of version words ≡ None
performances_stop version words n ps word before within read none =
    let split : drop n words ≡ word ∷ drop (n + 1) words = drop_more words n word within ∙ ap (λ w. w ∷ drop (n + 1) words) (sym read) in
    let one : performances_of version (drop n words) ≡ None = ap (performances_of version) split ∙ ap (λ o. option_and_then (λ x. option_map (λ more. x ∷ more) (performances_of version (drop (n + 1) words))) o) none in
    sym before.rest ∙ ap (option_map (λ more. ps ++ more)) one

pub performances_all : (version : Version) (words : List (List ℕ)) (n : ℕ) (ps : List Amount) → AreReadBefore version words n ps → length words ≤ n → performances_of version words ≡ Some ps
performances_all version words n ps before all =
    let none : performances_of version (drop n words) ≡ Some [] = ap (performances_of version) (drop_all n words all) in
    sym before.rest ∙ ap (option_map (λ more. ps ++ more)) none ∙ ap Some (append-nil ps)

-- ---- words behind references

abbrev pub texts : List (Bor (List ℕ)) → List (List ℕ)
texts words = map (λ word. word.now) words

pub word_read : (words : List (Bor (List ℕ))) (i : ℕ) (d : Bor (List ℕ)) → i < length words → (get_or words i d).now ≡ get_or (texts words) i (get_or words i d).now
word_read words i d within = sym (get_or-map (λ word. word.now) words i d (get_or words i d).now within)

pub number_read : (version : Version) (words : List (Bor (List ℕ))) (n : ℕ) (ps more : List Amount) (d : Bor (List ℕ)) (o : Option Amount) (p : Amount) → AreReadBefore version (texts words) n ps → n < length words → o ≡ performance_in version (get_or words n d).now → o ≡ Some p → IfSome o IsAmount → more ≡ ps ++ p ∷ []
    → AreReadBefore version (texts words) (n + 1) more
number_read version words n ps more d o p before within value is amount pushed =
    AreReadBefore-more version (texts words) n ps more (get_or words n d).now p before (omega (arith, length-map words (λ word. word.now))) (word_read words n d within) (sym value ∙ is) (rw is at amount) pushed

-- a word that is no performance decides
pub number_missed : (version : Version) (words : List (Bor (List ℕ))) (n : ℕ) (ps : List Amount) (d : Bor (List ℕ)) (o : Option Amount) → AreReadBefore version (texts words) n ps → n < length words → o ≡ performance_in version (get_or words n d).now → o ≡ None → performances_of version (texts words) ≡ None
number_missed version words n ps d o before within value is =
    performances_stop version (texts words) n ps (get_or words n d).now before (omega (arith, length-map words (λ word. word.now))) (word_read words n d within) (sym value ∙ is)

-- ---- UTF-8, as a test and as a fact

pub is_utf8-true : (bytes : List ℕ) → IsUtf8 bytes → is_utf8 bytes ≡ true
is_utf8-true bytes h = sym (is_utf8-from_cases {S = Unit {0}} {E = Unit {0}} (Ok tt) bytes (λ _. ⊤) (λ _. ⊤) (tt, h))

pub is_utf8-false : (bytes : List ℕ) → (IsUtf8 bytes → ⊥) → is_utf8 bytes ≡ false
is_utf8-false bytes h = sym (is_utf8-from_cases {S = Unit {0}} {E = Unit {0}} (Err tt) bytes (λ _. ⊤) (λ _. ⊤) (h, tt))
