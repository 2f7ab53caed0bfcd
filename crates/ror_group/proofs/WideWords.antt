-- Which words are wide, by the answers that they go by.
use Rattle.std.proofs.Common.{if◌then◌else◌, inl, inr, ◌≡◌, ◌≢◌, Bool, true, false, List, [], ◌∷◌, refl, sym, subst, ◌∙◌}
use Rattle.std.proofs.lemmas.Bool.{cases_Bool, cond-true, cond-false, or_parts}
use Rattle.ror_proof.specs.declared.answer.Answer.{Answer}
use Rattle.ror_group.specs.declared.quartet.Word4.{Word4}
use Rattle.ror_group.specs.declared.quartet.Word4.TheVariants as words
use Rattle.ror_group.specs.declared.quartet.Quartet.{Quartet}
use Rattle.ror_group.specs.Combining.{every_second, says, one_says, for_every, for_some, contradiction, on_necessary, on_possible, combined}
use Rattle.ror_group.specs.Laws.{IsWideBy, AreWideBy, HasNoWideWord}

off : {b : Bool} → b ≡ true → b ≡ false → ⊥
off p q = absurd cc

-- the two words that are not wide are told apart by the second test
two_words : (b : Bool) (x y : Word4) → x ≢ words.Wide → y ≢ words.Wide → (if b then x else y) ≢ words.Wide
two_words true x y first second = first
two_words false x y first second = second

every_wide : (xs : List Answer) → (for_every xs ≡ words.Wide → one_says words.Wide xs ≡ true) × (one_says words.Wide xs ≡ true → for_every xs ≡ words.Wide)
every_wide xs = elim (cases_Bool (one_says words.Wide xs)) [
  | inl is ↦ ((λ e. is), (λ e. cond-true _ _ _ is))
  | inr is ↦ ((λ e. absurd (two_words (one_says words.No xs) words.No words.Yes (λ h. cc) (λ h. cc) (sym (cond-false _ _ _ is) ∙ e))), (λ e. absurd (off e is)))
]

some_wide : (xs : List Answer) → (for_some xs ≡ words.Wide → one_says words.Wide xs ≡ true) × (one_says words.Wide xs ≡ true → for_some xs ≡ words.Wide)
some_wide xs = elim (cases_Bool (one_says words.Wide xs)) [
  | inl is ↦ ((λ e. is), (λ e. cond-true _ _ _ is))
  | inr is ↦ ((λ e. absurd (two_words (one_says words.Yes xs) words.Yes words.No (λ h. cc) (λ h. cc) (sym (cond-false _ _ _ is) ∙ e))), (λ e. absurd (off e is)))
]

abbrev plain : List Answer → Quartet
plain xs = record {
  necessary_for_every = for_every (on_necessary xs);
  necessary_for_some = for_some (on_necessary xs);
  possible_for_every = for_every (on_possible xs);
  possible_for_some = for_some (on_possible xs);
}

-- contradictions are not wide
contradicts : (all xs : List Answer) → one_says words.Contradiction all ≡ true → IsWideBy all xs words.Contradiction
contradicts all xs is = ((λ e. absurd cc), (λ both. absurd (off is both.0)))

by_answers : (all xs : List Answer) (word : Word4) → one_says words.Contradiction all ≡ false → (word ≡ words.Wide → one_says words.Wide xs ≡ true) × (one_says words.Wide xs ≡ true → word ≡ words.Wide) → IsWideBy all xs word
by_answers all xs word none same = ((λ e. (none, same.0 e)), (λ both. same.1 both.1))

pub words_are_wide : (xs : List Answer) → AreWideBy xs (combined xs)
words_are_wide xs = elim (cases_Bool (one_says words.Contradiction xs)) [
  | inl is ↦ subst (AreWideBy xs) (sym (cond-true _ contradiction (plain xs) is)) (record {
    necessary_for_every = contradicts xs (on_necessary xs) is;
    necessary_for_some = contradicts xs (on_necessary xs) is;
    possible_for_every = contradicts xs (on_possible xs) is;
    possible_for_some = contradicts xs (on_possible xs) is;
  })
  | inr is ↦ subst (AreWideBy xs) (sym (cond-false _ contradiction (plain xs) is)) (record {
    necessary_for_every = by_answers xs (on_necessary xs) (for_every (on_necessary xs)) is (every_wide (on_necessary xs));
    necessary_for_some = by_answers xs (on_necessary xs) (for_some (on_necessary xs)) is (some_wide (on_necessary xs));
    possible_for_every = by_answers xs (on_possible xs) (for_every (on_possible xs)) is (every_wide (on_possible xs));
    possible_for_some = by_answers xs (on_possible xs) (for_some (on_possible xs)) is (some_wide (on_possible xs));
  })
]

none_of_these : (first : Bool) (xs : List Answer) → one_says words.Wide xs ≡ false → one_says words.Wide (every_second first xs) ≡ false
none_of_these true [] none = refl
none_of_these false [] none = refl
none_of_these true (x ∷ xs) none = let parts = or_parts (says words.Wide x.verdict) (one_says words.Wide xs) none in rw parts.0 (none_of_these false xs parts.1)
none_of_these false (x ∷ xs) none = let parts = or_parts (says words.Wide x.verdict) (one_says words.Wide xs) none in none_of_these true xs parts.1

pub no_wide_words : (xs : List Answer) → one_says words.Wide xs ≡ false → HasNoWideWord (combined xs)
no_wide_words xs none =
    let by = words_are_wide xs in
    let necessary = none_of_these true xs none in
    let possible = none_of_these false xs none in
    record {
      necessary_for_every = λ e. off (by.necessary_for_every.0 e).1 necessary;
      necessary_for_some = λ e. off (by.necessary_for_some.0 e).1 necessary;
      possible_for_every = λ e. off (by.possible_for_every.0 e).1 possible;
      possible_for_some = λ e. off (by.possible_for_some.0 e).1 possible;
    }
