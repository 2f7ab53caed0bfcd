-- Notes of numbers too wide as words, both ways: what was written is read again, and what is read was so written.
use Rattle.std.proofs.Common.{◌≡◌, ℕ, true, List, [], ◌∷◌, ◌++◌, map, Result, Ok, refl, sym, ap, subst, ◌∙◌, arith}
use Rattle.std.specs.Prelude.{codes}
use Rattle.std.specs.Fmt.{decimal}
use Rattle.std.proofs.lemmas.Bool.{and_from}
use Rattle.std.proofs.lemmas.List.Folds.{list_all-append}
use Rattle.ror_text.specs.Reading.{◌>>=◌}
use Rattle.ror_text.specs.SpacedLines.{is_word, are_words}
use Rattle.ror_text.proofs.NumberLemmas.{is_word-decimal}
use Rattle.ror_text.proofs.ReadingLemmas.{bind_ok}
use Rattle.ror_pivot.specs.declared.note.Place.{Place}
use Rattle.ror_pivot.specs.declared.note.Place.TheVariants as places
use Rattle.ror_pivot.specs.declared.optimum.ClimbPlace.{ClimbPlace}
use Rattle.ror_pivot.specs.declared.optimum.ClimbPlace.TheVariants as climbs
use Rattle.ror_proof.specs.declared.answer.PlaceText.{PlaceText}
use Rattle.ror_proof.specs.declared.answer.PlaceText.TheVariants as said
use Rattle.ror_proof.specs.declared.read.ProofFault.{ProofFault}
use Rattle.ror_proof.specs.Reading as certificates
use Rattle.ror_proof.specs.Reading.{entry_at}
use Rattle.ror_proof.specs.Words.{after_word, name_at, small_number_at, pivot_in}
use Rattle.ror_proof.proofs.WordLemmas.{done, ok_is, after_word_again, after_word_sound, name_again, name_sound, small_number_again, small_number_sound, all_again, all_sound}
use Rattle.ror_proof.proofs.LineWords as texts
use Rattle.ror_proof.proofs.LineWords.{entry_again, entry_sound}
use Rattle.ror_proof.proofs.PivotLemmas.{pivot_again, pivot_sound, pivot_is_word}
use Rattle.ror_discriminate.specs.declared.names.ClimbName.{ClimbName}
use Rattle.ror_discriminate.specs.declared.names.ClimbName.TheVariants as climbing
use Rattle.ror_discriminate.specs.EntryNames.{climb_word, climb_names}
use Rattle.ror_discriminate.specs.Reading.{step_in, steps_at, path_at, place_of, place_at, climbed_at, climb_place_at, noted_at}
use Rattle.ror_discriminate.specs.Text.{text_of, place_words, climb_place_words, step_word, path_words, IsSmall, IsSmallPlace, IsSmallClimbPlace, IsSmallPath}

-- ---- pivots

abbrev IsSmallStep : ℕ × ℕ → Type 0
IsSmallStep step = IsSmall step.0 × IsSmall step.1

step_again : (place : ℕ) (step : ℕ × ℕ) → IsSmallStep step → step_in place (step_word step) ≡ Ok step
unfolding step_in
step_again place step small = rw (pivot_again place (record { column = step.0; row = step.1 }) (record { column = small.0; row = small.1 })) refl

step_sound : (place : ℕ) (word : List ℕ) (step : ℕ × ℕ) → step_in place word ≡ Ok step → (word ≡ step_word step) × IsSmallStep step
unfolding step_in
step_sound place word step e =
    let a = bind_ok (pivot_in place word) (λ pivot. done (pivot.column, pivot.row)) step e in
    let pivot = pivot_sound place word a.0 a.1 in
    subst (λ (s : ℕ × ℕ). (word ≡ step_word s) × IsSmallStep s) (ok_is (a.0.column, a.0.row) step a.2) (pivot.0, (pivot.1.column, pivot.1.row))

path_again : (place : ℕ) (path : List (ℕ × ℕ)) → IsSmallPath path → path_at place (path_words path) ≡ Ok path
unfolding path_at
path_again place path small = rw (after_word_again place (codes "path") (map step_word path)) (all_again (step_in place) step_word IsSmallStep (step_again place) path small)

path_sound : (place : ℕ) (words : List (List ℕ)) (path : List (ℕ × ℕ)) → path_at place words ≡ Ok path → (words ≡ path_words path) × IsSmallPath path
unfolding path_at
path_sound place words path e =
    let a = bind_ok (after_word place (codes "path") words) (λ more. steps_at place more) path e in
    let steps = all_sound (step_in place) step_word IsSmallStep (step_sound place) a.0 path a.2 in
    (after_word_sound place (codes "path") words a.0 a.1 ∙ ap (λ (ws : List (List ℕ)). codes "path" ∷ ws) steps.0, steps.1)

steps_are_words : (path : List (ℕ × ℕ)) → IsSmallPath path → are_words (map step_word path) ≡ true
steps_are_words [] small = refl
steps_are_words (step ∷ path) small = and_from _ _ (pivot_is_word (record { column = step.0; row = step.1 }) (record { column = small.0.0; row = small.0.1 })) (steps_are_words path small.1)

-- ---- the words of places

one_number_words : (word : List ℕ) (n : ℕ) → is_word word ≡ true → IsSmall n → are_words (word ∷ decimal n ∷ []) ≡ true
one_number_words word n is small = and_from _ _ is (and_from _ _ (is_word-decimal n (omega (arith, small))) refl)

two_number_words : (word : List ℕ) (m n : ℕ) → is_word word ≡ true → IsSmall m → IsSmall n → are_words (word ∷ decimal m ∷ decimal n ∷ []) ≡ true
two_number_words word m n is first second = and_from _ _ is (and_from _ _ (is_word-decimal m (omega (arith, first))) (and_from _ _ (is_word-decimal n (omega (arith, second))) refl))

pub place_are_words : (p : Place) → IsSmallPlace p → are_words (place_words p) ≡ true
place_are_words p small = texts.place_are_words (text_of p) small

pub climb_place_are_words : (p : ClimbPlace) → IsSmallClimbPlace p → are_words (climb_place_words p) ≡ true
climb_place_are_words (climbs.Start row column) small = two_number_words (codes "start") row column refl small.0 small.1
climb_place_are_words (climbs.Step row column) small = two_number_words (codes "step") row column refl small.0 small.1
climb_place_are_words (climbs.Denominator row) small = one_number_words (codes "denominator") row refl small
climb_place_are_words (climbs.RowSum row) small = one_number_words (codes "rowsum") row refl small
climb_place_are_words climbs.Total small = refl
climb_place_are_words (climbs.Scale column) small = one_number_words (codes "scale") column refl small
climb_place_are_words (climbs.ColumnSum column) small = one_number_words (codes "columnsum") column refl small

pub note_are_words : (place : List (List ℕ)) (path : List (ℕ × ℕ)) → are_words place ≡ true → IsSmallPath path → are_words (place ++ path_words path) ≡ true
note_are_words place path are small =
    list_all-append is_word place (path_words path) ∙ and_from _ _ are (and_from (is_word (codes "path")) _ refl (steps_are_words path small))

-- ---- places that were written are read again

place_of_text : (p : Place) → place_of (text_of p) ≡ p
place_of_text (places.Start row column) = refl
place_of_text (places.Step row column) = refl
place_of_text (places.Denominator row) = refl
place_of_text (places.RowSum row) = refl
place_of_text (places.ColumnSum column) = refl

text_of_place : (p : PlaceText) → text_of (place_of p) ≡ p
text_of_place (said.Start row column) = refl
text_of_place (said.Step row column) = refl
text_of_place (said.Denominator row) = refl
text_of_place (said.RowSum row) = refl
text_of_place (said.ColumnSum column) = refl

abbrev place_made : PlaceText × List (List ℕ) → Result (Place × List (List ℕ)) ProofFault
place_made text = Ok (place_of text.0, text.1)

pub place_again : (place : ℕ) (p : Place) (more : List (List ℕ)) → IsSmallPlace p → place_at place (place_words p ++ more) ≡ Ok (p, more)
unfolding place_at
place_again place p more small =
    ap (λ (r : Result (PlaceText × List (List ℕ)) ProofFault). r >>= place_made) (texts.place_again place (text_of p) more small) ∙ ap (λ (q : Place). done (q, more)) (place_of_text p)

pub climb_place_again : (place : ℕ) (p : ClimbPlace) (more : List (List ℕ)) → IsSmallClimbPlace p → climb_place_at place (climb_place_words p ++ more) ≡ Ok (p, more)
unfolding climb_place_at
climb_place_again place (climbs.Start row column) more small = rw (name_again climb_word climb_names place climbing.Start (decimal row ∷ decimal column ∷ more) refl, entry_again place row column more small.0 small.1) refl
climb_place_again place (climbs.Step row column) more small = rw (name_again climb_word climb_names place climbing.Step (decimal row ∷ decimal column ∷ more) refl, entry_again place row column more small.0 small.1) refl
climb_place_again place (climbs.Denominator row) more small = rw (name_again climb_word climb_names place climbing.Denominator (decimal row ∷ more) refl, small_number_again place row more small) refl
climb_place_again place (climbs.RowSum row) more small = rw (name_again climb_word climb_names place climbing.RowSum (decimal row ∷ more) refl, small_number_again place row more small) refl
climb_place_again place climbs.Total more small = rw (name_again climb_word climb_names place climbing.Total more refl) refl
climb_place_again place (climbs.Scale column) more small = rw (name_again climb_word climb_names place climbing.Scale (decimal column ∷ more) refl, small_number_again place column more small) refl
climb_place_again place (climbs.ColumnSum column) more small = rw (name_again climb_word climb_names place climbing.ColumnSum (decimal column ∷ more) refl, small_number_again place column more small) refl

-- ---- places that are read were so written

abbrev pub IsRead : {P : Type 0} → (P → List (List ℕ)) → (P → Type 0) → List (List ℕ) → P × List (List ℕ) → Type 0
IsRead words_of Small words x = (words ≡ words_of x.0 ++ x.1) × Small x.0

module _ {P : Type 0} (words_of : P → List (List ℕ)) (Small : P → Type 0) (word : List ℕ) (place : ℕ) (words : List (List ℕ)) (x : P × List (List ℕ)) where
  two_sound : (make : ℕ → ℕ → P) → ((m n : ℕ) → words_of (make m n) ≡ word ∷ decimal m ∷ decimal n ∷ []) → ((m n : ℕ) → IsSmall m → IsSmall n → Small (make m n))
      → (entry_at place words >>= λ entry. done (make entry.0.0 entry.0.1, entry.1)) ≡ Ok x → IsRead words_of Small (word ∷ words) x
  two_sound make spelt small e =
      let a = bind_ok (entry_at place words) (λ entry. done (make entry.0.0 entry.0.1, entry.1)) x e in
      let entry = entry_sound place words a.0 a.1 in
      let is : word ∷ words ≡ words_of (make a.0.0.0 a.0.0.1) ++ a.0.1 = ap (λ (ws : List (List ℕ)). word ∷ ws) entry.0 ∙ ap (λ (ws : List (List ℕ)). ws ++ a.0.1) (sym (spelt a.0.0.0 a.0.0.1)) in
      subst (IsRead words_of Small (word ∷ words)) (ok_is (make a.0.0.0 a.0.0.1, a.0.1) x a.2) (is, small a.0.0.0 a.0.0.1 entry.1.0 entry.1.1)

  one_sound : (make : ℕ → P) → ((n : ℕ) → words_of (make n) ≡ word ∷ decimal n ∷ []) → ((n : ℕ) → IsSmall n → Small (make n))
      → (small_number_at place words >>= λ number. done (make number.0, number.1)) ≡ Ok x → IsRead words_of Small (word ∷ words) x
  one_sound make spelt small e =
      let a = bind_ok (small_number_at place words) (λ number. done (make number.0, number.1)) x e in
      let number = small_number_sound place words a.0 a.1 in
      let is : word ∷ words ≡ words_of (make a.0.0) ++ a.0.1 = ap (λ (ws : List (List ℕ)). word ∷ ws) number.0 ∙ ap (λ (ws : List (List ℕ)). ws ++ a.0.1) (sym (spelt a.0.0)) in
      subst (IsRead words_of Small (word ∷ words)) (ok_is (make a.0.0, a.0.1) x a.2) (is, small a.0.0 number.1)

pub place_sound : (place : ℕ) (words : List (List ℕ)) (x : Place × List (List ℕ)) → place_at place words ≡ Ok x → IsRead place_words IsSmallPlace words x
unfolding place_at
place_sound place words x e =
    let a = bind_ok (certificates.place_at place words) place_made x e in
    let text = texts.place_sound place words a.0 a.1 in
    let is = subst (λ (p : PlaceText). texts.IsPlace words (p, a.0.1)) (sym (text_of_place a.0.0)) text in
    subst (IsRead place_words IsSmallPlace words) (ok_is (place_of a.0.0, a.0.1) x a.2) is

climbed_sound : (place : ℕ) (name : ClimbName) (words : List (List ℕ)) (x : ClimbPlace × List (List ℕ)) → climbed_at place name words ≡ Ok x → IsRead climb_place_words IsSmallClimbPlace (climb_word name ∷ words) x
climbed_sound place climbing.Start words x e = two_sound climb_place_words IsSmallClimbPlace (codes "start") place words x (λ m n. climbs.Start m n) (λ m n. refl) (λ m n p q. (p, q)) e
climbed_sound place climbing.Step words x e = two_sound climb_place_words IsSmallClimbPlace (codes "step") place words x (λ m n. climbs.Step m n) (λ m n. refl) (λ m n p q. (p, q)) e
climbed_sound place climbing.Denominator words x e = one_sound climb_place_words IsSmallClimbPlace (codes "denominator") place words x (λ n. climbs.Denominator n) (λ n. refl) (λ n p. p) e
climbed_sound place climbing.RowSum words x e = one_sound climb_place_words IsSmallClimbPlace (codes "rowsum") place words x (λ n. climbs.RowSum n) (λ n. refl) (λ n p. p) e
climbed_sound place climbing.Total words x e = subst (IsRead climb_place_words IsSmallClimbPlace (codes "total" ∷ words)) (ok_is (climbs.Total, words) x e) (refl, tt)
climbed_sound place climbing.Scale words x e = one_sound climb_place_words IsSmallClimbPlace (codes "scale") place words x (λ n. climbs.Scale n) (λ n. refl) (λ n p. p) e
climbed_sound place climbing.ColumnSum words x e = one_sound climb_place_words IsSmallClimbPlace (codes "columnsum") place words x (λ n. climbs.ColumnSum n) (λ n. refl) (λ n p. p) e

pub climb_place_sound : (place : ℕ) (words : List (List ℕ)) (x : ClimbPlace × List (List ℕ)) → climb_place_at place words ≡ Ok x → IsRead climb_place_words IsSmallClimbPlace words x
unfolding climb_place_at
climb_place_sound place words x e =
    let a = bind_ok (name_at climb_word climb_names place words) (λ name. climbed_at place name.0 name.1) x e in
    let name = name_sound climb_word climb_names place words a.0 a.1 in
    let sound = climbed_sound place a.0.0 a.0.1 x a.2 in
    (name ∙ sound.0, sound.1)

-- ---- a place and a path

module _ {P : Type 0} (words_of : P → List (List ℕ)) (Small : P → Type 0) (read : ℕ → List (List ℕ) → Result (P × List (List ℕ)) ProofFault) (place : ℕ) where
  pub noted_again : ((p : P) (more : List (List ℕ)) → Small p → read place (words_of p ++ more) ≡ Ok (p, more)) → (p : P) (path : List (ℕ × ℕ)) → Small p → IsSmallPath path → noted_at read place (words_of p ++ path_words path) ≡ Ok (p, path)
  unfolding noted_at
  noted_again again p path small steps = rw (again p (path_words path) small, path_again place path steps) refl

  pub noted_sound : ((words : List (List ℕ)) (x : P × List (List ℕ)) → read place words ≡ Ok x → IsRead words_of Small words x) → (words : List (List ℕ)) (x : P × List (ℕ × ℕ)) → noted_at read place words ≡ Ok x → (words ≡ words_of x.0 ++ path_words x.1) × (Small x.0 × IsSmallPath x.1)
  unfolding noted_at
  noted_sound sound words x e =
      let a = bind_ok (read place words) (λ number. path_at place number.1 >>= λ path. done (number.0, path)) x e in
      let b = bind_ok (path_at place a.0.1) (λ path. done (a.0.0, path)) x a.2 in
      let number = sound words a.0 a.1 in
      let path = path_sound place a.0.1 b.0 b.1 in
      let is : words ≡ words_of a.0.0 ++ path_words b.0 = number.0 ∙ ap (λ (ws : List (List ℕ)). words_of a.0.0 ++ ws) path.0 in
      subst (λ (y : P × List (ℕ × ℕ)). (words ≡ words_of y.0 ++ path_words y.1) × (Small y.0 × IsSmallPath y.1)) (ok_is (a.0.0, b.0) x b.2) (is, (number.1, path.1))
