-- Words that are joined by single spaces are cut there again, and a line ends where it was ended.
use Rattle.std.proofs.Common.{◌≡◌, ℕ, suc, ◌+◌, ◌<◌, ◌≤◌, Bool, true, false, not, ◌||◌, eqb, ltb, List, [], ◌∷◌, ◌++◌, length, drop, Some, None, refl, ap, ◌∙◌, arith, inl, inr, length-append, subst}
use Rattle.std.specs.Prelude.{All}
use Rattle.std.specs.List.{list_all, position_or_len, before_first, after_first}
use Rattle.std.proofs.lemmas.Bool.{and_parts, and_from, not-true, not_from_false, or_parts, lt-ltb, cases_Bool, eqb-true}
use Rattle.std.proofs.lemmas.List.{take_at}
use Rattle.std.proofs.lemmas.List.Folds.{list_all-append}
use Rattle.std.proofs.lemmas.List.Elements.{All-nil, All-cons}
use Rattle.std.proofs.lemmas.List.Splits.{slice_split_at, slice_split_none, join_with_byte-slice_split}
use Rattle.ror_text.specs.Lines.{is_line_end}
use Rattle.ror_text.specs.SpacedLines.{split_line, spaced_words, join_words, is_word, are_words}
use Rattle.ror_text.proofs.LineLemmas.{split_cases}

pub list_all_weaker : {X : Type 0} (p q : X → Bool) → ((x : X) → p x ≡ true → q x ≡ true) → (xs : List X) → list_all p xs ≡ true → list_all q xs ≡ true
list_all_weaker p q each [] h = refl
list_all_weaker p q each (x ∷ xs) h = let both = and_parts (p x) (list_all p xs) h in and_from _ _ (each x both.0) (list_all_weaker p q each xs both.1)

-- ---- words

no_space : (word : List ℕ) → is_word word ≡ true → All (λ byte. (eqb byte 32) ≡ false) word
no_space [] h = All-nil _
no_space (b ∷ bs) h =
    let both = and_parts (not (eqb b 32 || eqb b 10)) (is_word bs) h in
    All-cons (λ byte. (eqb byte 32) ≡ false) b bs (or_parts _ _ (not-true _ both.0)).0 (no_space bs both.1)

-- words that were joined are cut again
pub spaced_words-join_words : (word : List ℕ) (ws : List (List ℕ)) → are_words (word ∷ ws) ≡ true → spaced_words (join_words (word ∷ ws)) ≡ word ∷ ws
spaced_words-join_words word [] h = slice_split_none _ word (no_space word (and_parts _ _ h).0)
spaced_words-join_words word (next ∷ ws) h =
    let both = and_parts (is_word word) (are_words (next ∷ ws)) h in
    slice_split_at _ word 32 (join_words (next ∷ ws)) (no_space word both.0) refl ∙ ap (λ (l : List (List ℕ)). word ∷ l) (spaced_words-join_words next ws both.1)

-- what was cut gives the line when it is joined
pub join_words-spaced_words : (line : List ℕ) → join_words (spaced_words line) ≡ line
join_words-spaced_words line = join_with_byte-slice_split 32 line

-- ---- lines

-- no byte ends a line
abbrev pub is_one_line : List ℕ → Bool
is_one_line line = list_all (λ byte. not (is_line_end byte)) line

word_is_one_line : (word : List ℕ) → is_word word ≡ true → is_one_line word ≡ true
word_is_one_line word h = list_all_weaker _ _ (λ b k. not_from_false _ (or_parts (eqb b 32) (eqb b 10) (not-true _ k)).1) word h

-- a line of words is one line
pub join_words_is_one_line : (ws : List (List ℕ)) → are_words ws ≡ true → is_one_line (join_words ws) ≡ true
join_words_is_one_line [] h = refl
join_words_is_one_line (word ∷ []) h = word_is_one_line word (and_parts (is_word word) true h).0
join_words_is_one_line (word ∷ next ∷ ws) h =
    let both = and_parts (is_word word) (are_words (next ∷ ws)) h in
    list_all-append (λ byte. not (is_line_end byte)) word (32 ∷ join_words (next ∷ ws)) ∙ and_from _ _ (word_is_one_line word both.0) (join_words_is_one_line (next ∷ ws) both.1)

place_of : (line rest : List ℕ) → is_one_line line ≡ true → position_or_len is_line_end (line ++ 10 ∷ rest) ≡ length line
place_of [] rest h = refl
place_of (b ∷ bs) rest h =
    let both = and_parts (not (is_line_end b)) (is_one_line bs) h in
    rw (not-true _ both.0, place_of bs rest both.1) (omega arith)

drop_past : (line : List ℕ) (b : ℕ) (rest : List ℕ) → drop (length line + 1) (line ++ b ∷ rest) ≡ rest
drop_past [] b rest = refl
drop_past (x ∷ line) b rest = let e : suc (length line) + 1 ≡ suc (length line + 1) = omega arith in rw e (drop_past line b rest)

-- the line that was ended is the first line, whatever follows
pub split_line-append : (line rest : List ℕ) → is_one_line line ≡ true → split_line (line ++ 10 ∷ rest) ≡ Some (line, rest)
split_line-append line rest h =
    let place = place_of line rest h in
    let here : ltb (length line) (length (line ++ 10 ∷ rest)) ≡ true = lt-ltb _ _ (omega (arith, length-append line (10 ∷ rest))) in
    rw (place, here, take_at line (10 ∷ rest) (length line) refl, drop_past line 10 rest) refl

pub split_line-join_words : (ws : List (List ℕ)) (rest : List ℕ) → are_words ws ≡ true → split_line (join_words ws ++ 10 ∷ rest) ≡ Some (join_words ws, rest)
split_line-join_words ws rest h = split_line-append (join_words ws) rest (join_words_is_one_line ws h)

-- what is cut at the first line end gives the bytes again
parts_at : (bytes : List ℕ) → position_or_len is_line_end bytes < length bytes → (bytes ≡ before_first is_line_end bytes ++ 10 ∷ after_first is_line_end bytes) × (is_one_line (before_first is_line_end bytes) ≡ true)
parts_at [] h = absurd (omega arith)
parts_at (b ∷ bs) h =
    elim (cases_Bool (is_line_end b)) [
      | inl hit ↦ (rw hit (ap (λ x. x ∷ bs) (eqb-true b 10 hit)), rw hit refl)
      | inr miss ↦
          let n : ℕ = position_or_len is_line_end bs in
          let below = rw miss at h in
          let rest = parts_at bs (omega arith) in
          let one : 1 + n ≡ suc n = omega arith in
          let two : suc n + 1 ≡ suc (n + 1) = omega arith in
          (rw (miss, one, two) (ap (λ (l : List ℕ). b ∷ l) rest.0), rw (miss, one) (and_from _ _ (not_from_false _ miss) rest.1))
    ]

pub split_line-sound : (bytes line rest : List ℕ) → split_line bytes ≡ Some (line, rest) → (bytes ≡ line ++ 10 ∷ rest) × (is_one_line line ≡ true)
split_line-sound bytes line rest e =
    elim (split_cases bytes) [
      | inl found ↦
          let pair : (before_first is_line_end bytes, after_first is_line_end bytes) ≡ (line, rest) = cc in
          let parts = parts_at bytes found.0 in
          subst (λ (p : List ℕ × List ℕ). (bytes ≡ p.0 ++ 10 ∷ p.1) × (is_one_line p.0 ≡ true)) pair parts
      | inr none ↦ absurd cc
    ]

one_line_place : (bytes : List ℕ) → is_one_line bytes ≡ true → length bytes ≤ position_or_len is_line_end bytes
one_line_place [] h = omega arith
one_line_place (b ∷ bs) h =
    let both = and_parts (not (is_line_end b)) (is_one_line bs) h in
    let rest = one_line_place bs both.1 in
    rw (not-true _ both.0) (omega arith)

-- a text without a line end has no first line
pub split_line-none : (bytes : List ℕ) → is_one_line bytes ≡ true → split_line bytes ≡ None
split_line-none bytes h =
    elim (split_cases bytes) [
      | inl found ↦ let far = one_line_place bytes h in absurd (omega arith)
      | inr none ↦ none.1
    ]
