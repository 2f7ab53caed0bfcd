-- The first line of a text, and those after it, and the words of a line.
use Rattle.std.proofs.Common.{get_or, subst, ◌≡◌, ℕ, zero, suc, ◌<◌, ◌≤◌, Bool, true, false, not, ltb, filter, ◌+◌, List, [], ◌∷◌, length, drop, Some, None, refl, sym, ap, ◌∙◌, arith, inl, inr}
use Rattle.std.specs.Prelude.{◌⊎◌, ◌==◌, Result, Ok, Err, MatchResult, is_ok, map}
use Rattle.std.specs.List.{AllByRecursion, slice_split, enumerate_from, list_any, position_or_len, before_first, after_first}
use Rattle.std.specs.Str.{IsUtf8, is_utf8}
use Rattle.std.proofs.lemmas.Str.{IsUtf8-from_is_utf8, is_utf8-from_IsUtf8, IsUtf8-nil}
use Rattle.std.specs.Str.Lines.{lines, lines_of_parts, strip_carriage_return}
use Rattle.std.proofs.lemmas.Bool.{cases_Bool, ltb-true, ltb-false, ne_eqb, false_from_ne_true, cond-true, cond-false, not_from_true, not_from_false}
use Rattle.std.proofs.lemmas.List.{drop_all}
use Rattle.std.proofs.lemmas.List.Splits.{slice_split_first, slice_split-cons_no, length-slice_split}
use Rattle.ror_text.specs.Lines.{is_line_end, first_line_end, is_passed_over, words, numbered_lines_from}
use Rattle.ror_text.specs.SpacedLines.{split_line}

parts_cons : (x : List ℕ) (parts : List (List ℕ)) → 0 < length parts → lines_of_parts (x ∷ parts) ≡ strip_carriage_return x ∷ lines_of_parts parts
parts_cons x [] h = absurd (omega arith)
parts_cons x (y ∷ more) h = refl

-- where no element passes, the list is the one part
pub unsplit : (p : ℕ → Bool) (xs : List ℕ) → length xs ≤ position_or_len p xs → slice_split p xs ≡ xs ∷ []
unsplit p [] h = refl
unsplit p (x ∷ xs) h =
    elim (cases_Bool (p x)) [
      | inl hit ↦ absurd (let g = rw hit at h in omega arith)
      | inr miss ↦ let g = rw miss at h in rw (slice_split-cons_no p x xs miss, unsplit p xs (omega arith)) refl
    ]

lines_first : (bytes : List ℕ) → position_or_len is_line_end bytes < length bytes → lines bytes ≡ strip_carriage_return (before_first is_line_end bytes) ∷ lines (after_first is_line_end bytes)
lines_first bytes h =
    let more : 0 < length (slice_split is_line_end (after_first is_line_end bytes)) = omega (arith, length-slice_split is_line_end (after_first is_line_end bytes)) in
    ap lines_of_parts (slice_split_first is_line_end bytes 0 h) ∙ parts_cons (before_first is_line_end bytes) (slice_split is_line_end (after_first is_line_end bytes)) more

-- what split_line answers, by the test of `position`
pub split_cases : (bytes : List ℕ) → ((position_or_len is_line_end bytes < length bytes) × (split_line bytes ≡ Some (before_first is_line_end bytes, after_first is_line_end bytes)))
    ⊎ ((length bytes ≤ position_or_len is_line_end bytes) × (split_line bytes ≡ None))
split_cases bytes =
    elim (cases_Bool (ltb (position_or_len is_line_end bytes) (length bytes))) [
      | inl hit ↦ inl (ltb-true _ _ hit, rw hit refl)
      | inr miss ↦ inr (ltb-false _ _ miss, rw miss refl)
    ]

pub lines-split : (bytes line rest : List ℕ) → split_line bytes ≡ Some (line, rest) → lines bytes ≡ strip_carriage_return line ∷ lines rest
lines-split bytes line rest e =
    elim (split_cases bytes) [
      | inl found ↦
          let pair : (before_first is_line_end bytes, after_first is_line_end bytes) ≡ (line, rest) = cc in
          lines_first bytes found.0 ∙ ap (λ (p : List ℕ × List ℕ). strip_carriage_return p.0 ∷ lines p.1) pair
      | inr none ↦ absurd cc
    ]

pub lines-unsplit : (bytes : List ℕ) → split_line bytes ≡ None → 0 < length bytes → lines bytes ≡ bytes ∷ []
lines-unsplit [] e h = absurd (omega arith)
lines-unsplit (b ∷ bs) e h =
    elim (split_cases (b ∷ bs)) [
      | inl found ↦ absurd cc
      | inr none ↦ ap lines_of_parts (unsplit is_line_end (b ∷ bs) none.0) ∙ rw (ne_eqb (suc (length bs)) 0 (λ z. absurd (omega arith))) refl
    ]

-- what stands after the first line
pub rest-split : (bytes line rest : List ℕ) → split_line bytes ≡ Some (line, rest) → rest ≡ drop (first_line_end bytes) bytes
rest-split bytes line rest e =
    elim (split_cases bytes) [
      | inl found ↦
          let pair : (before_first is_line_end bytes, after_first is_line_end bytes) ≡ (line, rest) = cc in
          sym (ap (λ (p : List ℕ × List ℕ). p.1) pair)
      | inr none ↦ absurd cc
    ]

pub rest-unsplit : (bytes : List ℕ) → split_line bytes ≡ None → [] ≡ drop (first_line_end bytes) bytes
rest-unsplit bytes e =
    elim (split_cases bytes) [
      | inl found ↦ absurd cc
      | inr none ↦ sym (drop_all (first_line_end bytes) bytes (omega (arith, none.0)))
    ]

pub positive : (n : ℕ) → false ≡ (n == 0) → 0 < n
positive zero h = absurd cc
positive (suc n) h = omega arith

pub list_any-map : {A B : Type 0} (test : B → Bool) (f : A → B) (xs : List A) → list_any test (map f xs) ≡ list_any (λ x. test (f x)) xs
list_any-map test f [] = refl
list_any-map test f (x ∷ xs) = rw (list_any-map test f xs) refl

pub is_utf8-from_cases : {S E : Type 0} (r : Result S E) (bytes : List ℕ) (P : S → Type 0) (Q : E → Type 0) → MatchResult r (λ s. P s × IsUtf8 bytes) (λ e. ¬ (IsUtf8 bytes) × Q e) → is_ok r ≡ is_utf8 bytes
is_utf8-from_cases (Ok s) bytes P Q h = sym (is_utf8-from_IsUtf8 bytes h.1)
is_utf8-from_cases (Err e) bytes P Q h = sym (false_from_ne_true (is_utf8 bytes) (λ t. h.0 (IsUtf8-from_is_utf8 bytes t)))

-- ---- numbered lines, as a loop over `first_line` meets them

pub numbered_lines_from-end : (n : ℕ) (bytes : List ℕ) → lines bytes ≡ [] → numbered_lines_from n bytes ≡ []
numbered_lines_from-end n bytes e = ap (λ (ls : List (List ℕ)). filter (λ line. not (is_passed_over line.1)) (enumerate_from n (map words ls))) e

-- a line that is passed over is counted
pub numbered_lines_from-pass : (n : ℕ) (bytes line rest : List ℕ) → lines bytes ≡ line ∷ lines rest → is_passed_over (words line) ≡ true → numbered_lines_from n bytes ≡ numbered_lines_from (n + 1) rest
numbered_lines_from-pass n bytes line rest e comment =
    ap (λ (ls : List (List ℕ)). filter (λ (l : ℕ × List (List ℕ)). not (is_passed_over l.1)) (enumerate_from n (map words ls))) e
    ∙ cond-false (not (is_passed_over (words line))) ((n, words line) ∷ numbered_lines_from (n + 1) rest) (numbered_lines_from (n + 1) rest) (not_from_true _ comment)

pub numbered_lines_from-line : (n : ℕ) (bytes line rest : List ℕ) → lines bytes ≡ line ∷ lines rest → is_passed_over (words line) ≡ false → numbered_lines_from n bytes ≡ (n, words line) ∷ numbered_lines_from (n + 1) rest
numbered_lines_from-line n bytes line rest e kept =
    ap (λ (ls : List (List ℕ)). filter (λ (l : ℕ × List (List ℕ)). not (is_passed_over l.1)) (enumerate_from n (map words ls))) e
    ∙ cond-true (not (is_passed_over (words line))) ((n, words line) ∷ numbered_lines_from (n + 1) rest) (numbered_lines_from (n + 1) rest) (not_from_false _ kept)

-- ---- words

-- a word of words of UTF-8; past the last one it is empty
pub utf8_word : (ws : List (List ℕ)) (i : ℕ) (word : List ℕ) → AllByRecursion IsUtf8 ws → word ≡ get_or ws i [] → IsUtf8 word
utf8_word ws i word utf8 is = subst IsUtf8 (sym is) (at ws i utf8)
  where
    at : (ws : List (List ℕ)) (i : ℕ) → AllByRecursion IsUtf8 ws → IsUtf8 (get_or ws i [])
    at [] i h = IsUtf8-nil
    at (w ∷ ws) zero h = h.0
    at (w ∷ ws) (suc i) h = at ws i h.1
