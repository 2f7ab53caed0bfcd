-- The lines and the words of a text of UTF-8 are UTF-8.
use Rattle.std.proofs.Common.{◌≡◌, ℕ, zero, suc, ◌+◌, ◌-◌, ◌<◌, ◌≤◌, Bool, true, not, ltb, filter, map, List, [], ◌∷◌, length, get_or, sym, subst, arith, inl, inr, length-drop}
use Rattle.std.specs.Prelude.{◌==◌}
use Rattle.std.specs.List.{AllByRecursion, slice_split, enumerate_from, position_or_len, after_first}
use Rattle.std.specs.Str.{IsUtf8}
use Rattle.std.specs.Str.Lines.{lines, lines_of_parts, strip_carriage_return}
use Rattle.std.proofs.lemmas.Bool.{cases_Bool, ltb-true, ltb-false, eqb-true}
use Rattle.std.proofs.lemmas.List.Splits.{slice_split_first}
use Rattle.std.proofs.lemmas.List.Sums.{passes_at_first}
use Rattle.std.proofs.lemmas.Str.{IsUtf8-take, IsUtf8-drop, IsCharBoundary-before_ascii, IsCharBoundary-after_ascii}
use Rattle.ror_text.specs.Lines.{is_line_end, is_blank, is_passed_over, words, numbered_lines_from}
use Rattle.ror_text.proofs.LineLemmas.{unsplit}

-- a text that is cut at ASCII bytes
parts_step : (p : ℕ → Bool) → ((b : ℕ) → p b ≡ true → b < 128) → (xs : List ℕ) → IsUtf8 xs → ((rest : List ℕ) → length rest < length xs → IsUtf8 rest → AllByRecursion IsUtf8 (slice_split p rest)) → AllByRecursion IsUtf8 (slice_split p xs)
parts_step p ascii xs u later = elim (cases_Bool (ltb (position_or_len p xs) (length xs))) [
  | inl hit ↦
      let at : position_or_len p xs < length xs = ltb-true _ _ hit in
      let low : get_or xs (position_or_len p xs) 0 < 128 = ascii _ (passes_at_first p xs 0 at) in
      let front = IsUtf8-take xs (position_or_len p xs) u (IsCharBoundary-before_ascii xs _ at low) in
      let rest = IsUtf8-drop xs (position_or_len p xs + 1) u (IsCharBoundary-after_ascii xs _ u at low) in
      let shorter : length (after_first p xs) < length xs = simp length-drop (omega arith) in
      subst (λ (parts : List (List ℕ)). AllByRecursion IsUtf8 parts) (sym (slice_split_first p xs 0 at)) (front, later (after_first p xs) shorter rest)
  | inr miss ↦ subst (λ (parts : List (List ℕ)). AllByRecursion IsUtf8 parts) (sym (unsplit p xs (ltb-false _ _ miss))) (u, tt)
]

parts-IsUtf8 : (p : ℕ → Bool) → ((b : ℕ) → p b ≡ true → b < 128) → (n : ℕ) (xs : List ℕ) → length xs ≤ n → IsUtf8 xs → AllByRecursion IsUtf8 (slice_split p xs)
parts-IsUtf8 p ascii zero xs small u = parts_step p ascii xs u (λ rest less v. absurd (omega arith))
parts-IsUtf8 p ascii (suc n) xs small u = parts_step p ascii xs u (λ rest less v. parts-IsUtf8 p ascii n rest (omega arith) v)

stripped-IsUtf8 : (line : List ℕ) → IsUtf8 line → IsUtf8 (strip_carriage_return line)
stripped-IsUtf8 [] u = u
stripped-IsUtf8 (b ∷ bs) u =
    let line : List ℕ = b ∷ bs in
    elim (cases_Bool (get_or line (length line - 1) 0 == 13)) [
      | inl hit ↦
          let low : get_or line (length line - 1) 0 < 128 = omega (arith, eqb-true _ _ hit) in
          rw hit (IsUtf8-take line (length line - 1) u (IsCharBoundary-before_ascii line (length line - 1) (omega arith) low))
      | inr miss ↦ rw miss u
    ]

lines_of_parts-IsUtf8 : (parts : List (List ℕ)) → AllByRecursion IsUtf8 parts → AllByRecursion IsUtf8 (lines_of_parts parts)
lines_of_parts-IsUtf8 [] h = tt
lines_of_parts-IsUtf8 (part ∷ []) h = elim (cases_Bool (length part == 0)) [ inl hit ↦ rw hit tt | inr miss ↦ rw miss h ]
lines_of_parts-IsUtf8 (part ∷ next ∷ more) h = (stripped-IsUtf8 part h.0, lines_of_parts-IsUtf8 (next ∷ more) h.1)

pub lines-IsUtf8 : (bytes : List ℕ) → IsUtf8 bytes → AllByRecursion IsUtf8 (lines bytes)
lines-IsUtf8 bytes u = lines_of_parts-IsUtf8 _ (parts-IsUtf8 is_line_end (λ b h. omega (arith, eqb-true b 10 h)) (length bytes) bytes (omega arith) u)

all-filter : {A : Type 0} (P : A → Type 0) (p : A → Bool) (xs : List A) → AllByRecursion P xs → AllByRecursion P (filter p xs)
all-filter P p [] h = tt
all-filter P p (x ∷ xs) h = elim (cases_Bool (p x)) [
  | inl hit ↦ rw hit (h.0, all-filter P p xs h.1)
  | inr miss ↦ rw miss (all-filter P p xs h.1)
]

blank_is_ascii : (b : ℕ) → is_blank b ≡ true → b < 128
blank_is_ascii b h = elim (cases_Bool (b == 32)) [
  | inl space ↦ omega (arith, eqb-true b 32 space)
  | inr other ↦ omega (arith, eqb-true b 9 (rw other at h))
]

pub words-IsUtf8 : (line : List ℕ) → IsUtf8 line → AllByRecursion IsUtf8 (words line)
words-IsUtf8 line u = all-filter IsUtf8 _ _ (parts-IsUtf8 is_blank blank_is_ascii (length line) line (omega arith) u)

-- what holds of the words of each line holds of them when they are numbered
numbered-IsUtf8 : (n : ℕ) (ls : List (List ℕ)) → AllByRecursion IsUtf8 ls → AllByRecursion (λ (l : ℕ × List (List ℕ)). AllByRecursion IsUtf8 l.1) (enumerate_from n (map words ls))
numbered-IsUtf8 n [] u = tt
numbered-IsUtf8 n (line ∷ ls) u = (words-IsUtf8 line u.0, numbered-IsUtf8 (n + 1) ls u.1)

-- the words of a text of UTF-8 are UTF-8
pub numbered_lines_from-IsUtf8 : (n : ℕ) (bytes : List ℕ) → IsUtf8 bytes → AllByRecursion (λ (l : ℕ × List (List ℕ)). AllByRecursion IsUtf8 l.1) (numbered_lines_from n bytes)
numbered_lines_from-IsUtf8 n bytes u = all-filter (λ (l : ℕ × List (List ℕ)). AllByRecursion IsUtf8 l.1) (λ l. not (is_passed_over l.1)) _ (numbered-IsUtf8 n (lines bytes) (lines-IsUtf8 bytes u))
