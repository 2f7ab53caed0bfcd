-- Where a line is cut into words, and a text into lines; and that what was written is cut so again.
use Rattle.std.proofs.Common.{◌≡◌, ℕ, ◌+◌, ◌<◌, ◌≤◌, ◌==◌, Bool, false, not, suc, ltb, leb, List, [], ◌∷◌, ◌++◌, append_assoc, length, length-append, length-drop, Option, true, take, drop, ◌-◌, Some, None, refl, sym, ap, subst, ◌∙◌, arith, inl, inr}
use Rattle.std.specs.Prelude.{◌⊎◌, position, is_some}
use Rattle.std.specs.Option.{option_map}
use Rattle.std.specs.List.{position_or_len, before_first, after_first}
use Rattle.std.proofs.lemmas.Bool.{cases_Bool, ltb-true, ltb-false, lt-leb, not-true, not-false}
use Rattle.std.proofs.lemmas.List.{take_all, drop-drop, length-take}
use Rattle.std.proofs.lemmas.List.Elements.{All-from_get_or}
use Rattle.std.proofs.lemmas.List.Splits.{slice_split_first, slice_split_none}
use Rattle.std.proofs.lemmas.List.Sums.{fails_before_first}
use Rattle.ror_text.specs.Lines.{is_line_end}
use Rattle.ror_text.specs.SpacedLines.{spaced_words, split_line, join_words, are_words, line_text}
use Rattle.ror_text.proofs.LineLemmas.{split_cases}
use Rattle.ror_text.specs.Cursor.{Cursor, cursor_at, line_words, line_after}
use Rattle.ror_text.proofs.SpacedLemmas.{spaced_words-join_words, join_words-spaced_words, split_line-join_words, split_line-sound}

-- a space
abbrev is_space : ℕ → Bool
is_space byte = byte == 32

space_cases : (line : List ℕ) → ((position_or_len is_space line < length line) × (position is_space line ≡ Some (position_or_len is_space line))) ⊎ ((length line ≤ position_or_len is_space line) × (position is_space line ≡ None))
space_cases line =
    elim (cases_Bool (ltb (position_or_len is_space line) (length line))) [
      | inl hit ↦ inl (ltb-true _ _ hit, rw hit refl)
      | inr miss ↦ inr (ltb-false _ _ miss, rw miss refl)
    ]

pub cut_at : (line : List ℕ) (end : ℕ) → position is_space line ≡ Some end → spaced_words line ≡ take end line ∷ spaced_words (drop (end + 1) line)
cut_at line end e =
    elim (space_cases line) [
      | inl found ↦
          let is : position_or_len is_space line ≡ end = cc in
          subst (λ n. spaced_words line ≡ take n line ∷ spaced_words (drop (n + 1) line)) is (slice_split_first is_space line 0 found.0)
      | inr none ↦ absurd cc
    ]

pub uncut : (line : List ℕ) → position is_space line ≡ None → spaced_words line ≡ line ∷ []
uncut line e =
    elim (space_cases line) [
      | inl found ↦ absurd cc
      | inr none ↦ slice_split_none is_space line (All-from_get_or (λ byte. is_space byte ≡ false) line 0 (λ i l. fails_before_first is_space line i 0 (omega arith)))
    ]

some_word : (line : List ℕ) → 0 < length (spaced_words line)
some_word line =
    elim (space_cases line) [
      | inl found ↦ let cut = cut_at line (position_or_len is_space line) found.1 in omega (arith, ap length cut)
      | inr none ↦ let whole = uncut line none.1 in omega (arith, ap length whole)
    ]

pub few_words : (line : List ℕ) (few : Bool) → is_some (position is_space line) ≡ not few → few ≡ leb (length (spaced_words line)) 1
few_words line few e =
    elim (space_cases line) [
      | inl found ↦
          let end = position_or_len is_space line in
          let many : length (spaced_words line) ≡ suc (length (spaced_words (drop (end + 1) line))) = ap length (cut_at line end found.1) in
          let above : leb (length (spaced_words line)) 1 ≡ false = lt-leb _ _ (omega (arith, many, some_word (drop (end + 1) line))) in
          rw above (not-true few (sym e ∙ ap is_some found.1))
      | inr none ↦ rw (uncut line none.1) (not-false few (sym e ∙ ap is_some none.1))
    ]

-- what the cut at the first line feed gives
pub cut_line : (c : Cursor) (line tail : List ℕ) → split_line c.rest ≡ Some (line, tail)
    → (line_words c ≡ spaced_words line) × (line_after c ≡ Some (record { place = c.place + length line + 1; rest = tail }))
unfolding line_words line_after
cut_line c line tail e =
    elim (split_cases c.rest) [
      | inl found ↦
          let pair : (before_first is_line_end c.rest, after_first is_line_end c.rest) ≡ (line, tail) = cc in
          (ap (λ (p : List ℕ × List ℕ). spaced_words p.0) pair, rw e refl)
      | inr none ↦ absurd cc
    ]

tail_is : (bytes line tail : List ℕ) → split_line bytes ≡ Some (line, tail) → tail ≡ drop (length line + 1) bytes
tail_is bytes line tail e =
    elim (split_cases bytes) [
      | inl found ↦
          let pair : (before_first is_line_end bytes, after_first is_line_end bytes) ≡ (line, tail) = cc in
          let front : before_first is_line_end bytes ≡ line = ap (λ (p : List ℕ × List ℕ). p.0) pair in
          let behind : after_first is_line_end bytes ≡ tail = ap (λ (p : List ℕ × List ℕ). p.1) pair in
          let len : position_or_len is_line_end bytes ≡ length line = omega (arith, ap length front, length-take (position_or_len is_line_end bytes) bytes) in
          sym behind ∙ ap (λ n. drop (n + 1) bytes) len
      | inr none ↦ absurd cc
    ]

-- the line at a place, where a line feed ends it
pub ended_line : (bytes line tail : List ℕ) (from : ℕ) → split_line (drop from bytes) ≡ Some (line, tail)
    → (line_words (cursor_at bytes from) ≡ spaced_words line) × (line_after (cursor_at bytes from) ≡ Some (cursor_at bytes (from + length line + 1)))
ended_line bytes line tail from e =
    let cut = cut_line (cursor_at bytes from) line tail e in
    let to : from + (length line + 1) ≡ from + length line + 1 = omega arith in
    let same : tail ≡ drop (from + length line + 1) bytes = tail_is (drop from bytes) line tail e ∙ drop-drop (length line + 1) from bytes ∙ ap (λ n. drop n bytes) to in
    (cut.0, cut.1 ∙ ap (λ (r : List ℕ). Some (record { place = from + length line + 1; rest = r })) same)

-- the line at a place, where none does
pub open_line : (bytes : List ℕ) (from : ℕ) → split_line (drop from bytes) ≡ None
    → (line_words (cursor_at bytes from) ≡ spaced_words (drop from bytes)) × (line_after (cursor_at bytes from) ≡ None)
unfolding line_words line_after
open_line bytes from e =
    let rest = drop from bytes in
    elim (split_cases rest) [
      | inl found ↦ absurd cc
      | inr none ↦ (ap spaced_words (take_all (position_or_len is_line_end rest) rest none.0), rw e refl)
    ]

-- a slice from a place on, as the code has it
pub to_end : (bytes : List ℕ) (from : ℕ) → take (length bytes - from) (drop from bytes) ≡ drop from bytes
to_end bytes from = take_all (length bytes - from) (drop from bytes) (omega (arith, length-drop from bytes))

-- ---- lines of words

pub length-line_text : (ws : List (List ℕ)) → length (line_text ws) ≡ length (join_words ws) + 1
unfolding line_text
length-line_text ws = length-append (join_words ws) (10 ∷ [])

-- a line that was written is cut into its words, and the next line begins where it ends
pub line_again : (place : ℕ) (word : List ℕ) (ws : List (List ℕ)) (rest : List ℕ) → are_words (word ∷ ws) ≡ true
    → (line_words (record { place = place; rest = line_text (word ∷ ws) ++ rest }) ≡ word ∷ ws)
    × (line_after (record { place = place; rest = line_text (word ∷ ws) ++ rest }) ≡ Some (record { place = place + length (line_text (word ∷ ws)); rest = rest }))
unfolding line_text
line_again place word ws rest h =
    let line = join_words (word ∷ ws) in
    let regrouped : line_text (word ∷ ws) ++ rest ≡ line ++ 10 ∷ rest = append_assoc line (10 ∷ []) rest in
    let cut = cut_line (record { place = place; rest = line_text (word ∷ ws) ++ rest }) line rest (ap split_line regrouped ∙ split_line-join_words (word ∷ ws) rest h) in
    let to : place + length line + 1 ≡ place + length (line_text (word ∷ ws)) = omega (arith, length-line_text (word ∷ ws)) in
    (cut.0 ∙ spaced_words-join_words word ws h, cut.1 ∙ ap (λ n. Some (record { place = n; rest = rest })) to)

some_is : {A : Type 0} (x y : A) → Some x ≡ Some y → x ≡ y
some_is x y e = cc

after_sound : (c after : Cursor) → line_after c ≡ Some after → (line : List ℕ) × (split_line c.rest ≡ Some (line, after.rest)) × (after.place ≡ c.place + length line + 1)
unfolding line_after
after_sound c after e = found c (split_line c.rest) after refl e
  where
    found : (c : Cursor) (o : Option (List ℕ × List ℕ)) (after : Cursor) → split_line c.rest ≡ o → option_map (λ parts. record { place = c.place + length parts.0 + 1; rest = parts.1 }) o ≡ Some after
        → (line : List ℕ) × (split_line c.rest ≡ Some (line, after.rest)) × (after.place ≡ c.place + length line + 1)
    found c None after is e = absurd cc
    found c (Some (line, tail)) after is e = (line, is ∙ ap (λ (p : Cursor). Some (line, p.rest)) (some_is _ after e), ap (λ (p : Cursor). p.place) (sym (some_is _ after e)))

-- a line that a line feed ends is the text of its words
pub line_sound : (c after : Cursor) → line_after c ≡ Some after → (c.rest ≡ line_text (line_words c) ++ after.rest) × (after.place ≡ c.place + length (line_text (line_words c)))
unfolding line_text
line_sound c after e =
    let cut = after_sound c after e in
    let line = cut.0 in
    let sound = split_line-sound c.rest line after.rest cut.1 in
    let ws = (cut_line c line after.rest cut.1).0 in
    let joined : join_words (line_words c) ≡ line = ap join_words ws ∙ join_words-spaced_words line in
    let bytes : c.rest ≡ line_text (line_words c) ++ after.rest = sound.0 ∙ sym (append_assoc line (10 ∷ []) after.rest) ∙ ap (λ l. (l ++ 10 ∷ []) ++ after.rest) (sym joined) in
    let to : c.place + length line + 1 ≡ c.place + length (line_text (line_words c)) = omega (arith, length-line_text (line_words c), ap length joined) in
    (bytes, cut.2 ∙ to)

-- the text stands between the two cursors
pub record Spans (c : Cursor) (text : List ℕ) (after : Cursor) : Type 0 where
  pub rest : c.rest ≡ text ++ after.rest
  pub place : after.place ≡ c.place + length text

pub spans_then : (a b c : Cursor) (x y : List ℕ) → Spans a x b → Spans b y c → Spans a (x ++ y) c
spans_then a b c x y p q = record {
  rest = p.rest ∙ ap (λ (r : List ℕ). x ++ r) q.rest ∙ sym (append_assoc x y c.rest);
  place = omega (arith, p.place, q.place, length-append x y);
}

-- a line that a line feed ends, and whose words are known
pub line_spans : (c after : Cursor) (words : List (List ℕ)) → line_words c ≡ words → line_after c ≡ Some after → Spans c (line_text words) after
line_spans c after words is e =
    let sound = line_sound c after e in
    record {
      rest = sound.0 ∙ ap (λ (ws : List (List ℕ)). line_text ws ++ after.rest) is;
      place = sound.1 ∙ ap (λ (ws : List (List ℕ)). c.place + length (line_text ws)) is;
    }
