-- Lines of words that are seen, joined to a text, are cut again.
use Rattle.std.proofs.Common.{◌≡◌, ℕ, zero, suc, ◌+◌, ◌-◌, ◌<◌, ◌≤◌, true, false, not, eqb, ltb, filter, List, [], ◌∷◌, ◌++◌, length, map, refl, sym, ap, subst, ◌∙◌, arith, append_assoc}
use Rattle.std.specs.Prelude.{All, slice_index}
use Rattle.std.specs.List.{AllByRecursion, enumerate_from, flat_map, list_all, list_any, slice_split}
use Rattle.std.specs.Str.{IsAscii, IsUtf8}
use Rattle.std.specs.Str.Lines.{strip_carriage_return}
use Rattle.std.proofs.lemmas.Bool.{and_parts, and_from, not-true, not_from_false, or_parts, ltb-true, ltb-false, ne_eqb, cond-true}
use Rattle.std.proofs.lemmas.List.Elements.{All-nil, All-cons}
use Rattle.std.proofs.lemmas.List.Folds.{list_all-append}
use Rattle.std.proofs.lemmas.List.Splits.{slice_split_none, slice_split_at}
use Rattle.std.proofs.lemmas.Str.{IsUtf8-append, IsUtf8-from_ascii, IsUtf8-nil}
use Rattle.ror_text.specs.Lines.{is_blank, is_control, is_passed_over, numbered_lines_from, words}
use Rattle.ror_text.specs.SpacedLines.{join_words, line_text, is_word, are_words}
use Rattle.ror_text.proofs.IdLemmas.{visible_is_word}
use Rattle.ror_text.proofs.LineLemmas.{lines-split, numbered_lines_from-end, numbered_lines_from-line}
use Rattle.ror_text.proofs.SpacedLemmas.{split_line-join_words}

abbrev pub Words : Type 0
Words = List (List ℕ)

-- a word of a line: some bytes, none of which is a blank or a control byte, of UTF-8
pub record IsSeen (word : List ℕ) : Type 0 where
  pub some : 0 < length word
  pub visible : list_any is_control word ≡ false
  pub utf8 : IsUtf8 word

-- a line of such words that isn't passed over
pub record IsSeenLine (line : Words) : Type 0 where
  pub first : List ℕ
  pub rest : Words
  pub is : line ≡ first ∷ rest
  pub seen : AllByRecursion IsSeen (first ∷ rest)
  pub kept : is_passed_over (first ∷ rest) ≡ false

-- lines, one behind the other
abbrev pub text_of : List Words → List ℕ
text_of lines = flat_map line_text lines

-- ---- the words of a line

visible_byte : (b : ℕ) → is_control b ≡ false → 0x21 ≤ b
visible_byte b h = ltb-false _ _ (or_parts (ltb b 0x21) (eqb b 0x7F) h).0

not_blank : (word : List ℕ) → list_any is_control word ≡ false → All (λ b. is_blank b ≡ false) word
not_blank [] h = All-nil _
not_blank (b ∷ bs) h =
    let both = or_parts (is_control b) (list_any is_control bs) h in
    let large = visible_byte b both.0 in
    let blank : is_blank b ≡ false = rw (ne_eqb b 32 (λ (e : b ≡ 32). omega arith), ne_eqb b 9 (λ (e : b ≡ 9). omega arith)) refl in
    All-cons (λ b. is_blank b ≡ false) b bs blank (not_blank bs both.1)

some_word : (word : List ℕ) → 0 < length word → not (eqb (length word) 0) ≡ true
some_word word h = not_from_false _ (ne_eqb (length word) 0 (λ (e : length word ≡ 0). omega arith))

abbrev filled : Words → Words
filled parts = filter (λ (word : List ℕ). not (eqb (length word) 0)) parts

filled_cons : (word : List ℕ) (rest : Words) → 0 < length word → filled (word ∷ rest) ≡ word ∷ filled rest
filled_cons word rest h = cond-true (not (eqb (length word) 0)) (word ∷ filled rest) (filled rest) (some_word word h)

words_joined : (word : List ℕ) (ws : Words) → AllByRecursion IsSeen (word ∷ ws) → words (join_words (word ∷ ws)) ≡ word ∷ ws
words_joined word [] h = ap filled (slice_split_none is_blank word (not_blank word h.0.visible)) ∙ filled_cons word [] h.0.some
words_joined word (next ∷ ws) h =
    ap filled (slice_split_at is_blank word 32 (join_words (next ∷ ws)) (not_blank word h.0.visible) refl)
    ∙ filled_cons word (slice_split is_blank (join_words (next ∷ ws))) h.0.some
    ∙ ap (λ (l : Words). word ∷ l) (words_joined next ws h.1)

seen_words : (ws : Words) → AllByRecursion IsSeen ws → are_words ws ≡ true
seen_words [] h = refl
seen_words (w ∷ ws) h = and_from (is_word w) (are_words ws) (visible_is_word w h.0.visible) (seen_words ws h.1)

-- ---- no carriage return stands at a line's end

no_return : (word : List ℕ) → list_any is_control word ≡ false → list_all (λ b. not (eqb b 13)) word ≡ true
no_return [] h = refl
no_return (b ∷ bs) h =
    let both = or_parts (is_control b) (list_any is_control bs) h in
    let large = visible_byte b both.0 in
    and_from _ _ (not_from_false _ (ne_eqb b 13 (λ (e : b ≡ 13). omega arith))) (no_return bs both.1)

joined_no_return : (ws : Words) → AllByRecursion IsSeen ws → list_all (λ b. not (eqb b 13)) (join_words ws) ≡ true
joined_no_return [] h = refl
joined_no_return (word ∷ []) h = no_return word h.0.visible
joined_no_return (word ∷ next ∷ ws) h =
    list_all-append (λ b. not (eqb b 13)) word (32 ∷ join_words (next ∷ ws)) ∙ and_from _ _ (no_return word h.0.visible) (joined_no_return (next ∷ ws) h.1)

last_kept : (line : List ℕ) → list_all (λ b. not (eqb b 13)) line ≡ true → eqb (slice_index line (length line - 1)) 13 ≡ false
last_kept [] h = refl
last_kept (b ∷ []) h = not-true _ (and_parts (not (eqb b 13)) true h).0
last_kept (b ∷ c ∷ rest) h =
    let both = and_parts (not (eqb b 13)) (list_all (λ b. not (eqb b 13)) (c ∷ rest)) h in
    let last = last_kept (c ∷ rest) both.1 in
    let e : suc (suc (length rest)) - 1 ≡ suc (length rest) = omega arith in
    let f : suc (length rest) - 1 ≡ length rest = omega arith in
    rw e (rw f at last)

strip_kept : (line : List ℕ) → list_all (λ b. not (eqb b 13)) line ≡ true → strip_carriage_return line ≡ line
strip_kept line h = rw (last_kept line h) refl

-- ---- lines

text_cons : (line : Words) (lines : List Words) → text_of (line ∷ lines) ≡ join_words line ++ 10 ∷ text_of lines
unfolding line_text
text_cons line lines = append_assoc (join_words line) (10 ∷ []) (text_of lines)

one_more : (n : ℕ) (first : List ℕ) (rest : Words) (lines : List Words) → AllByRecursion IsSeen (first ∷ rest) → is_passed_over (first ∷ rest) ≡ false → numbered_lines_from (n + 1) (text_of lines) ≡ enumerate_from (n + 1) lines → numbered_lines_from n (text_of ((first ∷ rest) ∷ lines)) ≡ enumerate_from n ((first ∷ rest) ∷ lines)
one_more n first rest lines seen kept more =
    let line = first ∷ rest in
    let cut = lines-split (join_words line ++ 10 ∷ text_of lines) (join_words line) (text_of lines) (split_line-join_words line (text_of lines) (seen_words line seen)) in
    let stripped = strip_kept (join_words line) (joined_no_return line seen) in
    let same = words_joined first rest seen in
    let here = numbered_lines_from-line n (join_words line ++ 10 ∷ text_of lines) (join_words line) (text_of lines) (rw stripped at cut) (rw same kept) in
    ap (numbered_lines_from n) (text_cons line lines) ∙ here ∙ ap (λ (ws : Words). (n, ws) ∷ numbered_lines_from (n + 1) (text_of lines)) same ∙ ap (λ (ls : List (ℕ × Words)). (n, line) ∷ ls) more

pub numbered : (n : ℕ) (lines : List Words) → AllByRecursion IsSeenLine lines → numbered_lines_from n (text_of lines) ≡ enumerate_from n lines
numbered n [] h = numbered_lines_from-end n [] refl
numbered n (line ∷ lines) h =
    let s = h.0 in
    subst (λ (l : Words). numbered_lines_from n (text_of (l ∷ lines)) ≡ enumerate_from n (l ∷ lines)) (sym s.is) (one_more n s.first s.rest lines s.seen s.kept (numbered (n + 1) lines h.1))

pub numbers_off : (n : ℕ) (lines : List Words) → map (λ line. line.1) (enumerate_from n lines) ≡ lines
numbers_off n [] = refl
numbers_off n (line ∷ lines) = ap (λ (ls : List Words). line ∷ ls) (numbers_off (n + 1) lines)

-- ---- their text is UTF-8

ascii_cons : (b : ℕ) (bs : List ℕ) → b < 128 → IsAscii bs → IsAscii (b ∷ bs)
ascii_cons b bs small h zero = small
ascii_cons b bs small h (suc i) = h i

ascii_nil : IsAscii []
ascii_nil i = omega arith

ascii_bytes : (bs : List ℕ) → list_all (λ b. ltb b 128) bs ≡ true → IsAscii bs
ascii_bytes [] h = ascii_nil
ascii_bytes (b ∷ bs) h = let both = and_parts (ltb b 128) (list_all (λ b. ltb b 128) bs) h in ascii_cons b bs (ltb-true _ _ both.0) (ascii_bytes bs both.1)

pub utf8_bytes : (bs : List ℕ) → list_all (λ b. ltb b 128) bs ≡ true → IsUtf8 bs
utf8_bytes bs h = IsUtf8-from_ascii bs (ascii_bytes bs h)

joined_utf8 : (ws : Words) → AllByRecursion IsSeen ws → IsUtf8 (join_words ws)
joined_utf8 [] h = IsUtf8-nil
joined_utf8 (word ∷ []) h = h.0.utf8
joined_utf8 (word ∷ next ∷ ws) h = IsUtf8-append word (32 ∷ join_words (next ∷ ws)) h.0.utf8 (IsUtf8-append (32 ∷ []) (join_words (next ∷ ws)) (utf8_bytes (32 ∷ []) refl) (joined_utf8 (next ∷ ws) h.1))

pub text_utf8 : (lines : List Words) → AllByRecursion IsSeenLine lines → IsUtf8 (text_of lines)
text_utf8 [] h = IsUtf8-nil
text_utf8 (line ∷ lines) h =
    let s = h.0 in
    let here : IsUtf8 (join_words line) = rw s.is (joined_utf8 (s.first ∷ s.rest) s.seen) in
    rw (text_cons line lines) (IsUtf8-append (join_words line) (10 ∷ text_of lines) here (IsUtf8-append (10 ∷ []) (text_of lines) (utf8_bytes (10 ∷ []) refl) (text_utf8 lines h.1)))
