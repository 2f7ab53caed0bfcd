-- Pivots as words, both ways.
use Rattle.std.proofs.Common.{◌≡◌, ℕ, suc, ◌+◌, ◌<◌, ◌^◌, Bool, true, not, ◌==◌, ◌||◌, eqb, ltb, List, [], ◌∷◌, ◌++◌, length, length-append, take, drop, Some, None, Result, Ok, Err, refl, ap, subst, ◌∙◌, arith, inl, inr}
use Rattle.std.specs.Prelude.{position}
use Rattle.std.specs.Fmt.{decimal}
use Rattle.std.specs.List.{list_all, position_or_len}
use Rattle.std.proofs.lemmas.Bool.{cases_Bool, ltb-true, lt-ltb, and_parts, and_from, not-true, eqb-true, ne_eqb}
use Rattle.std.proofs.lemmas.List.{take_at}
use Rattle.std.specs.Str.Parse.{AllDigits}
use Rattle.std.proofs.lemmas.Str.Parse.{digit_from_value}
use Rattle.std.proofs.lemmas.Fmt.{decimal_is_IsNumeral_wide}
use Rattle.std.proofs.lemmas.List.Folds.{list_all-append}
use Rattle.ror_text.specs.SpacedLines.{is_word}
use Rattle.ror_text.specs.Numbers.{small_number_of}
use Rattle.ror_text.specs.Reading.{◌>>=◌, need}
use Rattle.ror_text.proofs.NumberLemmas.{small_number_of-decimal, small_number_of-sound, is_word-decimal}
use Rattle.ror_text.proofs.ReadingLemmas.{bind_ok, bind_err, need_ok, need_err}
use Rattle.ror_proof.specs.declared.answer.Pivot.{Pivot}
use Rattle.ror_proof.specs.declared.read.ProofFault.{ProofFault}
use Rattle.ror_proof.specs.declared.read.ProofFault.TheVariants.{BadLine}
use Rattle.ror_proof.specs.Words.{split_pivot, pivot_in}
use Rattle.ror_proof.specs.Text.{pivot_word, IsPrintablePivot}
use Rattle.ror_proof.proofs.WordLemmas.{ok_is}

abbrev is_colon : ℕ → Bool
is_colon byte = eqb byte 58

colon_place : (before after : List ℕ) → list_all (λ b. not (is_colon b)) before ≡ true → position_or_len is_colon (before ++ 58 ∷ after) ≡ length before
colon_place [] after h = refl
colon_place (b ∷ bs) after h =
    let both = and_parts (not (is_colon b)) (list_all (λ b. not (is_colon b)) bs) h in
    rw (not-true _ both.0, colon_place bs after both.1) (omega arith)

drop_past : (before : List ℕ) (b : ℕ) (after : List ℕ) → drop (length before + 1) (before ++ b ∷ after) ≡ after
drop_past [] b after = refl
drop_past (x ∷ before) b after = let e : suc (length before) + 1 ≡ suc (length before + 1) = omega arith in rw e (drop_past before b after)

-- what was joined is split again
split_again : (before after : List ℕ) → list_all (λ b. not (is_colon b)) before ≡ true → split_pivot (before ++ 58 ∷ after) ≡ Some (before, after)
split_again before after h =
    let place = colon_place before after h in
    let here : ltb (length before) (length (before ++ 58 ∷ after)) ≡ true = lt-ltb _ _ (omega (arith, length-append before (58 ∷ after))) in
    rw (place, here, take_at before (58 ∷ after) (length before) refl, drop_past before 58 after) refl

parts_at : (word : List ℕ) → position_or_len is_colon word < length word → word ≡ take (position_or_len is_colon word) word ++ 58 ∷ drop (position_or_len is_colon word + 1) word
parts_at [] h = absurd (omega arith)
parts_at (b ∷ bs) h =
    elim (cases_Bool (is_colon b)) [
      | inl hit ↦ rw hit (ap (λ x. x ∷ bs) (eqb-true b 58 hit))
      | inr miss ↦
          let n : ℕ = position_or_len is_colon bs in
          let below = rw miss at h in
          let rest = parts_at bs (omega arith) in
          let one : 1 + n ≡ suc n = omega arith in
          let two : suc n + 1 ≡ suc (n + 1) = omega arith in
          rw (miss, one, two) (ap (λ (l : List ℕ). b ∷ l) rest)
    ]

split_sound : (word : List ℕ) (parts : List ℕ × List ℕ) → split_pivot word ≡ Some parts → word ≡ parts.0 ++ 58 ∷ parts.1
split_sound word parts e =
    let n : ℕ = position_or_len is_colon word in
    elim (cases_Bool (ltb n (length word))) [
      | inl hit ↦
          let position_is : position is_colon word ≡ Some n = rw hit refl in
          let is : Some (take n word, drop (n + 1) word) ≡ Some parts = rw position_is at e in
          subst (λ (p : List ℕ × List ℕ). word ≡ p.0 ++ 58 ∷ p.1) (some_is (take n word, drop (n + 1) word) parts is) (parts_at word (ltb-true _ _ hit))
      | inr miss ↦
          let position_is : position is_colon word ≡ None = rw miss refl in
          absurd (let none = rw position_is at e in cc)
    ]
  where
    some_is : {X : Type 0} (x y : X) → Some x ≡ Some y → x ≡ y
    some_is x y e = cc

digits_no_colon : (ds : List ℕ) → AllDigits 10 ds → list_all (λ b. not (is_colon b)) ds ≡ true
digits_no_colon [] d = refl
digits_no_colon (c ∷ cs) d =
    let digit = digit_from_value c d.0 in
    rw (ne_eqb c 58 (λ e. omega arith)) (digits_no_colon cs d.1)

decimal_no_colon : (n : ℕ) → n < 2 ^ 32 → list_all (λ b. not (is_colon b)) (decimal n) ≡ true
decimal_no_colon n small = digits_no_colon (decimal n) (decimal_is_IsNumeral_wide n (omega arith)).0.1

abbrev pivot_read : ℕ → ℕ → Result Pivot ProofFault
pivot_read column row = Ok (record { column = column; row = row })

pub pivot_again : (place : ℕ) (p : Pivot) → IsPrintablePivot p → pivot_in place (pivot_word p) ≡ Ok p
unfolding pivot_in
pivot_again place p printable =
    rw (split_again (decimal p.column) (decimal p.row) (decimal_no_colon p.column printable.column), small_number_of-decimal p.column printable.column, small_number_of-decimal p.row printable.row) refl

pub pivot_sound : (place : ℕ) (word : List ℕ) (p : Pivot) → pivot_in place word ≡ Ok p → (word ≡ pivot_word p) × IsPrintablePivot p
unfolding pivot_in
pivot_sound place word p e =
    let a = bind_ok (need (BadLine place) (split_pivot word)) (λ parts. need (BadLine place) (small_number_of parts.0) >>= λ column. need (BadLine place) (small_number_of parts.1) >>= λ row. pivot_read column row) p e in
    let b = bind_ok (need (BadLine place) (small_number_of a.0.0)) (λ column. need (BadLine place) (small_number_of a.0.1) >>= λ row. pivot_read column row) p a.2 in
    let d = bind_ok (need (BadLine place) (small_number_of a.0.1)) (λ row. pivot_read b.0 row) p b.2 in
    let parts = split_sound word a.0 (need_ok (BadLine place) (split_pivot word) a.0 a.1) in
    let column = small_number_of-sound a.0.0 b.0 (need_ok (BadLine place) (small_number_of a.0.0) b.0 b.1) in
    let row = small_number_of-sound a.0.1 d.0 (need_ok (BadLine place) (small_number_of a.0.1) d.0 d.1) in
    let made : Pivot = record { column = b.0; row = d.0 } in
    let text : word ≡ pivot_word made = parts ∙ ap (λ (l : List ℕ). l ++ 58 ∷ a.0.1) column.0 ∙ ap (λ (l : List ℕ). decimal b.0 ++ 58 ∷ l) row.0 in
    subst (λ (q : Pivot). (word ≡ pivot_word q) × IsPrintablePivot q) (ok_is made p d.2) (text, record { column = column.1; row = row.1 })

pub pivot_is_word : (p : Pivot) → IsPrintablePivot p → is_word (pivot_word p) ≡ true
pivot_is_word p printable =
    list_all-append (λ byte. not (byte == 32 || byte == 10)) (decimal p.column) (58 ∷ decimal p.row) ∙ and_from _ _ (is_word-decimal p.column (omega (arith, printable.column))) (is_word-decimal p.row (omega (arith, printable.row)))

pub pivot_err : (place : ℕ) (word : List ℕ) (f : ProofFault) → pivot_in place word ≡ Err f → f ≡ BadLine place
unfolding pivot_in
pivot_err place word f e =
    elim (bind_err (need (BadLine place) (split_pivot word)) (λ parts. need (BadLine place) (small_number_of parts.0) >>= λ column. need (BadLine place) (small_number_of parts.1) >>= λ row. pivot_read column row) f e) [
      | inl here ↦ (need_err (BadLine place) f (split_pivot word) here).1
      | inr a ↦
          elim (bind_err (need (BadLine place) (small_number_of a.0.0)) (λ column. need (BadLine place) (small_number_of a.0.1) >>= λ row. pivot_read column row) f a.2) [
            | inl here ↦ (need_err (BadLine place) f (small_number_of a.0.0) here).1
            | inr b ↦
                elim (bind_err (need (BadLine place) (small_number_of a.0.1)) (λ row. pivot_read b.0 row) f b.2) [
                  | inl here ↦ (need_err (BadLine place) f (small_number_of a.0.1) here).1
                  | inr none ↦ absurd (let no = none.2 in cc)
                ]
          ]
    ]
