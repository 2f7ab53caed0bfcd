-- What an id is not.
use Rattle.std.proofs.Common.{◌≡◌, ℕ, ◌<◌, ◌≤◌, true, false, not, eqb, ltb, leb, List, [], ◌∷◌, length, refl, arith}
use Rattle.std.specs.Prelude.{◌≢◌, slice_index}
use Rattle.std.specs.List.{list_any}
use Rattle.std.specs.Str.{IsUtf8, is_utf8}
use Rattle.std.proofs.lemmas.Bool.{and_parts, and_from, not-true, not_from_false, or_parts, or_from, ltb-true, ltb-false, leb-true, eqb-false, ne_eqb}
use Rattle.std.proofs.lemmas.Str.{IsUtf8-from_is_utf8}
use Rattle.ror_text.specs.Lines.{is_control}
use Rattle.ror_text.specs.Ids.{is_id, IsId}
use Rattle.ror_text.specs.SpacedLines.{is_word}

-- the tests of an id, each as a fact
pub record HasIdForm (word : List ℕ) : Type 0 where
  pub some : 0 < length word
  pub short : length word ≤ 64
  pub utf8 : IsUtf8 word
  pub visible : list_any is_control word ≡ false
  pub no_at : slice_index word 0 ≢ 64
  pub no_hash : slice_index word 0 ≢ 35

pub IsId-form : (word : List ℕ) → IsId word → HasIdForm word
unfolding is_id
IsId-form word h =
    let f = and_parts _ (not (eqb (slice_index word 0) 35)) h in
    let e = and_parts _ (not (eqb (slice_index word 0) 64)) f.0 in
    let d = and_parts _ (not (list_any is_control word)) e.0 in
    let c = and_parts _ (is_utf8 word) d.0 in
    let b = and_parts (ltb 0 (length word)) (leb (length word) 64) c.0 in
    record {
      some = ltb-true _ _ b.0;
      short = leb-true _ _ b.1;
      utf8 = IsUtf8-from_is_utf8 word c.1;
      visible = not-true _ d.1;
      no_at = eqb-false _ _ (not-true _ e.1);
      no_hash = eqb-false _ _ (not-true _ f.1);
    }

pub visible_is_word : (word : List ℕ) → list_any is_control word ≡ false → is_word word ≡ true
visible_is_word [] h = refl
visible_is_word (b ∷ bs) h =
    let both = or_parts (is_control b) (list_any is_control bs) h in
    let large : 0x21 ≤ b = ltb-false _ _ (or_parts (ltb b 0x21) (eqb b 0x7F) both.0).0 in
    and_from _ _ (not_from_false _ (or_from _ _ (ne_eqb b 32 (λ (e : b ≡ 32). omega arith)) (ne_eqb b 10 (λ (e : b ≡ 10). omega arith)))) (visible_is_word bs both.1)

-- an id holds no space and no line feed
pub is_word-id : (word : List ℕ) → IsId word → is_word word ≡ true
is_word-id word h = visible_is_word word (IsId-form word h).visible
