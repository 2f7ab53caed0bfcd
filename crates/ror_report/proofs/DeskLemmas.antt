-- The line of a desk as text, both ways, and that another line is refused as a bad one; and bytes that begin with a text.
use Rattle.std.proofs.Common.{◌≡◌, ℕ, ◌+◌, true, false, not, eqb, ◌&&◌, List, [], ◌∷◌, ◌++◌, length, drop, Result, Ok, Err, refl, sym, ap, subst, ◌∙◌, arith, inl, inr}
use Rattle.std.specs.Prelude.{codes, nat_eq, nat_le}
use Rattle.std.specs.List.{list_any, starts_with}
use Rattle.std.specs.Str.{bytes_eq, is_utf8, IsUtf8}
use Rattle.std.proofs.lemmas.Bool.{cases_Bool, cond-true, cond-false, and_from, and_parts, ne_eqb, not-true, not-false, or_parts}
use Rattle.std.proofs.lemmas.Bool.Decides.{Decides-eqb}
use Rattle.std.proofs.lemmas.Str.{IsUtf8-nil, IsUtf8-from_is_utf8, is_utf8-from_IsUtf8}
use Rattle.std.proofs.lemmas.Slice.Eq.{starts_is}
use Rattle.ror_text.specs.Cursor.{Cursor, line_words, line_after}
use Rattle.ror_text.specs.Lines.{is_control, has_control}
use Rattle.ror_text.specs.Reading.{◌>>=◌, refuse, need}
use Rattle.ror_text.specs.SpacedLines.{is_word, are_words}
use Rattle.ror_text.proofs.IdLemmas.{visible_is_word}
use Rattle.ror_text.proofs.ReadingLemmas.{bind_ok, bind_err, refuse_ok, refuse_err, need_err}
use Rattle.ror_session.specs.declared.limits.TheConstants.{MOST_DESK_NAME_BYTES}
use Rattle.ror_proof.specs.declared.read.ProofFault.{ProofFault}
use Rattle.ror_proof.specs.declared.read.ProofFault.TheVariants.{BadLine}
use Rattle.ror_proof.specs.Reading.{ended}
use Rattle.ror_proof.specs.Words.{after_word, no_more}
use Rattle.ror_proof.proofs.AnswerLemmas.{ended_again}
use Rattle.ror_proof.proofs.Utf8Lemmas.{ascii_is_utf8, line_text_is_utf8}
use Rattle.ror_proof.proofs.WordFaults.{no_fault}
use Rattle.ror_proof.proofs.WordLemmas.{after_word_again, after_word_sound, no_more_sound, done, ok_is}
use Rattle.ror_report.specs.Desk.{desk_words, desk_text, is_desk_name, name_in, name_words, desk_line}

-- ---- bytes that begin with a text

pub dropped : (front more : List ℕ) → drop (length front) (front ++ more) ≡ more
dropped [] more = refl
dropped (b ∷ bs) more = dropped bs more

pub begun : (front more : List ℕ) → starts_with nat_eq (front ++ more) front ≡ true
begun front more = (starts_is Decides-eqb (front ++ more) front (starts_with nat_eq (front ++ more) front) refl).1 more refl

pub begins_split : (bytes front : List ℕ) → starts_with nat_eq bytes front ≡ true → bytes ≡ front ++ drop (length front) bytes
begins_split bytes front begins = (starts_is Decides-eqb bytes front (starts_with nat_eq bytes front) refl).0 begins

-- ---- names

pub name_is_word : (name : List ℕ) → is_desk_name name ≡ true → is_word name ≡ true
name_is_word name is =
    let parts = and_parts (nat_le (length name) MOST_DESK_NAME_BYTES && not (has_control (name ∷ []))) (is_utf8 name) is in
    let visible = not-true _ (and_parts (nat_le (length name) MOST_DESK_NAME_BYTES) (not (has_control (name ∷ []))) parts.0).1 in
    visible_is_word name (or_parts (list_any is_control name) false visible).0

pub name_is_utf8 : (name : List ℕ) → is_desk_name name ≡ true → IsUtf8 name
name_is_utf8 name is = IsUtf8-from_is_utf8 name (and_parts (nat_le (length name) MOST_DESK_NAME_BYTES && not (has_control (name ∷ []))) (is_utf8 name) is).1

pub desk_is_utf8 : (name : List ℕ) → is_desk_name name ≡ true → IsUtf8 (desk_text name)
desk_is_utf8 [] is = line_text_is_utf8 (codes "desk" ∷ []) (ascii_is_utf8 (codes "desk") refl, tt)
desk_is_utf8 (b ∷ bs) is = line_text_is_utf8 (codes "desk" ∷ (b ∷ bs) ∷ []) (ascii_is_utf8 (codes "desk") refl, (name_is_utf8 (b ∷ bs) is, tt))

nameless : is_desk_name [] ≡ true
nameless = let utf8 : is_utf8 [] ≡ true = is_utf8-from_IsUtf8 [] IsUtf8-nil in rw utf8 refl

-- ---- the words of a desk's line

pub name_words_again : (place : ℕ) (name : List ℕ) → is_desk_name name ≡ true → name_words place (desk_words name) ≡ Ok name
unfolding name_words name_in
name_words_again place [] is = rw (after_word_again place (codes "desk") []) refl
name_words_again place (b ∷ bs) is =
    let some : eqb (length (b ∷ bs)) 0 ≡ false = ne_eqb (length (b ∷ bs)) 0 (λ (e : length (b ∷ bs) ≡ 0). omega arith) in
    rw (after_word_again place (codes "desk") ((b ∷ bs) ∷ []), some, is) refl

abbrev named_after : ℕ → List ℕ → List (List ℕ) → Result (List ℕ) ProofFault
named_after place word more = no_more place more >>= λ _. done word

name_in_sound : (place : ℕ) (more : List (List ℕ)) (name : List ℕ) → name_in place more ≡ Ok name → (codes "desk" ∷ more ≡ desk_words name) × (is_desk_name name ≡ true)
unfolding name_in
name_in_sound place [] name e = subst (λ (n : List ℕ). (codes "desk" ∷ [] ≡ desk_words n) × (is_desk_name n ≡ true)) (ok_is [] name e) (refl, nameless)
name_in_sound place ([] ∷ more) name e = absurd cc
name_in_sound place ((b ∷ bs) ∷ more) name e =
    let word = b ∷ bs in
    let a = bind_ok (refuse (BadLine place) (eqb (length word) 0)) (λ _. refuse (BadLine place) (not (is_desk_name word)) >>= λ _. named_after place word more) name e in
    let d = bind_ok (refuse (BadLine place) (not (is_desk_name word))) (λ _. named_after place word more) name a.2 in
    let f = bind_ok (no_more place more) (λ _. done word) name d.2 in
    let is : is_desk_name word ≡ true = not-false _ (refuse_ok _ _ d.0 d.1) in
    let none : more ≡ [] = no_more_sound place more f.0 f.1 in
    subst (λ (n : List ℕ). (codes "desk" ∷ word ∷ more ≡ desk_words n) × (is_desk_name n ≡ true)) (ok_is word name f.2) (ap (λ (ws : List (List ℕ)). codes "desk" ∷ word ∷ ws) none, is)

pub name_words_sound : (place : ℕ) (ws : List (List ℕ)) (name : List ℕ) → name_words place ws ≡ Ok name → (ws ≡ desk_words name) × (is_desk_name name ≡ true)
unfolding name_words
name_words_sound place ws name e =
    let a = bind_ok (after_word place (codes "desk") ws) (λ more. name_in place more) name e in
    let said = name_in_sound place a.0 name a.2 in
    (after_word_sound place (codes "desk") ws a.0 a.1 ∙ said.0, said.1)

-- ---- the line of a desk

pub desk_again : (place : ℕ) (name rest : List ℕ) → is_desk_name name ≡ true → desk_line (record { place = place; rest = desk_text name ++ rest }) ≡ Ok (name, record { place = place + length (desk_text name); rest = rest })
desk_again place [] rest is = ended_again name_words place (codes "desk") [] rest [] refl (name_words_again place [] is)
desk_again place (b ∷ bs) rest is =
    let are : are_words (codes "desk" ∷ (b ∷ bs) ∷ []) ≡ true = and_from (is_word (codes "desk")) _ refl (and_from _ _ (name_is_word (b ∷ bs) is) refl) in
    ended_again name_words place (codes "desk") ((b ∷ bs) ∷ []) rest (b ∷ bs) are (name_words_again place (b ∷ bs) is)

-- ---- its fault

after_word_err : (place : ℕ) (word : List ℕ) (ws : List (List ℕ)) (f : ProofFault) → after_word place word ws ≡ Err f → f ≡ BadLine place
unfolding after_word
after_word_err place word [] f e = cc
after_word_err place word (w ∷ ws) f e =
    elim (cases_Bool (bytes_eq w word)) [
      | inl same ↦ absurd (no_fault ws f (sym (cond-true _ _ _ same) ∙ e))
      | inr other ↦ let at = sym (cond-false _ _ _ other) ∙ e in cc
    ]

no_more_err : (place : ℕ) (ws : List (List ℕ)) (f : ProofFault) → no_more place ws ≡ Err f → f ≡ BadLine place
no_more_err place [] f e = absurd cc
no_more_err place (w ∷ ws) f e = cc

name_in_err : (place : ℕ) (more : List (List ℕ)) (f : ProofFault) → name_in place more ≡ Err f → f ≡ BadLine place
unfolding name_in
name_in_err place [] f e = absurd (no_fault [] f e)
name_in_err place (word ∷ more) f e =
    elim (bind_err (refuse (BadLine place) (eqb (length word) 0)) (λ _. refuse (BadLine place) (not (is_desk_name word)) >>= λ _. named_after place word more) f e) [
      | inl here ↦ (refuse_err (BadLine place) f _ here).1
      | inr a ↦
          elim (bind_err (refuse (BadLine place) (not (is_desk_name word))) (λ _. named_after place word more) f a.2) [
            | inl here ↦ (refuse_err (BadLine place) f _ here).1
            | inr b ↦
                elim (bind_err (no_more place more) (λ _. done word) f b.2) [
                  | inl here ↦ no_more_err place more f here
                  | inr none ↦ absurd (no_fault _ f none.2)
                ]
          ]
    ]

name_words_err : (place : ℕ) (ws : List (List ℕ)) (f : ProofFault) → name_words place ws ≡ Err f → f ≡ BadLine place
unfolding name_words
name_words_err place ws f e = elim (bind_err (after_word place (codes "desk") ws) (λ more. name_in place more) f e) [
  | inl here ↦ after_word_err place (codes "desk") ws f here
  | inr a ↦ name_in_err place a.0 f a.2
]

pub desk_err : (c : Cursor) (f : ProofFault) → desk_line c ≡ Err f → f ≡ BadLine c.place
unfolding ended
desk_err c f e =
    elim (bind_err (name_words c.place (line_words c)) (λ value. need (BadLine c.place) (line_after c) >>= λ next. done (value, next)) f e) [
      | inl here ↦ name_words_err c.place (line_words c) f here
      | inr a ↦
          elim (bind_err (need (BadLine c.place) (line_after c)) (λ next. done (a.0, next)) f a.2) [
            | inl here ↦ (need_err (BadLine c.place) f (line_after c) here).1
            | inr none ↦ absurd (no_fault _ f none.2)
          ]
    ]
