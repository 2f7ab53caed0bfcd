-- The first line as text, both ways, and of which fault another one is refused; and where the line of a desk is read.
use Rattle.std.proofs.Common.{◌≡◌, ℕ, true, not, List, [], ◌∷◌, length, drop, Result, Ok, Err, refl, sym, ap, subst, ◌∙◌, inl, inr}
use Rattle.std.specs.Prelude.{codes, nat_eq}
use Rattle.std.specs.List.{starts_with}
use Rattle.std.specs.Str.{IsUtf8}
use Rattle.std.proofs.lemmas.Bool.{not-false}
use Rattle.ror_text.specs.Cursor.{Cursor, cursor_at, line_words}
use Rattle.ror_text.specs.Reading.{refuse}
use Rattle.ror_text.proofs.CursorLemmas.{Spans, line_spans}
use Rattle.ror_text.proofs.ReadingLemmas.{bind_ok, bind_err, refuse_ok, refuse_err}
use Rattle.ror_proof.specs.declared.read.ProofFault.{ProofFault}
use Rattle.ror_proof.specs.declared.read.ProofFault.TheVariants.{BadLine}
use Rattle.ror_proof.specs.Reading.{ended}
use Rattle.ror_proof.proofs.AnswerLemmas.{ended_sound}
use Rattle.ror_proof.proofs.Utf8Lemmas.{ascii_is_utf8, line_text_is_utf8}
use Rattle.ror_proof.proofs.WordFaults.{no_fault}
use Rattle.ror_proof.proofs.WordLemmas.{done, ok_is}
use Rattle.ror_report.specs.Desk.{desk_words, desk_text, name_words, desk_line}
use Rattle.ror_report.proofs.DeskLemmas.{dropped, begun, begins_split, name_words_again, name_words_sound, desk_err}
use Rattle.ror_discriminate.specs.Head.{header_text, header_at, IsHeaderText, HeadersAreTheirTexts, IsDeskLine}

-- ---- the first line

header_again : (bytes : List ℕ) (after : Cursor) → IsHeaderText bytes after → header_at bytes ≡ Ok after
unfolding header_at
header_again bytes after is =
    let n = length header_text in
    let begins : starts_with nat_eq bytes header_text ≡ true = ap (λ (l : List ℕ). starts_with nat_eq l header_text) is.text ∙ begun header_text after.rest in
    let rest : drop n bytes ≡ after.rest = ap (drop n) is.text ∙ dropped header_text after.rest in
    let to : cursor_at bytes n ≡ after = ap (λ (l : List ℕ). record { place = n; rest = l }) rest ∙ ap (λ (m : ℕ). record { place = m; rest = after.rest }) (sym is.place) in
    rw begins (ap (λ (c : Cursor). Ok c) to)

header_is_text : (bytes : List ℕ) (after : Cursor) → header_at bytes ≡ Ok after → IsHeaderText bytes after
unfolding header_at
header_is_text bytes after e =
    let a = bind_ok (refuse (BadLine 0) (not (starts_with nat_eq bytes header_text))) (λ _. done (cursor_at bytes (length header_text))) after e in
    let begins = not-false _ (refuse_ok _ _ a.0 a.1) in
    subst (IsHeaderText bytes) (ok_is (cursor_at bytes (length header_text)) after a.2) (record { text = begins_split bytes header_text begins; place = refl })

header_err : (bytes : List ℕ) (f : ProofFault) → header_at bytes ≡ Err f → ((after : Cursor) → IsHeaderText bytes after → ⊥) × (f ≡ BadLine 0)
unfolding header_at
header_err bytes f e =
    elim (bind_err (refuse (BadLine 0) (not (starts_with nat_eq bytes header_text))) (λ _. done (cursor_at bytes (length header_text))) f e) [
      | inl here ↦ ((λ after is. no_fault after f (sym (header_again bytes after is) ∙ e)), (refuse_err (BadLine 0) f _ here).1)
      | inr none ↦ absurd (no_fault _ f none.2)
    ]

header_fails_by : (bytes : List ℕ) (r : Result Cursor ProofFault) → header_at bytes ≡ r → ((after : Cursor) → IsHeaderText bytes after → ⊥) → r ≡ Err (BadLine 0)
header_fails_by bytes (Ok after) e none = absurd (none after (header_is_text bytes after e))
header_fails_by bytes (Err f) e none = ap (λ (g : ProofFault). Err g) (header_err bytes f e).1

pub headers_are_texts : HeadersAreTheirTexts
headers_are_texts = record {
  read = λ bytes after. (header_is_text bytes after, header_again bytes after);
  refused = λ bytes fault. (header_err bytes fault, λ none. header_fails_by bytes (header_at bytes) refl none.0 ∙ ap (λ (g : ProofFault). Err g) (sym none.1));
}

pub header_is_utf8 : IsUtf8 header_text
unfolding header_text
header_is_utf8 = line_text_is_utf8 (codes "ror-discriminate" ∷ codes "1" ∷ []) (ascii_is_utf8 (codes "ror-discriminate") refl, (ascii_is_utf8 (codes "1") refl, tt))

-- ---- the line of a desk

pub desk_sound : (c : Cursor) (x : List ℕ × Cursor) → desk_line c ≡ Ok x → IsDeskLine c x.0 x.1
desk_sound c x e =
    let read = ended_sound c (name_words c.place (line_words c)) x e in
    let said = name_words_sound c.place (line_words c) x.0 read.words in
    record { words = said.0; named = said.1; ended = read.line }

pub desk_spans : (c : Cursor) (name : List ℕ) (after : Cursor) → IsDeskLine c name after → Spans c (desk_text name) after
desk_spans c name after line = line_spans c after (desk_words name) line.words line.ended

pub desk_goes : (c : Cursor) (name : List ℕ) (after : Cursor) → IsDeskLine c name after → desk_line c ≡ Ok (name, after)
unfolding ended
desk_goes c name after line =
    let read : name_words c.place (line_words c) ≡ Ok name = ap (name_words c.place) line.words ∙ name_words_again c.place name line.named in
    let next = line.ended in
    rw (read, next) refl

pub no_desk : (c : Cursor) (f : ProofFault) → desk_line c ≡ Err f → (name : List ℕ) (after : Cursor) → IsDeskLine c name after → ⊥
no_desk c f e name after line = no_fault (name, after) f (sym (desk_goes c name after line) ∙ e)

desk_fails_by : (c : Cursor) (r : Result (List ℕ × Cursor) ProofFault) → desk_line c ≡ r → ((name : List ℕ) (after : Cursor) → IsDeskLine c name after → ⊥) → r ≡ Err (BadLine c.place)
desk_fails_by c (Ok x) e none = absurd (none x.0 x.1 (desk_sound c x e))
desk_fails_by c (Err f) e none = ap (λ (g : ProofFault). Err g) (desk_err c f e)

pub desk_fails : (c : Cursor) → ((name : List ℕ) (after : Cursor) → IsDeskLine c name after → ⊥) → desk_line c ≡ Err (BadLine c.place)
desk_fails c none = desk_fails_by c (desk_line c) refl none
