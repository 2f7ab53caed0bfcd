-- A line of a base that stands once more is read as the same base.
use Rattle.std.proofs.Common.{◌≡◌, ℕ, ◌+◌, ◌-◌, ◌<◌, true, List, ◌∷◌, ◌++◌, length, take, drop, Ok, refl, sym, ap, ◌∙◌, arith}
use Rattle.std.specs.Prelude.{codes, nat_eq}
use Rattle.std.specs.List.{starts_with}
use Rattle.std.proofs.lemmas.Bool.Decides.{Decides-eqb}
use Rattle.std.proofs.lemmas.List.{take-append-le, take_all, drop-drop}
use Rattle.std.proofs.lemmas.Slice.Eq.{starts_is}
use Rattle.ror_text.specs.Cursor.{cursor_at}
use Rattle.ror_text.proofs.CursorLemmas.{length-line_text}
use Rattle.ror_proof.specs.declared.answer.Certificate.{Certificate}
use Rattle.ror_proof.specs.declared.base.BaseLine.{BaseLine}
use Rattle.ror_proof.specs.Text.{base_text, certificate_words}
use Rattle.ror_proof.specs.Reading.{base_line, IsBaseLine}
use Rattle.ror_proof.proofs.AnswerLemmas.{base_again, base_sound}

-- the bytes of the line
abbrev pub line_bytes : List ℕ → BaseLine → List ℕ
line_bytes bytes line = take (line.next - line.from) (drop line.from bytes)

front_of : (front rest : List ℕ) (n : ℕ) → n ≡ length front → take n (front ++ rest) ≡ front
front_of front rest n is = rw is (take-append-le (length front) front rest (omega arith) ∙ take_all (length front) front (omega arith))

pub repeats : (bytes : List ℕ) (line : BaseLine) (base : Certificate) (from : ℕ) → IsBaseLine bytes line base → starts_with nat_eq (drop from bytes) (line_bytes bytes line) ≡ true
    → (base_line (cursor_at bytes from) ≡ Ok (base, cursor_at bytes (from + length (line_bytes bytes line)))) × (0 < length (line_bytes bytes line))
repeats bytes line base from known stands =
    let sound = base_sound (cursor_at bytes line.from) (base, cursor_at bytes line.next) known.reads in
    let text = base_text base in
    let known_line = line_bytes bytes line in
    let rest = drop (length known_line) (drop from bytes) in
    let long : line.next - line.from ≡ length text = omega (arith, sound.0.place) in
    let is : known_line ≡ text = ap (λ (l : List ℕ). take (line.next - line.from) l) sound.0.rest ∙ front_of text (drop line.next bytes) (line.next - line.from) long in
    let here : drop from bytes ≡ text ++ rest = (starts_is Decides-eqb (drop from bytes) known_line (starts_with nat_eq (drop from bytes) known_line) refl).0 stands ∙ ap (λ (l : List ℕ). l ++ rest) is in
    let behind : rest ≡ drop (from + length known_line) bytes = drop-drop (length known_line) from bytes in
    let same : length text ≡ length known_line = ap length (sym is) in
    let read : base_line (cursor_at bytes from) ≡ Ok (base, record { place = from + length text; rest = rest }) = ap (λ (l : List ℕ). base_line (record { place = from; rest = l })) here ∙ base_again from base rest sound.1 in
    (read ∙ ap (λ (n : ℕ). Ok (base, record { place = from + n; rest = rest })) same ∙ ap (λ (l : List ℕ). Ok (base, record { place = from + length known_line; rest = l })) behind, omega (arith, same, length-line_text (codes "base" ∷ certificate_words base)))
