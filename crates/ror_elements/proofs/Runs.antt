-- Reading bytes of one kind, and comments, instructions and sections.
use Rattle.std.proofs.Common.{◌≡◌, ℕ, ◌+◌, ◌-◌, Bool, true, false, List, [], ◌∷◌, ◌++◌, append_assoc, append-nil, length, length-append, take, Ok, refl, sym, ap, subst, ◌∙◌, arith, inl, inr}
use Rattle.std.specs.Prelude.{◌==◌, ◌&&◌, if◌then◌else◌}
use Rattle.std.specs.List.{AllByRecursion}
use Rattle.std.proofs.Math.Seq.{take-append_seam}
use Rattle.std.proofs.lemmas.Bool.{cases_Bool, eqb-true, false_from_ne_true, true≢false}
use Rattle.std.proofs.lemmas.List.Recursion.{is_count_by}
use Rattle.ror_text.specs.Lines.{is_line_end}
use Rattle.ror_text.proofs.ReadingLemmas.{bind-at_ok}
use Rattle.ror_elements.specs.declared.mode.Mode.{Mode}
use Rattle.ror_elements.specs.declared.mode.Mode.TheVariants as modes
use Rattle.ror_elements.specs.declared.mode.Seen.{Seen}
use Rattle.ror_elements.specs.declared.mode.Seen.TheVariants as seen
use Rattle.ror_elements.specs.declared.open.Open.{Open}
use Rattle.ror_elements.specs.declared.reader.Reader.{Reader}
use Rattle.ror_elements.specs.Elements.{line_after}
use Rattle.ror_elements.specs.Grammar.{IsUpTo, IsComment, IsInstruction, IsSection, IsPassedOver, line_behind}
use Rattle.ror_elements.specs.Mode.{is_ended_by, seen_after, one_more}
use Rattle.ror_elements.specs.Reader.{add_text, in_content, in_markup, in_exclamation, in_beginning, begin, in_comment, in_section, without_brackets, in_instruction}
use Rattle.ror_elements.proofs.LawLemmas.{ends, line_step}
use Rattle.ror_elements.proofs.PlainReader.{plain, run}

-- ---- lines

abbrev pub line_at : ℕ → List ℕ → ℕ
line_at line [] = line
line_at line (byte ∷ bytes) = line_at (line_after line byte) bytes

pub line_at-append : (line : ℕ) (xs ys : List ℕ) → line_at line (xs ++ ys) ≡ line_at (line_at line xs) ys
line_at-append line [] ys = refl
line_at-append line (x ∷ xs) ys = line_at-append (line_after line x) xs ys

line_at-ends : (line : ℕ) (bytes : List ℕ) → line_at line bytes ≡ line + ends bytes
line_at-ends line [] = omega arith
line_at-ends line (byte ∷ bytes) = line_at-ends (line_after line byte) bytes ∙ line_step line byte (ends bytes)

pub line_at-is : (line : ℕ) (bytes : List ℕ) → line_at line bytes ≡ line_behind line bytes
line_at-is line bytes = line_at-ends line bytes ∙ ap (λ n. line + n) (is_count_by ends is_line_end refl (λ x xs. refl) bytes)

-- ---- runs

-- a reader in this mode, at this line, with these open elements, which is else like another
abbrev pub at : Mode → ℕ → Open → List Open → Reader → Reader
at mode line top below j = record j { mode = mode; line = line; top = top; below = below }

pub run_step : (r next : Reader) (byte : ℕ) (bytes : List ℕ) → plain r byte ≡ Ok next → run r (byte ∷ bytes) ≡ run next bytes
unfolding run
run_step r next byte bytes e = bind-at_ok (plain r byte) _ next e

-- bytes lead from a reader to one that is known but for what does not matter
abbrev pub Goes : Reader → List ℕ → (Reader → Reader) → Type 0
Goes r bytes target = (j : Reader) × ((rest : List ℕ) → run r (bytes ++ rest) ≡ run (target j) rest)

pub goes_on : (r : Reader) (xs ys : List ℕ) (middle target : Reader → Reader) → Goes r xs middle → ((j : Reader) → Goes (middle j) ys target) → Goes r (xs ++ ys) target
goes_on r xs ys middle target first second =
    let later = second first.0 in
    (later.0, λ rest. ap (run r) (append_assoc xs ys rest) ∙ first.1 (ys ++ rest) ∙ later.1 rest)

pub goes_to : (r : Reader) (xs : List ℕ) (target : Reader → Reader) (j : Reader) → ((rest : List ℕ) → run r (xs ++ rest) ≡ run (target j) rest) → Goes r xs target
goes_to r xs target j h = (j, h)

-- a byte in front
pub goes_step : (r next : Reader) (byte : ℕ) (bytes : List ℕ) (target : Reader → Reader) → plain r byte ≡ Ok next → Goes next bytes target → Goes r (byte ∷ bytes) target
goes_step r next byte bytes target e later = (later.0, λ rest. run_step r next byte (bytes ++ rest) e ∙ later.1 rest)

-- bytes of one kind are gathered
pub gather : (kind : ℕ → Bool) (state : ℕ → List ℕ → Reader) → ((line : ℕ) (piece : List ℕ) (byte : ℕ) → kind byte ≡ true → plain (state line piece) byte ≡ Ok (state (line_after line byte) (piece ++ byte ∷ [])))
    → (bytes : List ℕ) → AllByRecursion (λ byte. kind byte ≡ true) bytes → (line : ℕ) (piece rest : List ℕ) → run (state line piece) (bytes ++ rest) ≡ run (state (line_at line bytes) (piece ++ bytes)) rest
gather kind state step [] all line piece rest = ap (λ (p : List ℕ). run (state line p) rest) (sym (append-nil piece))
gather kind state step (byte ∷ bytes) all line piece rest =
    run_step (state line piece) (state (line_after line byte) (piece ++ byte ∷ [])) byte (bytes ++ rest) (step line piece byte all.0)
    ∙ gather kind state step bytes all.1 (line_after line byte) (piece ++ byte ∷ []) rest
    ∙ ap (λ (p : List ℕ). run (state (line_at (line_after line byte) bytes) p) rest) (append_assoc piece (byte ∷ []) bytes)

-- bytes of one kind change nothing
pub pass : (kind : ℕ → Bool) (state : ℕ → Reader) → ((line byte : ℕ) → kind byte ≡ true → plain (state line) byte ≡ Ok (state (line_after line byte)))
    → (bytes : List ℕ) → AllByRecursion (λ byte. kind byte ≡ true) bytes → (line : ℕ) (rest : List ℕ) → run (state line) (bytes ++ rest) ≡ run (state (line_at line bytes)) rest
pass kind state step [] all line rest = refl
pass kind state step (byte ∷ bytes) all line rest =
    run_step (state line) (state (line_after line byte)) byte (bytes ++ rest) (step line byte all.0) ∙ pass kind state step bytes all.1 (line_after line byte) rest

-- bytes of which one is of a kind and the other is not
pub apart : (kind : ℕ → Bool) (byte other : ℕ) → kind byte ≡ true → kind other ≡ false → (byte == other) ≡ false
apart kind byte other is lacks = false_from_ne_true (byte == other) (λ e. true≢false (sym is ∙ ap kind (eqb-true byte other e) ∙ lacks))

-- ---- up to a mark

pub drop_front : (mark front bytes : List ℕ) → IsUpTo mark (front ++ bytes) → IsUpTo mark bytes
drop_front mark front bytes h = λ before more e.
    h (front ++ before) more (append_assoc front bytes mark ∙ ap (λ (xs : List ℕ). front ++ xs) e ∙ sym (append_assoc front before (mark ++ more)))

not_nothing : (bytes : List ℕ) (x : ℕ) (xs : List ℕ) → ¬ (bytes ++ x ∷ xs ≡ [])
not_nothing [] x xs e = absurd cc
not_nothing (y ∷ ys) x xs e = absurd cc

-- what was seen of the mark
abbrev pub seen_marks : Seen → ℕ → List ℕ
seen_marks seen.Nothing mark = []
seen_marks seen.One mark = mark ∷ []
seen_marks seen.Two mark = mark ∷ mark ∷ []

abbrev pub closing_mark : ℕ → List ℕ
closing_mark mark = mark ∷ mark ∷ 62 ∷ []

pub goes_past : (mark : ℕ) (s : Seen) (byte : ℕ) (bytes : List ℕ) → IsUpTo (closing_mark mark) (seen_marks s mark ++ byte ∷ bytes) → is_ended_by s byte ≡ false
goes_past mark seen.Nothing byte bytes h = refl
goes_past mark seen.One byte bytes h = refl
goes_past mark seen.Two byte bytes h = false_from_ne_true (byte == 62) (λ e.
    let is : byte ≡ 62 = eqb-true byte 62 e in
    not_nothing bytes mark (mark ∷ 62 ∷ []) (h [] (bytes ++ closing_mark mark) (ap (λ n. mark ∷ mark ∷ n ∷ (bytes ++ closing_mark mark)) is)))

pub seen_goes : (mark : ℕ) (s : Seen) (byte : ℕ) (bytes : List ℕ) → IsUpTo (closing_mark mark) (seen_marks s mark ++ byte ∷ bytes) → IsUpTo (closing_mark mark) (seen_marks (seen_after s mark byte) mark ++ bytes)
seen_goes mark s byte bytes h = elim (cases_Bool (byte == mark)) [
  | inl hit ↦ rw hit (more s (subst (λ n. IsUpTo (closing_mark mark) (seen_marks s mark ++ n ∷ bytes)) (eqb-true byte mark hit) h))
  | inr miss ↦ rw miss (drop_front (closing_mark mark) (seen_marks s mark ++ byte ∷ []) bytes (subst (λ (xs : List ℕ). IsUpTo (closing_mark mark) xs) (sym (append_assoc (seen_marks s mark) (byte ∷ []) bytes)) h))
]
  where
    more : (s : Seen) → IsUpTo (closing_mark mark) (seen_marks s mark ++ mark ∷ bytes) → IsUpTo (closing_mark mark) (seen_marks (one_more s) mark ++ bytes)
    more seen.Nothing h = h
    more seen.One h = h
    more seen.Two h = drop_front (closing_mark mark) (mark ∷ []) (mark ∷ mark ∷ bytes) h

-- ---- comments

in_comment-run : (bytes : List ℕ) (s : Seen) (line : ℕ) (top : Open) (below : List Open) (j : Reader) (rest : List ℕ) → IsUpTo (closing_mark 45) (seen_marks s 45 ++ bytes)
    → run (at (modes.Comment s) line top below j) (bytes ++ 45 ∷ 45 ∷ 62 ∷ rest) ≡ run (at modes.Content (line_at line bytes) top below j) rest
unfolding run plain in_comment
in_comment-run [] seen.Nothing line top below j rest h = refl
in_comment-run [] seen.One line top below j rest h = refl
in_comment-run [] seen.Two line top below j rest h = refl
in_comment-run (byte ∷ bytes) s line top below j rest h =
    run_step (at (modes.Comment s) line top below j) (at (modes.Comment (seen_after s 45 byte)) (line_after line byte) top below j) byte (bytes ++ 45 ∷ 45 ∷ 62 ∷ rest) (rw (goes_past 45 s byte bytes h) refl)
    ∙ in_comment-run bytes (seen_after s 45 byte) (line_after line byte) top below j rest (seen_goes 45 s byte bytes h)

-- the line behind bytes that hold no line end
line_before : (line : ℕ) (bytes mark : List ℕ) → ((l : ℕ) → line_at l mark ≡ l) → line_at line bytes ≡ line_at line (bytes ++ mark)
line_before line bytes mark h = sym (line_at-append line bytes mark ∙ h (line_at line bytes))

-- behind `<`
pub comment-goes : (bytes : List ℕ) → IsComment bytes → (line : ℕ) (top : Open) (below : List Open) (j : Reader) → Goes (at modes.Content line top below j) bytes (at modes.Content (line_at line bytes) top below)
unfolding run plain in_content in_markup in_exclamation in_beginning begin
comment-goes bytes (IsComment.comment inside h) line top below j = (
  record j { start = line },
  λ rest.
      ap (λ (xs : List ℕ). run (at (modes.Comment seen.Nothing) line top below (record j { start = line })) xs) (append_assoc inside (45 ∷ 45 ∷ 62 ∷ []) rest)
      ∙ in_comment-run inside seen.Nothing line top below (record j { start = line }) rest h
      ∙ ap (λ l. run (at modes.Content l top below (record j { start = line })) rest) (line_before line inside (45 ∷ 45 ∷ 62 ∷ []) (λ l. refl)),
)

-- ---- instructions

abbrev pub seen_question : Bool → List ℕ
seen_question false = []
seen_question true = 63 ∷ []

abbrev pub question_end : List ℕ
question_end = 63 ∷ 62 ∷ []

pub question_past : (q : Bool) (byte : ℕ) (bytes : List ℕ) → IsUpTo question_end (seen_question q ++ byte ∷ bytes) → (q && byte == 62) ≡ false
question_past false byte bytes h = refl
question_past true byte bytes h = false_from_ne_true (byte == 62) (λ e.
    not_nothing bytes 63 (62 ∷ []) (h [] (bytes ++ question_end) (ap (λ n. 63 ∷ n ∷ (bytes ++ question_end)) (eqb-true byte 62 e))))

pub question_goes : (q : Bool) (byte : ℕ) (bytes : List ℕ) → IsUpTo question_end (seen_question q ++ byte ∷ bytes) → IsUpTo question_end (seen_question (byte == 63) ++ bytes)
question_goes q byte bytes h = elim (cases_Bool (byte == 63)) [
  | inl hit ↦ rw hit (subst (λ n. IsUpTo question_end (n ∷ bytes)) (eqb-true byte 63 hit) (drop_front question_end (seen_question q) (byte ∷ bytes) h))
  | inr miss ↦ rw miss (drop_front question_end (seen_question q ++ byte ∷ []) bytes (subst (λ (xs : List ℕ). IsUpTo question_end xs) (sym (append_assoc (seen_question q) (byte ∷ []) bytes)) h))
]

in_instruction-run : (bytes : List ℕ) (q : Bool) (line : ℕ) (top : Open) (below : List Open) (j : Reader) (rest : List ℕ) → IsUpTo question_end (seen_question q ++ bytes)
    → run (at (modes.Instruction q) line top below j) (bytes ++ 63 ∷ 62 ∷ rest) ≡ run (at modes.Content (line_at line bytes) top below j) rest
unfolding run plain in_instruction
in_instruction-run [] false line top below j rest h = refl
in_instruction-run [] true line top below j rest h = refl
in_instruction-run (byte ∷ bytes) q line top below j rest h =
    run_step (at (modes.Instruction q) line top below j) (at (modes.Instruction (byte == 63)) (line_after line byte) top below j) byte (bytes ++ 63 ∷ 62 ∷ rest) (rw (question_past q byte bytes h) refl)
    ∙ in_instruction-run bytes (byte == 63) (line_after line byte) top below j rest (question_goes q byte bytes h)

pub instruction-goes : (bytes inside : List ℕ) → IsInstruction bytes inside → (line : ℕ) (top : Open) (below : List Open) (j : Reader) → Goes (at modes.Content line top below j) bytes (at modes.Content (line_at line bytes) top below)
unfolding run plain in_content in_markup
instruction-goes bytes inside (IsInstruction.instruction within h) line top below j = (
  record j { start = line },
  λ rest.
      ap (λ (xs : List ℕ). run (at (modes.Instruction false) line top below (record j { start = line })) xs) (append_assoc within question_end rest)
      ∙ in_instruction-run within false line top below (record j { start = line }) rest h
      ∙ ap (λ l. run (at modes.Content l top below (record j { start = line })) rest) (line_before line within question_end (λ l. refl)),
)

pub passed_over-goes : (bytes : List ℕ) → IsPassedOver bytes → (line : ℕ) (top : Open) (below : List Open) (j : Reader) → Goes (at modes.Content line top below j) bytes (at modes.Content (line_at line bytes) top below)
passed_over-goes bytes (IsPassedOver.comment same h) line top below j = comment-goes bytes h line top below j
passed_over-goes bytes (IsPassedOver.instruction same inside h) line top below j = instruction-goes bytes inside h line top below j

-- ---- sections

-- an open element with more text
abbrev pub with_text : Open → List ℕ → Open
with_text top text = if top.kept then record top { text = top.text ++ text } else top

pub take_front : (text : List ℕ) → take (length ((text ++ 93 ∷ []) ++ 93 ∷ []) - 2) ((text ++ 93 ∷ []) ++ 93 ∷ []) ≡ text
take_front text =
    let whole : (text ++ 93 ∷ []) ++ 93 ∷ [] ≡ text ++ 93 ∷ 93 ∷ [] = append_assoc text (93 ∷ []) (93 ∷ []) in
    let count : length (text ++ 93 ∷ 93 ∷ []) - 2 ≡ length text = omega (arith, length-append text (93 ∷ 93 ∷ [])) in
    rw whole (rw count (take-append_seam text (93 ∷ 93 ∷ [])))

kept_section-run : (bytes : List ℕ) (s : Seen) (line : ℕ) (top : Open) (text : List ℕ) (below : List Open) (j : Reader) (rest : List ℕ) → IsUpTo (closing_mark 93) (seen_marks s 93 ++ bytes)
    → run (at (modes.Section s) line (record top { kept = true; text = text }) below j) (bytes ++ 93 ∷ 93 ∷ 62 ∷ rest) ≡ run (at modes.Content (line_at line bytes) (record top { kept = true; text = text ++ bytes }) below j) rest
unfolding run plain in_section add_text without_brackets
kept_section-run [] seen.Nothing line top text below j rest h = ap (λ (t : List ℕ). run (at modes.Content line (record top { kept = true; text = t }) below j) rest) (take_front text ∙ sym (append-nil text))
kept_section-run [] seen.One line top text below j rest h = ap (λ (t : List ℕ). run (at modes.Content line (record top { kept = true; text = t }) below j) rest) (take_front text ∙ sym (append-nil text))
kept_section-run [] seen.Two line top text below j rest h = ap (λ (t : List ℕ). run (at modes.Content line (record top { kept = true; text = t }) below j) rest) (take_front text ∙ sym (append-nil text))
kept_section-run (byte ∷ bytes) s line top text below j rest h =
    run_step (at (modes.Section s) line (record top { kept = true; text = text }) below j) (at (modes.Section (seen_after s 93 byte)) (line_after line byte) (record top { kept = true; text = text ++ byte ∷ [] }) below j) byte (bytes ++ 93 ∷ 93 ∷ 62 ∷ rest)
    (rw (goes_past 93 s byte bytes h) refl)
    ∙ kept_section-run bytes (seen_after s 93 byte) (line_after line byte) top (text ++ byte ∷ []) below j rest (seen_goes 93 s byte bytes h)
    ∙ ap (λ (t : List ℕ). run (at modes.Content (line_at (line_after line byte) bytes) (record top { kept = true; text = t }) below j) rest) (append_assoc text (byte ∷ []) bytes)

lost_section-run : (bytes : List ℕ) (s : Seen) (line : ℕ) (top : Open) (below : List Open) (j : Reader) (rest : List ℕ) → IsUpTo (closing_mark 93) (seen_marks s 93 ++ bytes)
    → run (at (modes.Section s) line (record top { kept = false }) below j) (bytes ++ 93 ∷ 93 ∷ 62 ∷ rest) ≡ run (at modes.Content (line_at line bytes) (record top { kept = false }) below j) rest
unfolding run plain in_section add_text without_brackets
lost_section-run [] seen.Nothing line top below j rest h = refl
lost_section-run [] seen.One line top below j rest h = refl
lost_section-run [] seen.Two line top below j rest h = refl
lost_section-run (byte ∷ bytes) s line top below j rest h =
    run_step (at (modes.Section s) line (record top { kept = false }) below j) (at (modes.Section (seen_after s 93 byte)) (line_after line byte) (record top { kept = false }) below j) byte (bytes ++ 93 ∷ 93 ∷ 62 ∷ rest)
    (rw (goes_past 93 s byte bytes h) refl)
    ∙ lost_section-run bytes (seen_after s 93 byte) (line_after line byte) top below j rest (seen_goes 93 s byte bytes h)

in_section-run : (kept : Bool) (bytes : List ℕ) (line : ℕ) (top : Open) (below : List Open) (j : Reader) (rest : List ℕ) → IsUpTo (closing_mark 93) bytes
    → run (at (modes.Section seen.Nothing) line (record top { kept = kept }) below j) (bytes ++ 93 ∷ 93 ∷ 62 ∷ rest) ≡ run (at modes.Content (line_at line bytes) (with_text (record top { kept = kept }) bytes) below j) rest
in_section-run true bytes line top below j rest h = kept_section-run bytes seen.Nothing line top top.text below j rest h
in_section-run false bytes line top below j rest h = lost_section-run bytes seen.Nothing line top below j rest h

pub section-goes : (bytes inside : List ℕ) → IsSection bytes inside → (line : ℕ) (top around : Open) (outer : List Open) (j : Reader) → Goes (at modes.Content line top (around ∷ outer) j) bytes (at modes.Content (line_at line bytes) (with_text top inside) (around ∷ outer))
unfolding run plain in_content in_markup in_exclamation in_beginning begin
section-goes bytes inside (IsSection.section within h) line top around outer j = (
  record j { start = line },
  λ rest.
      ap (λ (xs : List ℕ). run (at (modes.Section seen.Nothing) line top (around ∷ outer) (record j { start = line })) xs) (append_assoc within (closing_mark 93) rest)
      ∙ in_section-run top.kept within line top (around ∷ outer) (record j { start = line }) rest h
      ∙ ap (λ l. run (at modes.Content l (with_text top within) (around ∷ outer) (record j { start = line })) rest) (line_before line within (closing_mark 93) (λ l. refl)),
)
