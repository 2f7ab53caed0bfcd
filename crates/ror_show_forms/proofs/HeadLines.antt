-- The line that says which answer is meant, both ways, and how it begins.
use Rattle.std.proofs.Common.{◌≡◌, ℕ, ◌<◌, ◌+◌, ◌^◌, true, List, [], ◌∷◌, ◌++◌, length, map, drop, Result, Ok, refl, sym, ap, subst, ◌∙◌, append_assoc, arith}
use Rattle.std.specs.Prelude.{codes}
use Rattle.std.specs.Fmt.{decimal}
use Rattle.std.specs.List.{AllByRecursion}
use Rattle.std.proofs.lemmas.Bool.{and_from}
use Rattle.std.proofs.lemmas.List.{append-nil}
use Rattle.ror_text.specs.Cursor.{Cursor, line_words}
use Rattle.ror_text.specs.Numbers.{small_number_of}
use Rattle.ror_text.specs.Reading.{◌>>=◌}
use Rattle.ror_text.specs.SpacedLines.{is_word, are_words, join_words, line_text}
use Rattle.ror_text.proofs.CursorLemmas.{Spans, line_spans}
use Rattle.ror_text.proofs.NumberLemmas.{is_word-decimal, small_number_of-decimal, small_number_of-sound, decimal_some}
use Rattle.ror_text.proofs.ReadingLemmas.{bind_ok}
use Rattle.ror_proof.specs.declared.read.ProofFault.{ProofFault}
use Rattle.ror_proof.specs.Printing.{spaced}
use Rattle.ror_proof.specs.Words.{after_word, number_in, small_number_at}
use Rattle.ror_proof.proofs.PrintLemmas.{line_made, more_words}
use Rattle.ror_proof.proofs.WordLemmas.{ok_is, after_word_again, after_word_sound, small_number_again, small_number_sound, number_again, number_sound, all_again, all_sound}
use Rattle.ror_report.proofs.LineForms.{line_reads_back, line_is_read}
use Rattle.ror_show_forms.specs.CertificateText.{head_text}
use Rattle.ror_show_forms.specs.Reading.{small_numbers_at, head_words, head_line}

abbrev pub IsSmall : ℕ → Type 0
IsSmall n = n < 2 ^ 32

-- ---- what is printed

pub head_made : (line place : ℕ) (numbers start begun listed text : List ℕ) → begun ≡ start ++ join_words (codes "reduct" ∷ decimal line ∷ decimal place ∷ []) → listed ≡ begun ++ spaced (map decimal numbers) → text ≡ listed ++ 10 ∷ [] → text ≡ start ++ head_text line place numbers
head_made line place numbers start begun listed text e f g =
    let opened : begun ≡ (start ++ codes "reduct") ++ spaced (decimal line ∷ decimal place ∷ []) = e ∙ split in
    let all = more_words (start ++ codes "reduct") begun listed (decimal line ∷ decimal place ∷ []) (map decimal numbers) opened f in
    g ∙ line_made start (start ++ codes "reduct") listed (codes "reduct") (decimal line ∷ decimal place ∷ map decimal numbers) refl all
  where
    joined : (word : List ℕ) (next : List ℕ) → join_words (codes "reduct" ∷ word ∷ next ∷ []) ≡ codes "reduct" ++ spaced (word ∷ next ∷ [])
    joined word next = ap (λ (l : List ℕ). codes "reduct" ++ 32 ∷ (word ++ 32 ∷ l)) (sym (append-nil next))

    split : start ++ join_words (codes "reduct" ∷ decimal line ∷ decimal place ∷ []) ≡ (start ++ codes "reduct") ++ spaced (decimal line ∷ decimal place ∷ [])
    split = ap (λ (l : List ℕ). start ++ l) (joined (decimal line) (decimal place)) ∙ sym (append_assoc start (codes "reduct") (spaced (decimal line ∷ decimal place ∷ [])))

-- ---- numbers

numbers_are_words : (ns : List ℕ) → AllByRecursion IsSmall ns → are_words (map decimal ns) ≡ true
numbers_are_words [] small = refl
numbers_are_words (n ∷ ns) small = and_from _ _ (is_word-decimal n (omega (arith, small.0))) (numbers_are_words ns small.1)

one_again : (place n : ℕ) → IsSmall n → number_in small_number_of place (decimal n) ≡ Ok n
one_again place n small = number_again small_number_of place (decimal n) n (decimal_some n (omega arith)) (small_number_of-decimal n small)

pub numbers_again : (place : ℕ) (ns : List ℕ) → AllByRecursion IsSmall ns → small_numbers_at place (map decimal ns) ≡ Ok ns
numbers_again place ns small = all_again (number_in small_number_of place) decimal IsSmall (one_again place) ns small

pub numbers_sound : (place : ℕ) (words : List (List ℕ)) (ns : List ℕ) → small_numbers_at place words ≡ Ok ns → (words ≡ map decimal ns) × AllByRecursion IsSmall ns
numbers_sound place words ns e = all_sound (number_in small_number_of place) decimal IsSmall (λ word n one. small_number_of-sound word n (number_sound small_number_of place word n one)) words ns e

-- ---- the words

abbrev pub spelt : ℕ × ℕ × List ℕ → List (List ℕ)
spelt h = decimal h.0 ∷ decimal h.1 ∷ map decimal h.2

-- the numbers are those of words
pub record IsHead (h : ℕ × ℕ × List ℕ) : Type 0 where
  pub line : IsSmall h.0
  pub place : IsSmall h.1
  pub numbers : AllByRecursion IsSmall h.2

spelt_are_words : (h : ℕ × ℕ × List ℕ) → IsHead h → are_words (codes "reduct" ∷ spelt h) ≡ true
spelt_are_words h is =
    and_from (is_word (codes "reduct")) _ refl (and_from _ _ (is_word-decimal h.0 (omega (arith, is.line))) (and_from _ _ (is_word-decimal h.1 (omega (arith, is.place))) (numbers_are_words h.2 is.numbers)))

pub head_words_again : (place : ℕ) (h : ℕ × ℕ × List ℕ) → IsHead h → head_words place (codes "reduct" ∷ spelt h) ≡ Ok h
unfolding head_words
head_words_again place h is =
    rw (
      after_word_again place (codes "reduct") (spelt h),
      small_number_again place h.0 (decimal h.1 ∷ map decimal h.2) is.line,
      small_number_again place h.1 (map decimal h.2) is.place,
      numbers_again place h.2 is.numbers,
    ) refl

abbrev pub numbered : ℕ → ℕ → List ℕ → Result (ℕ × ℕ × List ℕ) ProofFault
numbered line at numbers = Ok (line, at, numbers)

abbrev pub placed : ℕ → ℕ → ℕ × List (List ℕ) → Result (ℕ × ℕ × List ℕ) ProofFault
placed place line at = small_numbers_at place at.1 >>= λ numbers. numbered line at.0 numbers

abbrev pub lined : ℕ → ℕ × List (List ℕ) → Result (ℕ × ℕ × List ℕ) ProofFault
lined place line = small_number_at place line.1 >>= λ at. placed place line.0 at

pub head_words_sound : (place : ℕ) (words : List (List ℕ)) (h : ℕ × ℕ × List ℕ) → head_words place words ≡ Ok h → (words ≡ codes "reduct" ∷ spelt h) × IsHead h
unfolding head_words
head_words_sound place words h e =
    let a = bind_ok (after_word place (codes "reduct") words) (λ more. small_number_at place more >>= lined place) h e in
    let l = bind_ok (small_number_at place a.0) (lined place) h a.2 in
    let p = bind_ok (small_number_at place l.0.1) (placed place l.0.0) h l.2 in
    let n = bind_ok (small_numbers_at place p.0.1) (numbered l.0.0 p.0.0) h p.2 in
    let line = small_number_sound place a.0 l.0 l.1 in
    let at = small_number_sound place l.0.1 p.0 p.1 in
    let numbers = numbers_sound place p.0.1 n.0 n.1 in
    let text : words ≡ codes "reduct" ∷ spelt (l.0.0, p.0.0, n.0) =
    after_word_sound place (codes "reduct") words a.0 a.1
    ∙ ap (λ (ws : List (List ℕ)). codes "reduct" ∷ ws) line.0
    ∙ ap (λ (ws : List (List ℕ)). codes "reduct" ∷ decimal l.0.0 ∷ ws) at.0
    ∙ ap (λ (ws : List (List ℕ)). codes "reduct" ∷ decimal l.0.0 ∷ decimal p.0.0 ∷ ws) numbers.0 in
    subst (λ (g : ℕ × ℕ × List ℕ). (words ≡ codes "reduct" ∷ spelt g) × IsHead g) (ok_is (l.0.0, p.0.0, n.0) h n.2) (text, record { line = line.1; place = at.1; numbers = numbers.1 })

-- ---- the line

pub head_again : (place : ℕ) (h : ℕ × ℕ × List ℕ) (rest : List ℕ) → IsHead h → head_line (record { place = place; rest = head_text h.0 h.1 h.2 ++ rest }) ≡ Ok (h, record { place = place + length (head_text h.0 h.1 h.2); rest = rest })
head_again place h rest is = line_reads_back head_words h place (codes "reduct") (spelt h) rest (spelt_are_words h is) (head_words_again place h is)

pub head_sound : (c : Cursor) (x : (ℕ × ℕ × List ℕ) × Cursor) → head_line c ≡ Ok x → Spans c (head_text x.0.0 x.0.1 x.0.2) x.1 × IsHead x.0
head_sound c x e =
    let line = line_is_read c (head_words c.place (line_words c)) x e in
    let words = head_words_sound c.place (line_words c) x.0 line.0 in
    (line_spans c x.1 (codes "reduct" ∷ spelt x.0) words.0 line.1, words.1)

pub head_begins : (line place : ℕ) (numbers : List ℕ) → (more : List ℕ) × (head_text line place numbers ≡ codes "reduct " ++ more)
unfolding line_text
head_begins line place numbers = (drop 7 (head_text line place numbers), refl)
