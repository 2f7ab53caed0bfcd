-- The line of a number too wide of one system, both ways, and its first faulty word.
use Rattle.std.proofs.Common.{◌≡◌, ℕ, ◌+◌, ◌<◌, ◌^◌, true, false, not, eqb, List, [], ◌∷◌, ◌++◌, length, drop, Some, Result, Ok, Err, refl, sym, ap, subst, ◌∙◌, arith, inl, inr}
use Rattle.std.specs.Prelude.{codes}
use Rattle.std.specs.Fmt.{decimal}
use Rattle.std.proofs.lemmas.Bool.{and_from, eqb-true, eq-eqb, false≢true, not-false, not-true}
use Rattle.ror_text.specs.Cursor.{Cursor, line_words}
use Rattle.ror_text.specs.Numbers.{small_number_of}
use Rattle.ror_text.specs.Reading.{◌>>=◌, refuse}
use Rattle.ror_text.specs.SpacedLines.{are_words}
use Rattle.ror_text.proofs.CursorLemmas.{Spans, line_spans}
use Rattle.ror_text.proofs.NumberLemmas.{is_word-decimal, decimal_some, small_number_of-decimal}
use Rattle.ror_text.proofs.ReadingLemmas.{bind_ok, bind_err, refuse_ok, refuse_err}
use Rattle.ror_table.specs.Table.{DecisionTable}
use Rattle.ror_proof.specs.declared.answer.WideText.{WideText}
use Rattle.ror_proof.specs.declared.read.ProofFault.{ProofFault}
use Rattle.ror_proof.specs.declared.read.ProofFault.TheVariants.{BadNumber}
use Rattle.ror_proof.specs.Text.{wide_text, IsPrintableNote}
use Rattle.ror_proof.specs.Words.{after_word, small_number_at, the_number_at}
use Rattle.ror_proof.specs.Reading.{note_at, wide_words_of, wide_line_of}
use Rattle.ror_proof.specs.Expected.{Expected, AllStand, IsFirstFaultyWord, number_fault, expected_note, expected_wide_of}
use Rattle.ror_proof.specs.Expected.Expected.{a_small_number, the_number}
use Rattle.ror_proof.proofs.WordLemmas.{done, ok_is, after_word_again, after_word_sound, small_number_again, small_number_sound}
use Rattle.ror_proof.proofs.LineWords.{note_words, note_again, note_sound, note_are_words}
use Rattle.ror_proof.proofs.AnswerLemmas.{ended_again, ended_sound}
use Rattle.ror_proof.proofs.WordFaults.{Ends, no_fault, word_then_ends}
use Rattle.ror_proof.proofs.QuestionFaults.{small_number_steps, note_ends}
use Rattle.ror_proof.proofs.LineFaults.{ReadsLine, reads_line}

-- ---- this number

-- the test of the number that was read, and the words after it
abbrev tested : ℕ → ℕ → ℕ × List (List ℕ) → Result (List (List ℕ)) ProofFault
tested place n number = refuse (BadNumber place) (not (eqb number.0 n)) >>= λ _. done number.1

the_number_again : (place n : ℕ) (more : List (List ℕ)) → n < 2 ^ 32 → the_number_at place n (decimal n ∷ more) ≡ Ok more
unfolding the_number_at
the_number_again place n more small = rw (small_number_again place n more small, eq-eqb n n refl) refl

the_number_sound : (place n : ℕ) (words more : List (List ℕ)) → the_number_at place n words ≡ Ok more → words ≡ decimal n ∷ more
unfolding the_number_at
the_number_sound place n words more e =
    let a = bind_ok (small_number_at place words) (tested place n) more e in
    let b = bind_ok (refuse (BadNumber place) (not (eqb a.0.0 n))) (λ _. done a.0.1) more a.2 in
    let same : a.0.0 ≡ n = eqb-true a.0.0 n (not-false (eqb a.0.0 n) (refuse_ok (BadNumber place) (not (eqb a.0.0 n)) b.0 b.1)) in
    (small_number_sound place words a.0 a.1).0 ∙ ap (λ (m : ℕ). decimal m ∷ a.0.1) same ∙ ap (λ (ws : List (List ℕ)). decimal n ∷ ws) (ok_is a.0.1 more b.2)

-- a word that is no number is not this one
no_number : (t : DecisionTable) (place n : ℕ) (more : List Expected) (words : List (List ℕ)) (f : ProofFault) → n < 2 ^ 32 → IsFirstFaultyWord t (a_small_number ∷ []) words place f → IsFirstFaultyWord t (the_number n ∷ more) words place f
no_number t place n more [] f small fault = fault
no_number t place n more (word ∷ words) f small (inl fault) = inl (λ (is : word ≡ decimal n). fault.0 (n, small, is), fault.1)
no_number t place n more (word ∷ words) f small (inr fault) = absurd fault.1

-- two numbers have two words
same_decimal : (m n : ℕ) → m < 2 ^ 32 → n < 2 ^ 32 → decimal m ≡ decimal n → m ≡ n
same_decimal m n small_m small_n e = some_is (sym (small_number_of-decimal m small_m) ∙ ap small_number_of e ∙ small_number_of-decimal n small_n)
  where
    some_is : Some m ≡ Some n → m ≡ n
    some_is h = cc

some_word_fault : (word : List ℕ) (place : ℕ) → 0 < length word → number_fault word place ≡ BadNumber place
some_word_fault [] place some = absurd (omega arith)
some_word_fault (byte ∷ bytes) place some = refl

the_number_fails : (t : DecisionTable) (place n : ℕ) (more : List Expected) (words : List (List ℕ)) (f : ProofFault) → n < 2 ^ 32 → the_number_at place n words ≡ Err f → IsFirstFaultyWord t (the_number n ∷ more) words place f
unfolding the_number_at
the_number_fails t place n more words f small e =
    elim (bind_err (small_number_at place words) (tested place n) f e) [
      | inl here ↦ no_number t place n more words f small ((small_number_steps t place words).fails f [] here)
      | inr a ↦
          elim (bind_err (refuse (BadNumber place) (not (eqb a.0.0 n))) (λ _. done a.0.1) f a.2) [
            | inl other ↦
                let test = refuse_err (BadNumber place) f (not (eqb a.0.0 n)) other in
                let number = small_number_sound place words a.0 a.1 in
                let apart : eqb a.0.0 n ≡ false = not-true (eqb a.0.0 n) test.0 in
                let bad : number_fault (decimal a.0.0) place ≡ BadNumber place = some_word_fault (decimal a.0.0) place (decimal_some a.0.0 (omega (arith, number.1))) in
                subst (λ (ws : List (List ℕ)). IsFirstFaultyWord t (the_number n ∷ more) ws place f) (sym number.0)
                (inl (λ (is : decimal a.0.0 ≡ decimal n). false≢true (sym apart ∙ ap (λ (m : ℕ). eqb m n) (same_decimal a.0.0 n number.1 small is) ∙ eq-eqb n n refl), test.1 ∙ sym bad))
            | inr none ↦ absurd (no_fault _ f none.2)
          ]
    ]

the_number_then_ends : {Y : Type 0} (t : DecisionTable) (place n : ℕ) (next : List (List ℕ) → Result Y ProofFault) (expected : List Expected) (words : List (List ℕ)) → n < 2 ^ 32
    → ((more : List (List ℕ)) → words ≡ decimal n ∷ more → Ends t place (next more) expected more) → Ends t place (the_number_at place n words >>= next) (the_number n ∷ expected) words
the_number_then_ends t place n next expected words small k = record {
  fails = λ f e. elim (bind_err (the_number_at place n words) next f e) [
    | inl here ↦ the_number_fails t place n expected words f small here
    | inr a ↦
        let is = the_number_sound place n words a.0 a.1 in
        subst (λ (ws : List (List ℕ)). IsFirstFaultyWord t (the_number n ∷ expected) ws place f) (sym is) (inr (refl, (k a.0 is).fails f a.2))
  ];
  stands = λ y e.
      let a = bind_ok (the_number_at place n words) next y e in
      let is = the_number_sound place n words a.0 a.1 in
      subst (λ (ws : List (List ℕ)). AllStand t (the_number n ∷ expected) ws) (sym is) (refl, (k a.0 is).stands y a.2);
}

-- ---- the line, both ways

abbrev after_wide : ℕ → ℕ → List (List ℕ) → Result WideText ProofFault
after_wide system place more = the_number_at place system more >>= λ note. note_at place note

wide_words_of_again : (place system : ℕ) (note : WideText) → IsPrintableNote system note → wide_words_of system place (codes "wide" ∷ decimal system ∷ note_words note) ≡ Ok note
unfolding wide_words_of
wide_words_of_again place system note printable =
    rw (after_word_again place (codes "wide") (decimal system ∷ note_words note), the_number_again place system (note_words note) printable.number) (note_again place note (printable.place, printable.path))

pub wide_line_of_again : (place system : ℕ) (note : WideText) (rest : List ℕ) → IsPrintableNote system note → wide_line_of system (record { place = place; rest = wide_text system note ++ rest }) ≡ Ok (note, record { place = place + length (wide_text system note); rest = rest })
wide_line_of_again place system note rest printable =
    let words : are_words (decimal system ∷ note_words note) ≡ true = and_from _ _ (is_word-decimal system (omega (arith, printable.number))) (note_are_words note (printable.place, printable.path)) in
    ended_again (wide_words_of system) place (codes "wide") (decimal system ∷ note_words note) rest note words (wide_words_of_again place system note printable)

wide_words_of_sound : (place system : ℕ) (words : List (List ℕ)) (note : WideText) → system < 2 ^ 32 → wide_words_of system place words ≡ Ok note → (words ≡ codes "wide" ∷ decimal system ∷ note_words note) × IsPrintableNote system note
unfolding wide_words_of
wide_words_of_sound place system words note small e =
    let a = bind_ok (after_word place (codes "wide") words) (after_wide system place) note e in
    let s = bind_ok (the_number_at place system a.0) (λ more. note_at place more) note a.2 in
    let read = note_sound place s.0 note s.2 in
    let text : words ≡ codes "wide" ∷ decimal system ∷ note_words note =
    after_word_sound place (codes "wide") words a.0 a.1 ∙ ap (λ (ws : List (List ℕ)). codes "wide" ∷ ws) (the_number_sound place system a.0 s.0 s.1 ∙ ap (λ (ws : List (List ℕ)). decimal system ∷ ws) read.0) in
    (text, record { number = small; place = read.1.0; path = read.1.1 })

pub wide_line_of_sound : (system : ℕ) (c : Cursor) (x : WideText × Cursor) → system < 2 ^ 32 → wide_line_of system c ≡ Ok x → Spans c (wide_text system x.0) x.1 × IsPrintableNote system x.0
wide_line_of_sound system c x small e =
    let read = ended_sound c (wide_words_of system c.place (line_words c)) x e in
    let words = wide_words_of_sound c.place system (line_words c) x.0 small read.words in
    (line_spans c x.1 (codes "wide" ∷ decimal system ∷ note_words x.0) words.0 read.line, words.1)

-- ---- its first faulty word

wide_of_ends : (t : DecisionTable) (place system : ℕ) (words : List (List ℕ)) → system < 2 ^ 32 → Ends t place (wide_words_of system place words) (expected_wide_of system words) words
unfolding wide_words_of
wide_of_ends t place system words small =
    word_then_ends t place (codes "wide") (after_wide system place) (the_number system ∷ expected_note (drop 2 words)) words
    (λ more is.
    the_number_then_ends t place system (λ note. note_at place note) (expected_note (drop 2 words)) more small
    (λ note was.
    let rest : note ≡ drop 2 words = ap (λ (ws : List (List ℕ)). drop 1 ws) (sym was) ∙ ap (λ (ws : List (List ℕ)). drop 2 ws) (sym is) in
    subst (λ (ws : List (List ℕ)). Ends t place (note_at place note) (expected_note ws) note) rest (note_ends t place note)))

pub wide_of_reads : (t : DecisionTable) (system : ℕ) (c : Cursor) → system < 2 ^ 32 → ReadsLine t (expected_wide_of system) c (wide_line_of system c)
wide_of_reads t system c small = reads_line t (expected_wide_of system) c (wide_words_of system c.place (line_words c)) (wide_of_ends t c.place system (line_words c) small)
