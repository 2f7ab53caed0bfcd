-- The first faulty line of an answer: what is read has none, and what is refused has the fault that is given.
use Rattle.std.proofs.Common.{◌≡◌, ℕ, ◌+◌, ◌<◌, ◌≤◌, zero, suc, Bool, true, false, List, [], ◌∷◌, ◌++◌, drop, map, length, length-append, Option, Some, None, Result, Ok, Err, refl, sym, ap, subst, ◌∙◌, arith, inl, inr}
use Rattle.std.specs.Prelude.{codes}
use Rattle.std.specs.Str.{bytes_eq}
use Rattle.std.proofs.lemmas.Bool.{cases_Bool, cond-true, cond-false}
use Rattle.ror_text.specs.Cursor.{Cursor, line_words, line_after}
use Rattle.ror_text.specs.Reading.{◌>>=◌, refuse, need}
use Rattle.ror_text.specs.SpacedLines.{line_text}
use Rattle.ror_text.proofs.CursorLemmas.{line_sound, length-line_text}
use Rattle.ror_text.proofs.ReadingLemmas.{bind_ok, bind_err, need_ok, need_err, refuse_err}
use Rattle.ror_table.specs.Table.{DecisionTable}
use Rattle.ror_statement.specs.declared.question.Question.{Question}
use Rattle.ror_proof.specs.declared.answer.Answer.{Answer}
use Rattle.ror_proof.specs.declared.answer.Certificate.{Certificate}
use Rattle.ror_proof.specs.declared.answer.Part.{Part}
use Rattle.ror_proof.specs.declared.answer.Proof.{Proof}
use Rattle.ror_proof.specs.declared.answer.Verdict.{Verdict}
use Rattle.ror_proof.specs.declared.answer.Verdict.TheVariants as verdicts
use Rattle.ror_proof.specs.declared.answer.WideText.{WideText}
use Rattle.ror_proof.specs.declared.names.VerdictName.{VerdictName}
use Rattle.ror_proof.specs.declared.names.VerdictName.TheVariants as said
use Rattle.ror_proof.specs.declared.read.ProofFault.{ProofFault}
use Rattle.ror_proof.specs.declared.read.ProofFault.TheVariants.{BadLine}
use Rattle.ror_proof.specs.Names.{verdict_word, verdict_names}
use Rattle.ror_proof.specs.Text.{question_words}
use Rattle.ror_proof.specs.Words.{name_at, no_more, small_number_at}
use Rattle.ror_proof.specs.Questions.{question_at}
use Rattle.ror_proof.specs.Reading.{certificate_at, note_at, answer_words, base_words, part_words, wide_words, ended, answer_line, base_line, part_line, wide_line, begins_part, part_lines, proof_at, wide_at, verdict_at, answer_at}
use Rattle.ror_proof.specs.Expected.{Expected, expected_certificate, expected_question, expected_note, expected_answer, expected_base, expected_part, expected_wide, says_wide, IsLine, IsFaultOfLine, IsFaultOfParts, IsFaultOfAnswer}
use Rattle.ror_proof.specs.Expected.Expected.{one_of, a_small_number, the_end}
use Rattle.ror_proof.specs.Expected.IsFaultOfLine.{in_word, no_line_feed}
use Rattle.ror_proof.specs.Expected.IsFaultOfParts.{this_part, later_part}
use Rattle.ror_proof.specs.Expected.IsFaultOfAnswer.{in_question, in_base, in_parts, in_wide, part_after_wide}
use Rattle.ror_proof.proofs.Loops.{begins_some}
use Rattle.ror_proof.proofs.WordLemmas.{done, ok_is}
use Rattle.ror_proof.proofs.WordFaults.{Ends, two_faults, two_stand, no_fault, then_ends, made_ends, word_then_ends, end_ends, certificate_ends}
use Rattle.ror_proof.proofs.QuestionFaults.{small_number_steps, name_steps, question_steps, note_ends}
use Rattle.ror_proof.proofs.AnswerLemmas.{head_words_sound}

-- ---- what is made of what is read

abbrev closed : ℕ → Question → VerdictName × List (List ℕ) → Result (Question × VerdictName) ProofFault
closed place question verdict = no_more place verdict.1 >>= λ _. done (question, verdict.0)

abbrev concluded : DecisionTable → ℕ → List (List ℕ) → Result (Question × VerdictName) ProofFault
concluded t place more = question_at t place more >>= λ question. name_at verdict_word verdict_names place question.1 >>= λ verdict. closed place question.0 verdict

abbrev part_of : ℕ → Certificate → Part
part_of at certificate = record { at = at; body = certificate }

abbrev part_made : ℕ → Certificate → Result Part ProofFault
part_made at certificate = Ok (part_of at certificate)

abbrev part_after : ℕ → List (List ℕ) → Result Part ProofFault
part_after place more = small_number_at place more >>= λ at. certificate_at place at.1 >>= λ certificate. part_made at.0 certificate

abbrev wide_of : ℕ → WideText → ℕ × WideText
wide_of system note = (system, note)

abbrev wide_made : ℕ → WideText → Result (ℕ × WideText) ProofFault
wide_made system note = Ok (wide_of system note)

abbrev wide_after : ℕ → List (List ℕ) → Result (ℕ × WideText) ProofFault
wide_after place more = small_number_at place more >>= λ system. note_at place system.1 >>= λ note. wide_made system.0 note

-- ---- the words of each line

answer_ends : (t : DecisionTable) (place : ℕ) (words : List (List ℕ)) → Ends t place (answer_words t place words) (expected_answer words) words
unfolding answer_words
answer_ends t place words =
    let verdicts_expected = one_of (map verdict_word verdict_names) ∷ the_end ∷ [] in
    word_then_ends t place (codes "answer") (concluded t place) (expected_question (drop 1 words) ++ verdicts_expected) words
    (λ more is.
    let same : more ≡ drop 1 words = ap (λ (ws : List (List ℕ)). drop 1 ws) (sym is) in
    subst (λ (ws : List (List ℕ)). Ends t place (concluded t place more) (expected_question ws ++ verdicts_expected) more) same
    (then_ends t place (question_at t place more) (λ question. name_at verdict_word verdict_names place question.1 >>= λ verdict. closed place question.0 verdict) (expected_question more) verdicts_expected more (question_steps t place more)
    (λ question e. then_ends t place (name_at verdict_word verdict_names place question.1) (closed place question.0) (one_of (map verdict_word verdict_names) ∷ []) (the_end ∷ []) question.1 (name_steps t place verdict_word verdict_names question.1)
    (λ verdict f. end_ends t place (question.0, verdict.0) verdict.1))))

base_ends : (t : DecisionTable) (place : ℕ) (words : List (List ℕ)) → Ends t place (base_words place words) (expected_base words) words
unfolding base_words
base_ends t place words =
    word_then_ends t place (codes "base") (certificate_at place) (expected_certificate (drop 1 words)) words
    (λ more is. subst (λ (ws : List (List ℕ)). Ends t place (certificate_at place more) (expected_certificate ws) more) (ap (λ (ws : List (List ℕ)). drop 1 ws) (sym is)) (certificate_ends t place more))

part_ends : (t : DecisionTable) (place : ℕ) (words : List (List ℕ)) → Ends t place (part_words place words) (expected_part words) words
unfolding part_words
part_ends t place words =
    word_then_ends t place (codes "part") (part_after place) (a_small_number ∷ expected_certificate (drop 2 words)) words
    (λ more is.
    let rest : drop 1 more ≡ drop 2 words = ap (λ (ws : List (List ℕ)). drop 2 ws) (sym is) in
    then_ends t place (small_number_at place more) (λ at. certificate_at place at.1 >>= λ certificate. part_made at.0 certificate) (a_small_number ∷ []) (expected_certificate (drop 2 words)) more (small_number_steps t place more)
    (λ at e. subst (λ (ws : List (List ℕ)). Ends t place (certificate_at place at.1 >>= λ certificate. part_made at.0 certificate) (expected_certificate ws) at.1) ((small_number_steps t place more).left at e ∙ rest)
    (made_ends t place (certificate_at place at.1) (λ (certificate : Certificate). part_of at.0 certificate) (expected_certificate at.1) at.1 (certificate_ends t place at.1))))

wide_ends : (t : DecisionTable) (place : ℕ) (words : List (List ℕ)) → Ends t place (wide_words place words) (expected_wide words) words
unfolding wide_words
wide_ends t place words =
    word_then_ends t place (codes "wide") (wide_after place) (a_small_number ∷ expected_note (drop 2 words)) words
    (λ more is.
    let rest : drop 1 more ≡ drop 2 words = ap (λ (ws : List (List ℕ)). drop 2 ws) (sym is) in
    then_ends t place (small_number_at place more) (λ system. note_at place system.1 >>= λ note. wide_made system.0 note) (a_small_number ∷ []) (expected_note (drop 2 words)) more (small_number_steps t place more)
    (λ system e. subst (λ (ws : List (List ℕ)). Ends t place (note_at place system.1 >>= λ note. wide_made system.0 note) (expected_note ws) system.1) ((small_number_steps t place more).left system e ∙ rest)
    (made_ends t place (note_at place system.1) (λ (note : WideText). wide_of system.0 note) (expected_note system.1) system.1 (note_ends t place system.1))))

-- ---- lines

-- a line has one fault, or it is as expected
pub two_line_faults : (t : DecisionTable) (expected : List (List ℕ) → List Expected) (c : Cursor) (f g : ProofFault) → IsFaultOfLine t expected c f → IsFaultOfLine t expected c g → f ≡ g
two_line_faults t expected c f g (in_word p) (in_word q) = two_faults t (expected (line_words c)) (line_words c) c.place f g p q
two_line_faults t expected c f g (in_word p) (no_line_feed all none at) = absurd (two_stand t (expected (line_words c)) (line_words c) c.place f all p)
two_line_faults t expected c f g (no_line_feed all none at) (in_word q) = absurd (two_stand t (expected (line_words c)) (line_words c) c.place g all q)
two_line_faults t expected c f g (no_line_feed all none at) (no_line_feed all' none' at') = at ∙ sym at'

not_both : (o : Option Cursor) (after : Cursor) → o ≡ Some after → o ≡ None → ⊥
not_both o after p q = absurd (let no = sym p ∙ q in cc)

pub line_not_faulty : (t : DecisionTable) (expected : List (List ℕ) → List Expected) (c after : Cursor) (f : ProofFault) → IsLine t expected c after → IsFaultOfLine t expected c f → ⊥
line_not_faulty t expected c after f line (in_word q) = two_stand t (expected (line_words c)) (line_words c) c.place f line.words q
line_not_faulty t expected c after f line (no_line_feed all none at) = not_both (line_after c) after line.ended none

pub one_after : (t : DecisionTable) (expected : List (List ℕ) → List Expected) (c a b : Cursor) → IsLine t expected c a → IsLine t expected c b → a ≡ b
one_after t expected c a b p q = same a b (sym p.ended ∙ q.ended)
  where
    same : (a b : Cursor) → Some a ≡ Some b → a ≡ b
    same a b e = cc

-- a reader of a line, whose fault is that of the line
pub record ReadsLine {A : Type 0} (t : DecisionTable) (expected : List (List ℕ) → List Expected) (c : Cursor) (reading : Result (A × Cursor) ProofFault) : Type 0 where
  pub err : (f : ProofFault) → reading ≡ Err f → IsFaultOfLine t expected c f
  pub ok : (x : A × Cursor) → reading ≡ Ok x → IsLine t expected c x.1

pub reads_line : {A : Type 0} (t : DecisionTable) (expected : List (List ℕ) → List Expected) (c : Cursor) (reading : Result A ProofFault) → Ends t c.place reading (expected (line_words c)) (line_words c) → ReadsLine t expected c (ended c reading)
unfolding ended
reads_line t expected c reading ends = record {
  err = λ f e. elim (bind_err reading (λ value. need (BadLine c.place) (line_after c) >>= λ next. done (value, next)) f e) [
    | inl here ↦ in_word (ends.fails f here)
    | inr a ↦
        elim (bind_err (need (BadLine c.place) (line_after c)) (λ next. done (a.0, next)) f a.2) [
          | inl here ↦ let none = need_err (BadLine c.place) f (line_after c) here in no_line_feed (ends.stands a.0 a.1) none.0 none.1
          | inr none ↦ absurd (no_fault _ f none.2)
        ]
  ];
  ok = λ x e.
      let a = bind_ok reading (λ value. need (BadLine c.place) (line_after c) >>= λ next. done (value, next)) x e in
      let b = bind_ok (need (BadLine c.place) (line_after c)) (λ next. done (a.0, next)) x a.2 in
      record { words = ends.stands a.0 a.1; ended = need_ok (BadLine c.place) (line_after c) b.0 b.1 ∙ ap (λ y. Some y.1) (ok_is (a.0, b.0) x b.2) };
}

pub line_fails : {A : Type 0} (t : DecisionTable) (expected : List (List ℕ) → List Expected) (c : Cursor) (reading : Result (A × Cursor) ProofFault) (f : ProofFault) → ReadsLine t expected c reading → IsFaultOfLine t expected c f → reading ≡ Err f
line_fails t expected c (Ok x) f reads fault = absurd (line_not_faulty t expected c x.1 f (reads.ok x refl) fault)
line_fails t expected c (Err g) f reads fault = ap Err (two_line_faults t expected c g f (reads.err g refl) fault)

pub line_goes : {A : Type 0} (t : DecisionTable) (expected : List (List ℕ) → List Expected) (c after : Cursor) (reading : Result (A × Cursor) ProofFault) → ReadsLine t expected c reading → IsLine t expected c after → (x : A) × (reading ≡ Ok (x, after))
line_goes t expected c after (Ok x) reads line = (x.0, ap (λ (n : Cursor). Ok (x.0, n)) (one_after t expected c x.1 after (reads.ok x refl) line))
line_goes t expected c after (Err g) reads line = absurd (line_not_faulty t expected c after g line (reads.err g refl))

answer_reads : (t : DecisionTable) (c : Cursor) → ReadsLine t expected_answer c (answer_line t c)
answer_reads t c = reads_line t expected_answer c (answer_words t c.place (line_words c)) (answer_ends t c.place (line_words c))

pub base_reads : (t : DecisionTable) (c : Cursor) → ReadsLine t expected_base c (base_line c)
base_reads t c = reads_line t expected_base c (base_words c.place (line_words c)) (base_ends t c.place (line_words c))

part_reads : (t : DecisionTable) (c : Cursor) → ReadsLine t expected_part c (part_line c)
part_reads t c = reads_line t expected_part c (part_words c.place (line_words c)) (part_ends t c.place (line_words c))

wide_reads : (t : DecisionTable) (c : Cursor) → ReadsLine t expected_wide c (wide_line c)
wide_reads t c = reads_line t expected_wide c (wide_words c.place (line_words c)) (wide_ends t c.place (line_words c))

-- ---- parts

parts_begin : (t : DecisionTable) (c : Cursor) (f : ProofFault) → IsFaultOfParts t f c → begins_part c.rest ≡ true
parts_begin t c f (this_part _ begins p) = begins
parts_begin t c f (later_part _ after begins line p) = begins

parts_err : (t : DecisionTable) (most : ℕ) (c : Cursor) (f : ProofFault) → part_lines most c ≡ Err f → IsFaultOfParts t f c
unfolding part_lines
parts_err t zero c f e = absurd (no_fault _ f e)
parts_err t (suc most) c f e =
    elim (cases_Bool (begins_part c.rest)) [
      | inr other ↦ absurd (no_fault _ f (sym (cond-false _ _ _ other) ∙ e))
      | inl begins ↦
          elim (bind_err (part_line c) (λ first. part_lines most first.1 >>= λ others. done (first.0 ∷ others.0, others.1)) f (sym (cond-true _ _ _ begins) ∙ e)) [
            | inl here ↦ this_part c begins ((part_reads t c).err f here)
            | inr a ↦
                elim (bind_err (part_lines most a.0.1) (λ others. done (a.0.0 ∷ others.0, others.1)) f a.2) [
                  | inl deeper ↦ later_part c a.0.1 begins ((part_reads t c).ok a.0 a.1) (parts_err t most a.0.1 f deeper)
                  | inr none ↦ absurd (no_fault _ f none.2)
                ]
          ]
    ]

pub shorter : (t : DecisionTable) (expected : List (List ℕ) → List Expected) (c after : Cursor) → IsLine t expected c after → length after.rest < length c.rest
shorter t expected c after line =
    let sound = line_sound c after line.ended in
    let text = line_text (line_words c) in
    let parts : length c.rest ≡ length text + length after.rest = ap length sound.0 ∙ length-append text after.rest in
    omega (arith, parts, length-line_text (line_words c))

parts_fail : (t : DecisionTable) (most : ℕ) (c : Cursor) (f : ProofFault) → length c.rest ≤ most → IsFaultOfParts t f c → part_lines most c ≡ Err f
unfolding part_lines
parts_fail t zero c f small fault = let some = begins_some c.rest (parts_begin t c f fault) in absurd (omega (arith, some, small))
parts_fail t (suc most) c f small (this_part _ begins p) = rw (begins, line_fails t expected_part c (part_line c) f (part_reads t c) p) refl
parts_fail t (suc most) c f small (later_part _ after begins line p) =
    let first = line_goes t expected_part c after (part_line c) (part_reads t c) line in
    let less = shorter t expected_part c after line in
    rw (begins, first.1, parts_fail t most after f (omega (arith, less, small)) p) refl

-- ---- proofs and notes

-- the fault of the first faulty line among the base and parts, or in the place of these a wide line
data IsFaultOfProof (t : DecisionTable) (c : Cursor) (f : ProofFault) : Type 0 where
  of_base : IsFaultOfLine t expected_base c f → IsFaultOfProof t c f
  of_parts : (parts : Cursor) → IsLine t expected_base c parts → IsFaultOfParts t f parts → IsFaultOfProof t c f

abbrev proof_made : Certificate → List Part × Cursor → Result (Proof × Cursor) ProofFault
proof_made base parts = Ok (record { base = base; parts = parts.0 }, parts.1)

proof_err : (t : DecisionTable) (c : Cursor) (f : ProofFault) → proof_at c ≡ Err f → IsFaultOfProof t c f
unfolding proof_at
proof_err t c f e =
    elim (bind_err (base_line c) (λ base. part_lines (length base.1.rest) base.1 >>= λ parts. proof_made base.0 parts) f e) [
      | inl here ↦ of_base ((base_reads t c).err f here)
      | inr b ↦
          elim (bind_err (part_lines (length b.0.1.rest) b.0.1) (λ parts. proof_made b.0.0 parts) f b.2) [
            | inl here ↦ of_parts b.0.1 ((base_reads t c).ok b.0 b.1) (parts_err t (length b.0.1.rest) b.0.1 f here)
            | inr none ↦ absurd (no_fault _ f none.2)
          ]
    ]

proof_fails : (t : DecisionTable) (c : Cursor) (f : ProofFault) → IsFaultOfProof t c f → proof_at c ≡ Err f
unfolding proof_at
proof_fails t c f (of_base p) = rw (line_fails t expected_base c (base_line c) f (base_reads t c) p) refl
proof_fails t c f (of_parts parts line p) =
    let base = line_goes t expected_base c parts (base_line c) (base_reads t c) line in
    rw (base.1, parts_fail t (length parts.rest) parts f (omega arith) p) refl

data IsFaultOfNote (t : DecisionTable) (c : Cursor) (f : ProofFault) : Type 0 where
  of_line : IsFaultOfLine t expected_wide c f → IsFaultOfNote t c f
  of_part : (after : Cursor) → IsLine t expected_wide c after → begins_part after.rest ≡ true → f ≡ BadLine after.place → IsFaultOfNote t c f

wide_err : (t : DecisionTable) (c : Cursor) (f : ProofFault) → wide_at c ≡ Err f → IsFaultOfNote t c f
unfolding wide_at
wide_err t c f e =
    elim (bind_err (wide_line c) (λ wide. refuse (BadLine wide.1.place) (begins_part wide.1.rest) >>= λ _. done (verdicts.Wide wide.0.0 wide.0.1, wide.1)) f e) [
      | inl here ↦ of_line ((wide_reads t c).err f here)
      | inr a ↦
          elim (bind_err (refuse (BadLine a.0.1.place) (begins_part a.0.1.rest)) (λ _. done (verdicts.Wide a.0.0.0 a.0.0.1, a.0.1)) f a.2) [
            | inl here ↦ let begins = refuse_err (BadLine a.0.1.place) f (begins_part a.0.1.rest) here in of_part a.0.1 ((wide_reads t c).ok a.0 a.1) begins.0 begins.1
            | inr none ↦ absurd (no_fault _ f none.2)
          ]
    ]

wide_fails : (t : DecisionTable) (c : Cursor) (f : ProofFault) → IsFaultOfNote t c f → wide_at c ≡ Err f
unfolding wide_at
wide_fails t c f (of_line p) = rw (line_fails t expected_wide c (wide_line c) f (wide_reads t c) p) refl
wide_fails t c f (of_part after line begins at) =
    let wide = line_goes t expected_wide c after (wide_line c) (wide_reads t c) line in
    rw (wide.1, begins, at) refl

-- ---- answers

abbrev is_wide : VerdictName → Bool
is_wide said.Wide = true
is_wide _ = false

-- the last word is the verdict
last_says : (words : List (List ℕ)) (last : List ℕ) → says_wide (words ++ last ∷ []) ≡ bytes_eq last (codes "wide")
last_says [] last = refl
last_says (word ∷ []) last = refl
last_says (word ∷ next ∷ words) last = last_says (next ∷ words) last

verdict_says : (name : VerdictName) → bytes_eq (verdict_word name) (codes "wide") ≡ is_wide name
verdict_says said.Yes = refl
verdict_says said.No = refl
verdict_says said.Contradiction = refl
verdict_says said.Wide = refl

head_says : (t : DecisionTable) (c : Cursor) (x : (Question × VerdictName) × Cursor) → answer_line t c ≡ Ok x → says_wide (line_words c) ≡ is_wide x.0.1
unfolding ended
head_says t c x e =
    let a = bind_ok (answer_words t c.place (line_words c)) (λ value. need (BadLine c.place) (line_after c) >>= λ next. done (value, next)) x e in
    let b = bind_ok (need (BadLine c.place) (line_after c)) (λ next. done (a.0, next)) x a.2 in
    let words = head_words_sound t c.place (line_words c) a.0 a.1 in
    let says : says_wide (line_words c) ≡ is_wide a.0.1 = ap says_wide words.0 ∙ last_says (codes "answer" ∷ question_words t a.0.0) (verdict_word a.0.1) ∙ verdict_says a.0.1 in
    says ∙ ap (λ (y : (Question × VerdictName) × Cursor). is_wide y.0.1) (ok_is (a.0, b.0) x b.2)

-- what follows the line of the question
abbrev IsFaultAfter : DecisionTable → Bool → Cursor → ProofFault → Type 0
IsFaultAfter t false c f = IsFaultOfProof t c f
IsFaultAfter t true c f = IsFaultOfNote t c f

abbrev verdict_made : (Proof → Verdict) → Proof × Cursor → Result (Verdict × Cursor) ProofFault
verdict_made make proof = Ok (make proof.0, proof.1)

made_err : (reading : Result (Proof × Cursor) ProofFault) (make : Proof → Verdict) (f : ProofFault) → (reading >>= verdict_made make) ≡ Err f → reading ≡ Err f
made_err reading make f e = elim (bind_err reading (verdict_made make) f e) [
  | inl here ↦ here
  | inr none ↦ absurd (no_fault _ f none.2)
]

verdict_err : (t : DecisionTable) (name : VerdictName) (c : Cursor) (f : ProofFault) → verdict_at name c ≡ Err f → IsFaultAfter t (is_wide name) c f
verdict_err t said.Yes c f e = proof_err t c f (made_err (proof_at c) verdicts.Yes f e)
verdict_err t said.No c f e = proof_err t c f (made_err (proof_at c) verdicts.No f e)
verdict_err t said.Contradiction c f e = proof_err t c f (made_err (proof_at c) verdicts.Contradiction f e)
verdict_err t said.Wide c f e = wide_err t c f e

verdict_fails : (t : DecisionTable) (name : VerdictName) (c : Cursor) (f : ProofFault) → IsFaultAfter t (is_wide name) c f → verdict_at name c ≡ Err f
verdict_fails t said.Yes c f p = rw (proof_fails t c f p) refl
verdict_fails t said.No c f p = rw (proof_fails t c f p) refl
verdict_fails t said.Contradiction c f p = rw (proof_fails t c f p) refl
verdict_fails t said.Wide c f p = wide_fails t c f p

as_answer : (t : DecisionTable) (c next : Cursor) (f : ProofFault) (wide : Bool) → says_wide (line_words c) ≡ wide → IsLine t expected_answer c next → IsFaultAfter t wide next f → IsFaultOfAnswer t c f
as_answer t c next f false says line (of_base p) = in_base next line says p
as_answer t c next f false says line (of_parts parts base p) = in_parts next parts line says base p
as_answer t c next f true says line (of_line p) = in_wide next line says p
as_answer t c next f true says line (of_part after wide begins at) = part_after_wide next after line says wide begins at

abbrev answer_made : Question → Verdict × Cursor → Result (Answer × Cursor) ProofFault
answer_made question verdict = Ok (record { question = question; verdict = verdict.0 }, verdict.1)

pub answer_err : (t : DecisionTable) (c : Cursor) (f : ProofFault) → answer_at t c ≡ Err f → IsFaultOfAnswer t c f
unfolding answer_at
answer_err t c f e =
    elim (bind_err (answer_line t c) (λ head. verdict_at head.0.1 head.1 >>= λ verdict. answer_made head.0.0 verdict) f e) [
      | inl here ↦ in_question ((answer_reads t c).err f here)
      | inr a ↦
          elim (bind_err (verdict_at a.0.0.1 a.0.1) (λ verdict. answer_made a.0.0.0 verdict) f a.2) [
            | inl here ↦ as_answer t c a.0.1 f (is_wide a.0.0.1) (head_says t c a.0 a.1) ((answer_reads t c).ok a.0 a.1) (verdict_err t a.0.0.1 a.0.1 f here)
            | inr none ↦ absurd (no_fault _ f none.2)
          ]
    ]

-- the fault of what follows is that of the answer
behind_head : (t : DecisionTable) (c next : Cursor) (f : ProofFault) (wide : Bool) → says_wide (line_words c) ≡ wide → IsLine t expected_answer c next → IsFaultAfter t wide next f → answer_at t c ≡ Err f
unfolding answer_at
behind_head t c next f wide says line fault =
    let head = line_goes t expected_answer c next (answer_line t c) (answer_reads t c) line in
    let same : wide ≡ is_wide head.0.1 = sym says ∙ head_says t c (head.0, next) head.1 in
    rw (head.1, verdict_fails t head.0.1 next f (subst (λ (b : Bool). IsFaultAfter t b next f) same fault)) refl

pub answer_fails : (t : DecisionTable) (c : Cursor) (f : ProofFault) → IsFaultOfAnswer t c f → answer_at t c ≡ Err f
unfolding answer_at
answer_fails t c f (in_question p) = rw (line_fails t expected_answer c (answer_line t c) f (answer_reads t c) p) refl
answer_fails t c f (in_base base line says p) = behind_head t c base f false says line (of_base p)
answer_fails t c f (in_parts base parts line says based p) = behind_head t c base f false says line (of_parts parts based p)
answer_fails t c f (in_wide wide line says p) = behind_head t c wide f true says line (of_line p)
answer_fails t c f (part_after_wide wide after line says noted begins at) = behind_head t c wide f true says line (of_part after noted begins at)
