-- The fault of a certificate is the one that is given.
use Rattle.std.proofs.Common.{◌≡◌, ℕ, zero, suc, List, [], ◌∷◌, ◌++◌, length, map, drop, Ok, Err, refl, sym, ap, subst, ◌∙◌, inl, inr}
use Rattle.std.specs.Prelude.{codes}
use Rattle.std.proofs.lemmas.List.{drop-drop}
use Rattle.ror_text.specs.Cursor.{Cursor, line_words}
use Rattle.ror_text.specs.Numbers.{small_number_of}
use Rattle.ror_text.specs.Reading.{◌>>=◌}
use Rattle.ror_text.proofs.ReadingLemmas.{bind_ok, bind_err}
use Rattle.ror_table.specs.Table.{DecisionTable, IsTable}
use Rattle.ror_proof.specs.declared.read.ProofFault.{ProofFault}
use Rattle.ror_proof.specs.Expected.{Expected}
use Rattle.ror_proof.specs.Expected.Expected.{a_small_number, the_end}
use Rattle.ror_proof.specs.Reading.{answer_at, ended}
use Rattle.ror_proof.specs.Words.{number_in, small_number_at, all_at}
use Rattle.ror_proof.proofs.AnswerLemmas.{answer_is_text, is_read_iff_text}
use Rattle.ror_proof.proofs.LineFaults.{ReadsLine, reads_line, line_fails, answer_err, answer_fails}
use Rattle.ror_proof.proofs.QuestionFaults.{small_number_steps}
use Rattle.ror_proof.proofs.WordFaults.{Ends, no_fault, then_ends, made_ends, word_then_ends, small_number_says}
use Rattle.ror_proof.proofs.WordLemmas.{done}
use Rattle.ror_report.proofs.LineForms.{line_is_read}
use Rattle.ror_show_forms.specs.Faults.{expected_head, SaysHead, IsFaultOfAnswers, IsFaultOfCertificate}
use Rattle.ror_show_forms.specs.Faults.IsFaultOfCertificate.{in_head, in_answer, in_others}
use Rattle.ror_show_forms.specs.Reading.{small_numbers_at, head_words, head_line, answers_at, certificate_at}
use Rattle.ror_show_forms.proofs.AnswerLoops.{answer_step, no_answers}
use Rattle.ror_show_forms.proofs.HeadLines.{IsHead, lined, placed, head_words_again, head_words_sound}
use Rattle.ror_show_forms.proofs.CertificateLemmas.{headed, answered, made}

-- ---- the line that says which answer is meant

-- as many numbers as there are words
abbrev many : List (List ℕ) → List Expected
many words = map (λ (word : List ℕ). a_small_number) words ++ the_end ∷ []

many_ends : (t : DecisionTable) (place : ℕ) (words : List (List ℕ)) → Ends t place (small_numbers_at place words) (many words) words
unfolding all_at
many_ends t place [] = record { fails = λ f e. absurd (no_fault [] f e); stands = λ x e. tt }
many_ends t place (word ∷ words) =
    let read = number_in small_number_of place in
    let says = small_number_says t place in
    let others = many_ends t place words in
    record {
      fails = λ f e. elim (bind_err (read word) (λ first. all_at read words >>= λ others. done (first ∷ others)) f e) [
        | inl here ↦ inl (says.err word f here)
        | inr later ↦
            elim (bind_err (all_at read words) (λ others. done (later.0 ∷ others)) f later.2) [
              | inl deeper ↦ inr (says.ok word later.0 later.1, others.fails f deeper)
              | inr none ↦ absurd (no_fault (later.0 ∷ none.0) f none.2)
            ]
      ];
      stands = λ xs e.
          let a = bind_ok (read word) (λ first. all_at read words >>= λ others. done (first ∷ others)) xs e in
          let b = bind_ok (all_at read words) (λ others. done (a.0 ∷ others)) xs a.2 in
          (says.ok word a.0 a.1, others.stands b.0 b.1);
    }

abbrev triple : ℕ → ℕ → List ℕ → ℕ × ℕ × List ℕ
triple line at numbers = (line, at, numbers)

head_ends : (t : DecisionTable) (place : ℕ) (words : List (List ℕ)) → Ends t place (head_words place words) (expected_head words) words
unfolding head_words
head_ends t place words =
    let rest = many (drop 3 words) in
    word_then_ends t place (codes "reduct") (λ more. small_number_at place more >>= lined place) (a_small_number ∷ a_small_number ∷ rest) words
    (λ more is. then_ends t place (small_number_at place more) (lined place) (a_small_number ∷ []) (a_small_number ∷ rest) more (small_number_steps t place more)
    (λ line d. then_ends t place (small_number_at place line.1) (placed place line.0) (a_small_number ∷ []) rest line.1 (small_number_steps t place line.1)
    (λ at e.
    let same : at.1 ≡ drop 3 words = (small_number_steps t place line.1).left at e ∙ ap (λ (ws : List (List ℕ)). drop 1 ws) ((small_number_steps t place more).left line d) ∙ drop-drop 1 1 more ∙ ap (λ (ws : List (List ℕ)). drop 3 ws) (sym is) in
    subst (λ (ws : List (List ℕ)). Ends t place (placed place line.0 at) (many ws) at.1) same
    (made_ends t place (small_numbers_at place at.1) (triple line.0 at.0) (many at.1) at.1 (many_ends t place at.1)))))

head_reads : (t : DecisionTable) (c : Cursor) → ReadsLine t expected_head c (head_line c)
head_reads t c = reads_line t expected_head c (head_words c.place (line_words c)) (head_ends t c.place (line_words c))

head_said : (c : Cursor) (x : (ℕ × ℕ × List ℕ) × Cursor) → head_line c ≡ Ok x → SaysHead c x.0.0 x.0.1 x.0.2 x.1
head_said c x e =
    let line = line_is_read c (head_words c.place (line_words c)) x e in
    let words = head_words_sound c.place (line_words c) x.0 line.0 in
    record { line_small = words.1.line; place_small = words.1.place; numbers_small = words.1.numbers; words = words.0; ended = line.1 }

head_read : (c : Cursor) (line place : ℕ) (numbers : List ℕ) (after : Cursor) → SaysHead c line place numbers after → head_line c ≡ Ok ((line, place, numbers), after)
unfolding ended
head_read c line place numbers after says =
    let is : IsHead (line, place, numbers) = record { line = says.line_small; place = says.place_small; numbers = says.numbers_small } in
    rw (says.words, head_words_again c.place (line, place, numbers) is, says.ended) refl

-- ---- so many answers

answers_err : (t : DecisionTable) (count : ℕ) (c : Cursor) (f : ProofFault) → answers_at t count c ≡ Err f → IsFaultOfAnswers t count c f
answers_err t zero c f e = absurd (no_fault _ f (sym (no_answers t c) ∙ e))
answers_err t (suc count) c f e =
    elim (bind_err (answer_at t c) (λ first. answers_at t count first.1 >>= λ others. done (first.0 ∷ others.0, others.1)) f (sym (answer_step t count c) ∙ e)) [
      | inl here ↦ inl (answer_err t c f here)
      | inr a ↦
          elim (bind_err (answers_at t count a.0.1) (λ others. done (a.0.0 ∷ others.0, others.1)) f a.2) [
            | inl deeper ↦ inr (a.0.0, a.0.1, answer_is_text t c a.0.0 a.0.1 a.1, answers_err t count a.0.1 f deeper)
            | inr none ↦ absurd (no_fault _ f none.2)
          ]
    ]

answers_fail : (t : DecisionTable) (count : ℕ) (c : Cursor) (f : ProofFault) → IsTable t → IsFaultOfAnswers t count c f → answers_at t count c ≡ Err f
answers_fail t zero c f table p = absurd p
answers_fail t (suc count) c f table (inl here) = answer_step t count c ∙ rw (answer_fails t c f here) refl
answers_fail t (suc count) c f table (inr later) =
    let read = (is_read_iff_text t c later.0 later.1 table).1 later.2 in
    answer_step t count c ∙ rw (read, answers_fail t count later.1 f table later.3) refl

-- ---- certificates

pub certificate_err : (t : DecisionTable) (c : Cursor) (f : ProofFault) → certificate_at t c ≡ Err f → IsFaultOfCertificate t c f
unfolding certificate_at
certificate_err t c f e =
    elim (bind_err (head_line c) (headed t) f e) [
      | inl here ↦ in_head ((head_reads t c).err f here)
      | inr h ↦ let says = head_said c h.0 h.1 in
          elim (bind_err (answer_at t h.0.1) (answered t h.0.0) f h.2) [
            | inl here ↦ in_answer h.0.0.0 h.0.0.1 h.0.0.2 h.0.1 says (answer_err t h.0.1 f here)
            | inr a ↦
                elim (bind_err (answers_at t (length h.0.0.2) a.0.1) (made h.0.0 a.0.0) f a.2) [
                  | inl here ↦ in_others h.0.0.0 h.0.0.1 h.0.0.2 h.0.1 a.0.1 a.0.0 says (answer_is_text t h.0.1 a.0.0 a.0.1 a.1) (answers_err t (length h.0.0.2) a.0.1 f here)
                  | inr none ↦ absurd (no_fault _ f none.2)
                ]
          ]
    ]

pub certificate_fails : (t : DecisionTable) (c : Cursor) (f : ProofFault) → IsTable t → IsFaultOfCertificate t c f → certificate_at t c ≡ Err f
unfolding certificate_at
certificate_fails t c f table (in_head p) = rw (line_fails t expected_head c (head_line c) f (head_reads t c) p) refl
certificate_fails t c f table (in_answer line place numbers answer says p) = rw (head_read c line place numbers answer says, answer_fails t answer f p) refl
certificate_fails t c f table (in_others line place numbers answer others x says text p) =
    let read = (is_read_iff_text t answer x others table).1 text in
    rw (head_read c line place numbers answer says, read, answers_fail t (length numbers) others f table p) refl
