-- Answers up to bytes at which they end: read one after the other, as texts both ways, and the fault of the first faulty one.
use Rattle.std.proofs.Common.{◌≡◌, ℕ, zero, suc, ◌+◌, ◌<◌, ◌≤◌, Bool, true, false, List, [], ◌∷◌, ◌++◌, length, Result, Ok, Err, refl, sym, ap, subst, ◌∙◌, append_assoc, arith, inl, inr, length-append}
use Rattle.std.specs.Prelude.{codes}
use Rattle.std.specs.List.{flat_map, AllByRecursion}
use Rattle.std.proofs.lemmas.Bool.{cases_Bool, false≢true}
use Rattle.ror_text.specs.Cursor.{Cursor}
use Rattle.ror_text.specs.Reading.{◌>>=◌}
use Rattle.ror_text.proofs.CursorLemmas.{Spans, spans_then}
use Rattle.ror_text.proofs.ReadingLemmas.{bind_ok, bind_err}
use Rattle.ror_table.specs.Table.{DecisionTable, IsTable}
use Rattle.ror_proof.specs.declared.answer.Answer.{Answer}
use Rattle.ror_proof.specs.declared.read.ProofFault.{ProofFault}
use Rattle.ror_proof.specs.Reading.{begins_part, answer_at}
use Rattle.ror_proof.specs.Text.{answer_text, IsPrintable}
use Rattle.ror_proof.proofs.AnswerLemmas.{answer_reads_back, answer_is_text, answer_begins, is_read_iff_text}
use Rattle.ror_proof.proofs.LineFaults.{answer_err, answer_fails}
use Rattle.ror_proof.proofs.Loops.{line_then}
use Rattle.ror_proof.proofs.WordFaults.{no_fault}
use Rattle.ror_proof.proofs.WordLemmas.{done, ok_is}
use Rattle.ror_report.specs.Reading.{answers_until}
use Rattle.ror_report.specs.Faults.{AreAnswerTexts, IsFaultOfAnswers}
use Rattle.ror_report.specs.Faults.AreAnswerTexts.{no_answer, one_answer}
use Rattle.ror_report.specs.Faults.IsFaultOfAnswers.{this_answer, later_answer}

-- ---- one after the other

module _ (ends : List ℕ → Bool) (t : DecisionTable) where
  pub answer_step : (most : ℕ) (c : Cursor) → ends c.rest ≡ false → answers_until ends t (suc most) c ≡ line_then (answer_at t c) (answers_until ends t most)
  unfolding answers_until
  answer_step most c more = rw more refl

  pub no_answers : (most : ℕ) (c : Cursor) → ends c.rest ≡ true → answers_until ends t most c ≡ Ok ([], c)
  unfolding answers_until
  no_answers zero c none = refl
  no_answers (suc most) c none = rw none refl

  -- nothing is read where none may be
  none_left : (c : Cursor) → answers_until ends t zero c ≡ Ok ([], c)
  unfolding answers_until
  none_left c = refl

-- where an answer begins they go on; no part begins where they end, and they end where no byte is left
pub record EndsAnswers (ends : List ℕ → Bool) : Type 0 where
  pub goes_on : (more : List ℕ) → ends (codes "answer " ++ more) ≡ false
  pub no_part : (rest : List ℕ) → ends rest ≡ true → begins_part rest ≡ false
  pub at_end : ends [] ≡ true

-- where answers go on there is a byte
pub goes_on_some : (ends : List ℕ → Bool) → EndsAnswers ends → (bytes : List ℕ) → ends bytes ≡ false → 0 < length bytes
goes_on_some ends known [] more = absurd (false≢true (sym more ∙ known.at_end))
goes_on_some ends known (b ∷ bs) more = omega arith

nothing_ends : (ends : List ℕ → Bool) → EndsAnswers ends → (bytes : List ℕ) → length bytes ≤ 0 → ends bytes ≡ true
nothing_ends ends known [] none = known.at_end
nothing_ends ends known (b ∷ bs) none = absurd (omega arith)

pub answer_has_bytes : (t : DecisionTable) (x : Answer) → 0 < length (answer_text t x)
answer_has_bytes t x = let begins = answer_begins t x in omega (arith, ap length begins.1)

pub answers_have_bytes : (t : DecisionTable) (xs : List Answer) → length xs ≤ length (flat_map (answer_text t) xs)
answers_have_bytes t [] = omega arith
answers_have_bytes t (x ∷ xs) = omega (arith, answers_have_bytes t xs, answer_has_bytes t x, length-append (answer_text t x) (flat_map (answer_text t) xs))

-- what was read as answers
pub record AreReadAnswers (ends : List ℕ → Bool) (t : DecisionTable) (c : Cursor) (xs : List Answer) (after : Cursor) : Type 0 where
  pub spans : Spans c (flat_map (answer_text t) xs) after
  pub printable : AllByRecursion (IsPrintable t) xs
  pub ended : ends after.rest ≡ true

abbrev one_more : Answer → List Answer × Cursor → Result (List Answer × Cursor) ProofFault
one_more x others = Ok (x ∷ others.0, others.1)

module _ (ends : List ℕ → Bool) (known : EndsAnswers ends) (t : DecisionTable) where
  -- ---- what was written is read again

  answer_goes_on : (x : Answer) (rest : List ℕ) → ends (answer_text t x ++ rest) ≡ false
  answer_goes_on x rest =
      let begins = answer_begins t x in
      ap (λ (l : List ℕ). ends (l ++ rest)) begins.1 ∙ known.goes_on (begins.0 ++ rest)

  -- no part stands behind an answer
  no_part_behind : (xs : List Answer) (rest : List ℕ) → ends rest ≡ true → begins_part (flat_map (answer_text t) xs ++ rest) ≡ false
  no_part_behind [] rest none = known.no_part rest none
  no_part_behind (x ∷ xs) rest none = ap (λ (l : List ℕ). begins_part ((l ++ flat_map (answer_text t) xs) ++ rest)) (answer_begins t x).1

  pub answers_again : (most place : ℕ) (xs : List Answer) (rest : List ℕ) → IsTable t → AllByRecursion (IsPrintable t) xs → ends rest ≡ true → length xs ≤ most
      → answers_until ends t most (record { place = place; rest = flat_map (answer_text t) xs ++ rest }) ≡ Ok (xs, record { place = place + length (flat_map (answer_text t) xs); rest = rest })
  answers_again most place [] rest table printable none room = no_answers ends t most (record { place = place; rest = rest }) none ∙ ap (λ n. Ok ([], record { place = n; rest = rest })) (omega arith)
  answers_again zero place (x ∷ xs) rest table printable none room = absurd (omega arith)
  answers_again (suc most) place (x ∷ xs) rest table printable none room =
      let front = answer_text t x in
      let others = flat_map (answer_text t) xs in
      let tail = others ++ rest in
      let start : Cursor = record { place = place; rest = (front ++ others) ++ rest } in
      let regrouped : (front ++ others) ++ rest ≡ front ++ tail = append_assoc front others rest in
      let more : ends start.rest ≡ false = ap ends regrouped ∙ answer_goes_on x tail in
      let first : answer_at t start ≡ Ok (x, record { place = place + length front; rest = tail }) = ap (λ r. answer_at t (record { place = place; rest = r })) regrouped ∙ answer_reads_back t x place tail table printable.0 (no_part_behind xs rest none) in
      let later = answers_again most (place + length front) xs rest table printable.1 none (omega arith) in
      let to : place + length front + length others ≡ place + length (front ++ others) = omega (arith, length-append front others) in
      answer_step ends t most start more ∙ (rw (first, later) (ap (λ n. Ok (x ∷ xs, record { place = n; rest = rest })) to))

  -- ---- what is read was so written

  no_answer_read : (most : ℕ) (c : Cursor) (x : List Answer × Cursor) → ends c.rest ≡ true → answers_until ends t most c ≡ Ok x → AreReadAnswers ends t c x.0 x.1
  no_answer_read most c x none e =
      subst (λ (y : List Answer × Cursor). AreReadAnswers ends t c y.0 y.1) (ok_is ([], c) x (sym (no_answers ends t most c none) ∙ e)) (record { spans = record { rest = refl; place = omega arith }; printable = tt; ended = none })

  pub answers_sound : (most : ℕ) (c : Cursor) (x : List Answer × Cursor) → answers_until ends t most c ≡ Ok x → length c.rest ≤ most → AreReadAnswers ends t c x.0 x.1
  answers_sound zero c x e room = no_answer_read zero c x (nothing_ends ends known c.rest room) e
  answers_sound (suc most) c x e room =
      elim (cases_Bool (ends c.rest)) [
        | inl none ↦ no_answer_read (suc most) c x none e
        | inr more ↦
            let a = bind_ok (answer_at t c) (λ first. answers_until ends t most first.1 >>= λ others. done (first.0 ∷ others.0, others.1)) x (sym (answer_step ends t most c more) ∙ e) in
            let b = bind_ok (answers_until ends t most a.0.1) (λ others. done (a.0.0 ∷ others.0, others.1)) x a.2 in
            let first = answer_is_text t c a.0.0 a.0.1 a.1 in
            let all : length c.rest ≡ length (answer_text t a.0.0) + length a.0.1.rest = ap length first.text ∙ length-append (answer_text t a.0.0) a.0.1.rest in
            let others = answers_sound most a.0.1 b.0 b.1 (omega (arith, all, answer_has_bytes t a.0.0)) in
            subst (λ (y : List Answer × Cursor). AreReadAnswers ends t c y.0 y.1) (ok_is (a.0.0 ∷ b.0.0, b.0.1) x b.2) (record {
              spans = spans_then c a.0.1 b.0.1 (answer_text t a.0.0) (flat_map (answer_text t) b.0.0) (record { rest = first.text; place = first.place }) others.spans;
              printable = (first.printable, others.printable);
              ended = others.ended;
            })
      ]

  -- ---- their fault

  pub answers_err : (most : ℕ) (c : Cursor) (f : ProofFault) → answers_until ends t most c ≡ Err f → IsFaultOfAnswers ends t f c
  answers_err zero c f e = absurd (no_fault _ f (sym (none_left ends t c) ∙ e))
  answers_err (suc most) c f e =
      elim (cases_Bool (ends c.rest)) [
        | inl none ↦ absurd (no_fault _ f (sym (no_answers ends t (suc most) c none) ∙ e))
        | inr more ↦
            elim (bind_err (answer_at t c) (λ first. answers_until ends t most first.1 >>= λ others. one_more first.0 others) f (sym (answer_step ends t most c more) ∙ e)) [
              | inl here ↦ this_answer c more (answer_err t c f here)
              | inr a ↦
                  elim (bind_err (answers_until ends t most a.0.1) (λ others. one_more a.0.0 others) f a.2) [
                    | inl deeper ↦ later_answer c a.0.1 a.0.0 more (answer_is_text t c a.0.0 a.0.1 a.1) (answers_err most a.0.1 f deeper)
                    | inr none ↦ absurd (no_fault _ f none.2)
                  ]
            ]
      ]

  pub answers_fail : (most : ℕ) (c : Cursor) (f : ProofFault) → IsTable t → length c.rest ≤ most → IsFaultOfAnswers ends t f c → answers_until ends t most c ≡ Err f
  answers_fail zero c f table room (this_answer _ more fault) = let some = goes_on_some ends known c.rest more in absurd (omega (arith, some, room))
  answers_fail zero c f table room (later_answer _ after x more text fault) = let some = goes_on_some ends known c.rest more in absurd (omega (arith, some, room))
  answers_fail (suc most) c f table room (this_answer _ more fault) = answer_step ends t most c more ∙ rw (answer_fails t c f fault) refl
  answers_fail (suc most) c f table room (later_answer _ after x more text fault) =
      let read = (is_read_iff_text t c x after table).1 text in
      let all : length c.rest ≡ length (answer_text t x) + length after.rest = ap length text.text ∙ length-append (answer_text t x) after.rest in
      let rest = answers_fail most after f table (omega (arith, all, answer_has_bytes t x, room)) fault in
      answer_step ends t most c more ∙ rw (read, rest) refl

  -- ---- their texts, one after the other

  pub answers_ok : (most : ℕ) (c : Cursor) (x : List Answer × Cursor) → length c.rest ≤ most → answers_until ends t most c ≡ Ok x → AreAnswerTexts ends t x.1 c
  answers_ok zero c x room e =
      let none = nothing_ends ends known c.rest room in
      no_answer c none (ap (λ (y : List Answer × Cursor). y.1) (ok_is ([], c) x (sym (no_answers ends t zero c none) ∙ e)))
  answers_ok (suc most) c x room e =
      elim (cases_Bool (ends c.rest)) [
        | inl none ↦ no_answer c none (ap (λ (y : List Answer × Cursor). y.1) (ok_is ([], c) x (sym (no_answers ends t (suc most) c none) ∙ e)))
        | inr more ↦
            let a = bind_ok (answer_at t c) (λ first. answers_until ends t most first.1 >>= λ others. one_more first.0 others) x (sym (answer_step ends t most c more) ∙ e) in
            let b = bind_ok (answers_until ends t most a.0.1) (λ others. one_more a.0.0 others) x a.2 in
            let first = answer_is_text t c a.0.0 a.0.1 a.1 in
            let all : length c.rest ≡ length (answer_text t a.0.0) + length a.0.1.rest = ap length first.text ∙ length-append (answer_text t a.0.0) a.0.1.rest in
            let others = answers_ok most a.0.1 b.0 (omega (arith, all, answer_has_bytes t a.0.0, room)) b.1 in
            let same : b.0.1 ≡ x.1 = ap (λ (y : List Answer × Cursor). y.1) (ok_is (a.0.0 ∷ b.0.0, b.0.1) x b.2) in
            subst (λ (after : Cursor). AreAnswerTexts ends t after c) same (one_answer c a.0.1 a.0.0 more first others)
      ]

  pub answers_go : (after : Cursor) (most : ℕ) (c : Cursor) → IsTable t → length c.rest ≤ most → AreAnswerTexts ends t after c → (xs : List Answer) × (answers_until ends t most c ≡ Ok (xs, after))
  answers_go after most c table room (no_answer _ none same) = ([], no_answers ends t most c none ∙ ap (λ (d : Cursor). Ok ([], d)) same)
  answers_go after zero c table room (one_answer _ next x more text others) = let some = goes_on_some ends known c.rest more in absurd (omega (arith, some, room))
  answers_go after (suc most) c table room (one_answer _ next x more text others) =
      let read = (is_read_iff_text t c x next table).1 text in
      let all : length c.rest ≡ length (answer_text t x) + length next.rest = ap length text.text ∙ length-append (answer_text t x) next.rest in
      let rest = answers_go after most next table (omega (arith, all, answer_has_bytes t x, room)) others in
      (x ∷ rest.0, answer_step ends t most c more ∙ rw (read, rest.1) refl)
