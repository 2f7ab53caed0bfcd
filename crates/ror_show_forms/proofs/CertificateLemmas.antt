-- Certificates as texts, both ways: what was written is read again, and what is read was so written.
use Rattle.std.proofs.Common.{◌≡◌, ℕ, zero, suc, ◌+◌, false, List, [], ◌∷◌, ◌++◌, length, Result, Ok, refl, sym, ap, subst, ◌∙◌, append_assoc, arith, length-append}
use Rattle.std.specs.Prelude.{codes, ◌↔◌}
use Rattle.std.specs.List.{flat_map, AllByRecursion}
use Rattle.ror_text.specs.Cursor.{Cursor}
use Rattle.ror_text.specs.Reading.{◌>>=◌}
use Rattle.ror_text.proofs.CursorLemmas.{Spans, spans_then}
use Rattle.ror_text.proofs.ReadingLemmas.{bind_ok}
use Rattle.ror_table.specs.Table.{DecisionTable, IsTable}
use Rattle.ror_proof.specs.declared.answer.Answer.{Answer}
use Rattle.ror_proof.specs.declared.read.ProofFault.{ProofFault}
use Rattle.ror_proof.specs.Reading.{begins_part, answer_at}
use Rattle.ror_proof.specs.Text.{answer_text, IsPrintable}
use Rattle.ror_proof.proofs.AnswerLemmas.{answer_reads_back, answer_is_text, answer_is_no_part}
use Rattle.ror_proof.proofs.WordLemmas.{done, ok_is}
use Rattle.ror_show_forms.specs.declared.certificate.Certificate.{Certificate}
use Rattle.ror_show_forms.specs.CertificateText.{head_text, certificate_text, IsPrintableCertificate}
use Rattle.ror_show_forms.specs.Reading.{head_line, answers_at, certificate_of, certificate_at}
use Rattle.ror_show_forms.specs.CertificateTextLaws.{IsCertificateText}
use Rattle.ror_show_forms.proofs.AnswerLoops.{answer_step, no_answers}
use Rattle.ror_show_forms.proofs.HeadLines.{IsHead, head_again, head_sound, head_begins}

-- ---- so many answers

pub no_part_behind : (t : DecisionTable) (xs : List Answer) (rest : List ℕ) → begins_part rest ≡ false → begins_part (flat_map (answer_text t) xs ++ rest) ≡ false
no_part_behind t [] rest none = none
no_part_behind t (x ∷ xs) rest none =
    ap begins_part (append_assoc (answer_text t x) (flat_map (answer_text t) xs) rest) ∙ answer_is_no_part t x (flat_map (answer_text t) xs ++ rest)

pub answers_again : (t : DecisionTable) (place : ℕ) (xs : List Answer) (rest : List ℕ) → IsTable t → AllByRecursion (IsPrintable t) xs → begins_part rest ≡ false
    → answers_at t (length xs) (record { place = place; rest = flat_map (answer_text t) xs ++ rest }) ≡ Ok (xs, record { place = place + length (flat_map (answer_text t) xs); rest = rest })
answers_again t place [] rest table printable none = no_answers t (record { place = place; rest = rest }) ∙ ap (λ n. Ok ([], record { place = n; rest = rest })) (omega arith)
answers_again t place (x ∷ xs) rest table printable none =
    let front = answer_text t x in
    let others = flat_map (answer_text t) xs in
    let tail = others ++ rest in
    let start : Cursor = record { place = place; rest = (front ++ others) ++ rest } in
    let regrouped : (front ++ others) ++ rest ≡ front ++ tail = append_assoc front others rest in
    let first : answer_at t start ≡ Ok (x, record { place = place + length front; rest = tail }) = ap (λ r. answer_at t (record { place = place; rest = r })) regrouped ∙ answer_reads_back t x place tail table printable.0 (no_part_behind t xs rest none) in
    let later = answers_again t (place + length front) xs rest table printable.1 none in
    let to : place + length front + length others ≡ place + length (front ++ others) = omega (arith, length-append front others) in
    answer_step t (length xs) start ∙ (rw (first, later) (ap (λ n. Ok (x ∷ xs, record { place = n; rest = rest })) to))

-- what was read as so many answers
pub record AreReadAnswers (t : DecisionTable) (count : ℕ) (c : Cursor) (xs : List Answer) (after : Cursor) : Type 0 where
  pub spans : Spans c (flat_map (answer_text t) xs) after
  pub printable : AllByRecursion (IsPrintable t) xs
  pub many : length xs ≡ count
  pub no_part : begins_part c.rest ≡ false → begins_part after.rest ≡ false

pub answers_sound : (t : DecisionTable) (count : ℕ) (c : Cursor) (x : List Answer × Cursor) → answers_at t count c ≡ Ok x → AreReadAnswers t count c x.0 x.1
answers_sound t zero c x e =
    subst (λ (y : List Answer × Cursor). AreReadAnswers t zero c y.0 y.1) (ok_is ([], c) x (sym (no_answers t c) ∙ e)) (record { spans = record { rest = refl; place = omega arith }; printable = tt; many = refl; no_part = λ none. none })
answers_sound t (suc count) c x e =
    let a = bind_ok (answer_at t c) (λ first. answers_at t count first.1 >>= λ others. done (first.0 ∷ others.0, others.1)) x (sym (answer_step t count c) ∙ e) in
    let b = bind_ok (answers_at t count a.0.1) (λ others. done (a.0.0 ∷ others.0, others.1)) x a.2 in
    let first = answer_is_text t c a.0.0 a.0.1 a.1 in
    let others = answers_sound t count a.0.1 b.0 b.1 in
    let here : Spans c (answer_text t a.0.0) a.0.1 = record { rest = first.text; place = first.place } in
    subst (λ (y : List Answer × Cursor). AreReadAnswers t (suc count) c y.0 y.1) (ok_is (a.0.0 ∷ b.0.0, b.0.1) x b.2) (record {
      spans = spans_then c a.0.1 b.0.1 (answer_text t a.0.0) (flat_map (answer_text t) b.0.0) here others.spans;
      printable = (first.printable, others.printable);
      many = ap suc others.many;
      no_part = λ none. others.no_part first.no_further_part;
    })

-- ---- certificates

abbrev head_of : Certificate → ℕ × ℕ × List ℕ
head_of x = (x.line, x.place, x.reduct.numbers)

head_is : (t : DecisionTable) (x : Certificate) → IsPrintableCertificate t x → IsHead (head_of x)
head_is t x printable = record { line = printable.line; place = printable.place; numbers = printable.numbers }

pub pieces : (t : DecisionTable) (x : Certificate) → certificate_text t x ≡ head_text x.line x.place x.reduct.numbers ++ (answer_text t x.reduct.answer ++ flat_map (answer_text t) x.reduct.others)
unfolding certificate_text
pieces t x = refl

pub certificate_step : (t : DecisionTable) (c d e after : Cursor) (h : ℕ × ℕ × List ℕ) (x : Answer) (xs : List Answer) → head_line c ≡ Ok (h, d) → answer_at t d ≡ Ok (x, e) → answers_at t (length h.2) e ≡ Ok (xs, after) → certificate_at t c ≡ Ok (certificate_of h x xs, after)
unfolding certificate_at
certificate_step t c d e after h x xs head answer others = rw (head, answer, others) refl

pub certificate_reads_back : (t : DecisionTable) (x : Certificate) (place : ℕ) (rest : List ℕ) → IsTable t → IsPrintableCertificate t x → begins_part rest ≡ false
    → certificate_at t (record { place = place; rest = certificate_text t x ++ rest }) ≡ Ok (x, record { place = place + length (certificate_text t x); rest = rest })
certificate_reads_back t x place rest table printable none =
    let front = head_text x.line x.place x.reduct.numbers in
    let one = answer_text t x.reduct.answer in
    let back = flat_map (answer_text t) x.reduct.others in
    let regrouped : certificate_text t x ++ rest ≡ front ++ (one ++ (back ++ rest)) = ap (λ (l : List ℕ). l ++ rest) (pieces t x) ∙ append_assoc front (one ++ back) rest ∙ ap (λ (l : List ℕ). front ++ l) (append_assoc one back rest) in
    let to : place + length front + length one + length back ≡ place + length (certificate_text t x) = omega (arith, ap length (pieces t x), length-append front (one ++ back), length-append one back) in
    let head = head_again place (head_of x) (one ++ (back ++ rest)) (head_is t x printable) in
    let answer = answer_reads_back t x.reduct.answer (place + length front) (back ++ rest) table printable.answer (no_part_behind t x.reduct.others rest none) in
    let all = answers_again t (place + length front + length one) x.reduct.others rest table printable.others none in
    let others = subst (λ (n : ℕ). answers_at t n (record { place = place + length front + length one; rest = back ++ rest }) ≡ Ok (x.reduct.others, record { place = place + length front + length one + length back; rest = rest })) printable.as_many all in
    ap (λ (r : List ℕ). certificate_at t (record { place = place; rest = r })) regrouped
    ∙ certificate_step t _ _ _ _ (head_of x) x.reduct.answer x.reduct.others head answer others
    ∙ ap (λ n. Ok (x, record { place = n; rest = rest })) to

abbrev pub made : ℕ × ℕ × List ℕ → Answer → List Answer × Cursor → Result (Certificate × Cursor) ProofFault
made h x others = Ok (certificate_of h x others.0, others.1)

abbrev pub answered : DecisionTable → ℕ × ℕ × List ℕ → Answer × Cursor → Result (Certificate × Cursor) ProofFault
answered t h answer = answers_at t (length h.2) answer.1 >>= made h answer.0

abbrev pub headed : DecisionTable → (ℕ × ℕ × List ℕ) × Cursor → Result (Certificate × Cursor) ProofFault
headed t head = answer_at t head.1 >>= answered t head.0

pub certificate_is_text : (t : DecisionTable) (c : Cursor) (x : Certificate) (after : Cursor) → certificate_at t c ≡ Ok (x, after) → IsCertificateText t c x after
unfolding certificate_at
certificate_is_text t c x after e =
    let h = bind_ok (head_line c) (headed t) (x, after) e in
    let a = bind_ok (answer_at t h.0.1) (answered t h.0.0) (x, after) h.2 in
    let o = bind_ok (answers_at t (length h.0.0.2) a.0.1) (made h.0.0 a.0.0) (x, after) a.2 in
    let head = head_sound c h.0 h.1 in
    let answer = answer_is_text t h.0.1 a.0.0 a.0.1 a.1 in
    let others = answers_sound t (length h.0.0.2) a.0.1 o.0 o.1 in
    let whole = certificate_of h.0.0 a.0.0 o.0.0 in
    let one : Spans h.0.1 (answer_text t a.0.0) a.0.1 = record { rest = answer.text; place = answer.place } in
    let back = spans_then h.0.1 a.0.1 o.0.1 (answer_text t a.0.0) (flat_map (answer_text t) o.0.0) one others.spans in
    let spans = spans_then c h.0.1 o.0.1 (head_text h.0.0.0 h.0.0.1 h.0.0.2) (answer_text t a.0.0 ++ flat_map (answer_text t) o.0.0) head.0 back in
    let text = pieces t whole in
    subst (λ (y : Certificate × Cursor). IsCertificateText t c y.0 y.1) (ok_is (whole, o.0.1) (x, after) o.2) (record {
      text = spans.rest ∙ ap (λ (l : List ℕ). l ++ o.0.1.rest) (sym text);
      place = spans.place ∙ ap (λ (l : List ℕ). c.place + length l) (sym text);
      printable = record { line = head.1.line; place = head.1.place; numbers = head.1.numbers; as_many = others.many; answer = answer.printable; others = others.printable };
      no_further_part = others.no_part answer.no_further_part;
    })

-- ---- the two directions as one

pub certificate_is_read_iff_text : (t : DecisionTable) (c : Cursor) (x : Certificate) (after : Cursor) → IsTable t → (certificate_at t c ≡ Ok (x, after)) ↔ IsCertificateText t c x after
certificate_is_read_iff_text t c x after table = (
  certificate_is_text t c x after,
  λ is.
      let written = certificate_reads_back t x c.place after.rest table is.printable is.no_further_part in
      ap (λ (r : List ℕ). certificate_at t (record { place = c.place; rest = r })) is.text ∙ written ∙ ap (λ n. Ok (x, record { place = n; rest = after.rest })) (sym is.place),
)

pub certificate_begins : (t : DecisionTable) (x : Certificate) → (more : List ℕ) × (certificate_text t x ≡ codes "reduct " ++ more)
certificate_begins t x =
    let begins = head_begins x.line x.place x.reduct.numbers in
    let others = answer_text t x.reduct.answer ++ flat_map (answer_text t) x.reduct.others in
    (begins.0 ++ others, pieces t x ∙ ap (λ (l : List ℕ). l ++ others) begins.1)
