-- Blocks as texts, both ways: what was written is read again, and what is read was so written.
use Rattle.std.proofs.Common.{◌≡◌, ℕ, ◌+◌, ◌<◌, ◌≤◌, ◌^◌, true, not, Option, Some, None, List, [], ◌∷◌, ◌++◌, length, Ok, refl, sym, ap, subst, ◌∙◌, append_assoc, arith, length-append}
use Rattle.std.specs.Prelude.{codes, ◌↔◌}
use Rattle.std.specs.List.{flat_map, AllByRecursion}
use Rattle.std.proofs.lemmas.Bool.{not-false}
use Rattle.ror_text.specs.Reading.{◌>>=◌, refuse}
use Rattle.ror_text.specs.SpacedLines.{line_text}
use Rattle.ror_text.proofs.ReadingLemmas.{bind_ok, refuse_ok}
use Rattle.ror_table.specs.Table.{DecisionTable, IsTable}
use Rattle.ror_proof.specs.declared.answer.Answer.{Answer}
use Rattle.ror_text.specs.Cursor.{Cursor, line_words}
use Rattle.ror_proof.specs.declared.answer.WideText.{WideText}
use Rattle.ror_proof.specs.declared.kept.Kept.{Kept}
use Rattle.ror_proof.specs.Text.{answer_text, kept_text, wide_text, IsPrintable, IsPrintableKept, IsPrintableNote}
use Rattle.ror_proof.specs.Reading.{kept_at, wide_line_of}
use Rattle.ror_proof.proofs.AnswerLemmas.{answer_begins}
use Rattle.ror_proof.proofs.RepairLemmas.{kept_reads_back, kept_is_text, kept_begins}
use Rattle.ror_proof.proofs.WideLines.{wide_line_of_again, wide_line_of_sound}
use Rattle.ror_report.specs.declared.block.Block.{Block}
use Rattle.ror_report.specs.declared.block.Body.{Body}
use Rattle.ror_report.specs.declared.block.Body.TheVariants.{Added, Withdrawn, Replaced, Undone, Repaired, RepairWide, Answers, Refused}
use Rattle.ror_report.specs.declared.names.BodyForm.{BodyForm}
use Rattle.ror_report.specs.declared.names.BodyForm.TheVariants as bodies
use Rattle.ror_report.specs.declared.names.LineForm.{LineForm}
use Rattle.ror_proof.specs.declared.read.ProofFault.TheVariants.{BadLine}
use Rattle.ror_proof.proofs.WordLemmas.{done, ok_is}
use Rattle.ror_report.specs.Names.{form_word}
use Rattle.ror_report.specs.Text.{numbered_text, body_text, block_text, IsPrintableBody, IsPrintableBlock}
use Rattle.ror_report.specs.Reading.{numbered_line, form_words, form_line, repaired_lines, repair_wide_lines, form_lines, form_of, ends_body, body_answers, formed_at, answers_at, body_of, body_at, block_at}
use Rattle.ror_report.specs.Laws.{IsBlockText}
use Rattle.ror_report.proofs.AnswerRuns.{answers_have_bytes, answers_again, answers_sound}
use Rattle.ror_report.proofs.Bodies.{body_ends}
use Rattle.ror_text.proofs.CursorLemmas.{Spans, spans_then, line_again, line_spans}
use Rattle.ror_report.proofs.LineForms.{base_is_small, numbered_again, numbered_sound, line_reads_back, line_is_read, IsOneLine, added_line, withdrawn_line, replaced_line, undone_line, refused_line, form_found, form_words_again, form_words_sound, no_form_at_answer, ends_no_form, form_at_repaired, form_at_repair_wide, repair_wide_begins}

-- ---- what was written is read again

-- no other body stands where the answers begin
no_form_ahead : (t : DecisionTable) (place : ℕ) (xs : List Answer) (rest : List ℕ) → ends_body rest ≡ true → form_of (line_words (record { place = place; rest = flat_map (answer_text t) xs ++ rest })) ≡ None
no_form_ahead t place [] rest ends = ends_no_form place rest ends
no_form_ahead t place (x ∷ xs) rest ends =
    let begins = answer_begins t x in
    ap (λ (l : List ℕ). form_of (line_words (record { place = place; rest = (l ++ flat_map (answer_text t) xs) ++ rest }))) begins.1 ∙ no_form_at_answer place ((begins.0 ++ flat_map (answer_text t) xs) ++ rest)

-- a body of a form, once its lines are read
formed_step : (t : DecisionTable) (c after : Cursor) (form : BodyForm) (body : Body) → form_of (line_words c) ≡ Some form → form_lines form c ≡ Ok (body, after) → ends_body after.rest ≡ true → body_at t c ≡ Ok (body, after)
unfolding body_at formed_at
formed_step t c after form body found lines ends = rw (found, lines, ends) refl

answers_step : (t : DecisionTable) (c after : Cursor) (body : Body) → form_of (line_words c) ≡ None → answers_at t c ≡ Ok (body, after) → body_at t c ≡ Ok (body, after)
unfolding body_at
answers_step t c after body none read = rw none read

one_line_reads_back : (t : DecisionTable) (body : Body) (place : ℕ) (rest : List ℕ) → IsOneLine t body → ends_body rest ≡ true
    → body_at t (record { place = place; rest = body_text t body ++ rest }) ≡ Ok (body, record { place = place + length (body_text t body); rest = rest })
one_line_reads_back t body place rest is ends =
    let first = form_word is.form in
    let line = line_text (first ∷ is.operand) in
    let found : form_of (line_words (record { place = place; rest = line ++ rest })) ≡ Some (bodies.OneLine is.form) = ap form_of (line_again place first is.operand rest is.are).0 ∙ form_found is.form in
    let read = line_reads_back (form_words is.form) body place first is.operand rest is.are (form_words_again t body is place) in
    let whole : body_at t (record { place = place; rest = line ++ rest }) ≡ Ok (body, record { place = place + length line; rest = rest }) = formed_step t _ _ (bodies.OneLine is.form) body found read ends in
    subst (λ (l : List ℕ). body_at t (record { place = place; rest = l ++ rest }) ≡ Ok (body, record { place = place + length l; rest = rest })) (sym is.written) whole

repaired_again : (x : Kept) (place : ℕ) (rest : List ℕ) → IsPrintableKept x → repaired_lines (record { place = place; rest = kept_text x ++ rest }) ≡ Ok (Repaired x, record { place = place + length (kept_text x); rest = rest })
unfolding repaired_lines
repaired_again x place rest printable = rw (kept_reads_back x place rest printable) refl

repaired_reads_back : (t : DecisionTable) (x : Kept) (place : ℕ) (rest : List ℕ) → IsPrintableKept x → ends_body rest ≡ true
    → body_at t (record { place = place; rest = kept_text x ++ rest }) ≡ Ok (Repaired x, record { place = place + length (kept_text x); rest = rest })
repaired_reads_back t x place rest printable ends =
    let begins = kept_begins x in
    let found : form_of (line_words (record { place = place; rest = kept_text x ++ rest })) ≡ Some bodies.Repaired = ap (λ (l : List ℕ). form_of (line_words (record { place = place; rest = l ++ rest }))) begins.1 ∙ form_at_repaired place (begins.0 ++ rest) in
    formed_step t _ _ bodies.Repaired (Repaired x) found (repaired_again x place rest printable) ends

repair_wide_again : (n : ℕ) (note : WideText) (place : ℕ) (rest : List ℕ) → n < 2 ^ 32 → IsPrintableNote 0 note
    → repair_wide_lines (record { place = place; rest = (numbered_text (codes "repair-wide") n ++ wide_text 0 note) ++ rest }) ≡ Ok (RepairWide n note, record { place = place + length (numbered_text (codes "repair-wide") n ++ wide_text 0 note); rest = rest })
unfolding repair_wide_lines
repair_wide_again n note place rest small printable =
    let front = numbered_text (codes "repair-wide") n in
    let back = wide_text 0 note in
    let regrouped : (front ++ back) ++ rest ≡ front ++ (back ++ rest) = append_assoc front back rest in
    let to : place + length front + length back ≡ place + length (front ++ back) = omega (arith, length-append front back) in
    ap (λ (r : List ℕ). repair_wide_lines (record { place = place; rest = r })) regrouped
    ∙ (rw (numbered_again (codes "repair-wide") place n (back ++ rest) refl small, wide_line_of_again (place + length front) 0 note rest printable)
    (ap (λ m. Ok (RepairWide n note, record { place = m; rest = rest })) to))

repair_wide_reads_back : (t : DecisionTable) (n : ℕ) (note : WideText) (place : ℕ) (rest : List ℕ) → n < 2 ^ 32 → IsPrintableNote 0 note → ends_body rest ≡ true
    → body_at t (record { place = place; rest = body_text t (RepairWide n note) ++ rest }) ≡ Ok (RepairWide n note, record { place = place + length (body_text t (RepairWide n note)); rest = rest })
repair_wide_reads_back t n note place rest small printable ends =
    let begins = repair_wide_begins n in
    let back = wide_text 0 note in
    let found : form_of (line_words (record { place = place; rest = (numbered_text (codes "repair-wide") n ++ back) ++ rest })) ≡ Some bodies.RepairWide =
    ap (λ (l : List ℕ). form_of (line_words (record { place = place; rest = (l ++ back) ++ rest }))) begins.1 ∙ form_at_repair_wide place ((begins.0 ++ back) ++ rest) in
    formed_step t _ _ bodies.RepairWide (RepairWide n note) found (repair_wide_again n note place rest small printable) ends

answers_read_back : (t : DecisionTable) (xs : List Answer) (place : ℕ) (rest : List ℕ) → IsTable t → AllByRecursion (IsPrintable t) xs → ends_body rest ≡ true
    → answers_at t (record { place = place; rest = flat_map (answer_text t) xs ++ rest }) ≡ Ok (Answers xs, record { place = place + length (flat_map (answer_text t) xs); rest = rest })
unfolding answers_at
answers_read_back t xs place rest table printable ends =
    let body = flat_map (answer_text t) xs in
    let room : length xs ≤ length (body ++ rest) = omega (arith, answers_have_bytes t xs, length-append body rest) in
    rw (answers_again ends_body body_ends t (length (body ++ rest)) place xs rest table printable ends room) refl

body_reads_back : (t : DecisionTable) (body : Body) (place : ℕ) (rest : List ℕ) → IsTable t → IsPrintableBody t body → ends_body rest ≡ true
    → body_at t (record { place = place; rest = body_text t body ++ rest }) ≡ Ok (body, record { place = place + length (body_text t body); rest = rest })
body_reads_back t (Added n) place rest table small ends = one_line_reads_back t (Added n) place rest (added_line t n small) ends
body_reads_back t (Withdrawn n) place rest table small ends = one_line_reads_back t (Withdrawn n) place rest (withdrawn_line t n small) ends
body_reads_back t (Replaced n) place rest table small ends = one_line_reads_back t (Replaced n) place rest (replaced_line t n small) ends
body_reads_back t Undone place rest table printable ends = one_line_reads_back t Undone place rest (undone_line t) ends
body_reads_back t (Repaired x) place rest table printable ends = repaired_reads_back t x place rest printable ends
body_reads_back t (RepairWide n note) place rest table printable ends = repair_wide_reads_back t n note place rest printable.0 printable.1 ends
body_reads_back t (Refused fault) place rest table printable ends = one_line_reads_back t (Refused fault) place rest (refused_line t fault) ends
body_reads_back t (Answers xs) place rest table printable ends =
    answers_step t _ _ (Answers xs) (no_form_ahead t place xs rest ends) (answers_read_back t xs place rest table printable ends)

pub block_reads_back : (t : DecisionTable) (b : Block) (place : ℕ) (rest : List ℕ) → IsTable t → IsPrintableBlock t b → ends_body rest ≡ true
    → block_at t (record { place = place; rest = block_text t b ++ rest }) ≡ Ok (b, record { place = place + length (block_text t b); rest = rest })
unfolding block_at block_text
block_reads_back t b place rest table printable ends =
    let front = numbered_text (codes "line") b.line in
    let body = body_text t b.body in
    let regrouped : (front ++ body) ++ rest ≡ front ++ (body ++ rest) = append_assoc front body rest in
    let to : place + length front + length body ≡ place + length (front ++ body) = omega (arith, length-append front body) in
    ap (λ (r : List ℕ). block_at t (record { place = place; rest = r })) regrouped
    ∙ (rw (numbered_again (codes "line") place b.line (body ++ rest) refl printable.number, body_reads_back t b.body (place + length front) rest table printable.body ends)
    (ap (λ m. Ok (b, record { place = m; rest = rest })) to))

-- ---- what is read was so written

-- what was read as a body
record IsReadBody (t : DecisionTable) (c : Cursor) (body : Body) (after : Cursor) : Type 0 where
  spans : Spans c (body_text t body) after
  printable : IsPrintableBody t body
  ended : ends_body after.rest ≡ true

-- what was read as the lines of a body
record AreReadLines (t : DecisionTable) (c : Cursor) (body : Body) (after : Cursor) : Type 0 where
  spans : Spans c (body_text t body) after
  printable : IsPrintableBody t body

one_line_sound : (t : DecisionTable) (form : LineForm) (c : Cursor) (x : Body × Cursor) → form_line form c ≡ Ok x → AreReadLines t c x.0 x.1
one_line_sound t form c x e =
    let line = line_is_read c (form_words form c.place (line_words c)) x e in
    let read = form_words_sound t form c.place (line_words c) x.0 line.0 in
    record {
      spans = subst (λ (l : List ℕ). Spans c l x.1) (sym read.0) (line_spans c x.1 (line_words c) refl line.1);
      printable = read.1;
    }

repaired_sound : (t : DecisionTable) (c : Cursor) (x : Body × Cursor) → repaired_lines c ≡ Ok x → AreReadLines t c x.0 x.1
unfolding repaired_lines
repaired_sound t c x e =
    let a = bind_ok (kept_at c) (λ kept. done (Repaired kept.0, kept.1)) x e in
    let kept = kept_is_text c a.0.0 a.0.1 a.1 in
    subst (λ (y : Body × Cursor). AreReadLines t c y.0 y.1) {x = (Repaired a.0.0, a.0.1)} (ok_is (Repaired a.0.0, a.0.1) x a.2) (record {
      spans = record { rest = kept.text; place = kept.place };
      printable = kept.printable;
    })

repair_wide_sound : (t : DecisionTable) (c : Cursor) (x : Body × Cursor) → repair_wide_lines c ≡ Ok x → AreReadLines t c x.0 x.1
unfolding repair_wide_lines
repair_wide_sound t c x e =
    let made = λ (n : ℕ) (note : WideText × Cursor). done (RepairWide n note.0, note.1) in
    let a = bind_ok (numbered_line (codes "repair-wide") c) (λ number. wide_line_of 0 number.1 >>= λ note. made number.0 note) x e in
    let b = bind_ok (wide_line_of 0 a.0.1) (λ note. made a.0.0 note) x a.2 in
    let line = numbered_sound (codes "repair-wide") c a.0 a.1 in
    let wide = wide_line_of_sound 0 a.0.1 b.0 base_is_small b.1 in
    subst (λ (y : Body × Cursor). AreReadLines t c y.0 y.1) {x = (RepairWide a.0.0 b.0.0, b.0.1)} (ok_is (RepairWide a.0.0 b.0.0, b.0.1) x b.2) (record {
      spans = spans_then c a.0.1 b.0.1 (numbered_text (codes "repair-wide") a.0.0) (wide_text 0 b.0.0) line.0 wide.0;
      printable = (line.1, wide.1);
    })

lines_sound : (t : DecisionTable) (form : BodyForm) (c : Cursor) (x : Body × Cursor) → form_lines form c ≡ Ok x → AreReadLines t c x.0 x.1
lines_sound t (bodies.OneLine form) c x e = one_line_sound t form c x e
lines_sound t bodies.Repaired c x e = repaired_sound t c x e
lines_sound t bodies.RepairWide c x e = repair_wide_sound t c x e

formed_sound : (t : DecisionTable) (form : BodyForm) (c : Cursor) (x : Body × Cursor) → formed_at form c ≡ Ok x → IsReadBody t c x.0 x.1
unfolding formed_at
formed_sound t form c x e =
    let a = bind_ok (form_lines form c) (λ body. refuse (BadLine body.1.place) (not (ends_body body.1.rest)) >>= λ _. done body) x e in
    let b = bind_ok (refuse (BadLine a.0.1.place) (not (ends_body a.0.1.rest))) (λ _. done a.0) x a.2 in
    let lines = lines_sound t form c a.0 a.1 in
    subst (λ (y : Body × Cursor). IsReadBody t c y.0 y.1) (ok_is a.0 x b.2) (record {
      spans = lines.spans;
      printable = lines.printable;
      ended = not-false _ (refuse_ok _ _ b.0 b.1);
    })

answers_are_read : (t : DecisionTable) (c : Cursor) (x : Body × Cursor) → answers_at t c ≡ Ok x → IsReadBody t c x.0 x.1
unfolding answers_at
answers_are_read t c x e =
    let a = bind_ok (body_answers t (length c.rest) c) (λ answers. done (Answers answers.0, answers.1)) x e in
    let answers = answers_sound ends_body body_ends t (length c.rest) c a.0 a.1 (omega arith) in
    subst (λ (y : Body × Cursor). IsReadBody t c y.0 y.1) {x = (Answers a.0.0, a.0.1)} (ok_is (Answers a.0.0, a.0.1) x a.2) (record {
      spans = answers.spans;
      printable = answers.printable;
      ended = answers.ended;
    })

read_body_of : (t : DecisionTable) (form : Option BodyForm) (c : Cursor) (x : Body × Cursor) → body_of t form c ≡ Ok x → IsReadBody t c x.0 x.1
read_body_of t (Some form) c x e = formed_sound t form c x e
read_body_of t None c x e = answers_are_read t c x e

read_body : (t : DecisionTable) (c : Cursor) (x : Body × Cursor) → body_at t c ≡ Ok x → IsReadBody t c x.0 x.1
unfolding body_at
read_body t c x e = read_body_of t (form_of (line_words c)) c x e

pub block_is_text : (t : DecisionTable) (c : Cursor) (b : Block) (after : Cursor) → block_at t c ≡ Ok (b, after) → IsBlockText t c b after
unfolding block_at block_text
block_is_text t c b after e =
    let made = λ (n : ℕ) (body : Body × Cursor). done (record { line = n; body = body.0 }, body.1) in
    let a = bind_ok (numbered_line (codes "line") c) (λ line. body_at t line.1 >>= λ body. made line.0 body) (b, after) e in
    let d = bind_ok (body_at t a.0.1) (λ body. made a.0.0 body) (b, after) a.2 in
    let line = numbered_sound (codes "line") c a.0 a.1 in
    let body = read_body t a.0.1 d.0 d.1 in
    let block : Block = record { line = a.0.0; body = d.0.0 } in
    let spans = spans_then c a.0.1 d.0.1 (numbered_text (codes "line") a.0.0) (body_text t d.0.0) line.0 body.spans in
    subst (λ (y : Block × Cursor). IsBlockText t c y.0 y.1) {x = (block, d.0.1)} (ok_is (block, d.0.1) (b, after) d.2) (record {
      text = spans.rest;
      place = spans.place;
      printable = record { number = line.1; body = body.printable };
      ended = body.ended;
    })

-- ---- the two directions as one

pub is_read_iff_text : (t : DecisionTable) (c : Cursor) (b : Block) (after : Cursor) → IsTable t → (block_at t c ≡ Ok (b, after)) ↔ IsBlockText t c b after
is_read_iff_text t c b after table = (
  block_is_text t c b after,
  λ is.
      let written = block_reads_back t b c.place after.rest table is.printable is.ended in
      ap (λ (r : List ℕ). block_at t (record { place = c.place; rest = r })) is.text ∙ written ∙ ap (λ n. Ok (b, record { place = n; rest = after.rest })) (sym is.place),
)
