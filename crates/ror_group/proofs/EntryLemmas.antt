-- Entries as texts, both ways: what was written is read again, and what is read was so written.
use Rattle.std.proofs.Common.{◌≡◌, ℕ, ◌+◌, ◌≤◌, List, ◌++◌, length, Ok, refl, sym, ap, subst, ◌∙◌, append_assoc, arith, length-append}
use Rattle.std.specs.Prelude.{◌↔◌}
use Rattle.std.specs.List.{flat_map}
use Rattle.ror_text.specs.Reading.{◌>>=◌}
use Rattle.ror_text.specs.Cursor.{Cursor}
use Rattle.ror_text.proofs.CursorLemmas.{spans_then}
use Rattle.ror_text.proofs.ReadingLemmas.{bind_ok}
use Rattle.ror_table.specs.Table.{DecisionTable, IsTable}
use Rattle.ror_proof.specs.declared.answer.Answer.{Answer}
use Rattle.ror_proof.specs.Text.{answer_text}
use Rattle.ror_proof.proofs.WordLemmas.{done, ok_is}
use Rattle.ror_report.proofs.AnswerRuns.{answers_have_bytes, answers_again, answers_sound}
use Rattle.ror_group.specs.declared.entry.Entry.{Entry}
use Rattle.ror_group.specs.declared.quartet.Quartet.{Quartet}
use Rattle.ror_group.specs.Reading.{pair_line, quartet_line, ends_answers, entry_answers, entry_at}
use Rattle.ror_group.specs.Text.{pair_text, group_text, entry_text, IsPrintableEntry}
use Rattle.ror_group.specs.EntryLaws.{IsEntryText}
use Rattle.ror_group.proofs.EntryLines.{pair_again, pair_sound, quartet_again, quartet_sound, ends_at_group, entry_ends}

-- ---- what was written is read again

entry_step : (t : DecisionTable) (c d e after : Cursor) (a b : ℕ) (xs : List Answer) (q : Quartet) → pair_line t c ≡ Ok ((a, b), d) → entry_answers t (length d.rest) d ≡ Ok (xs, e) → quartet_line e ≡ Ok (q, after) → entry_at t c ≡ Ok (record { first = a; second = b; answers = xs; quartet = q }, after)
unfolding entry_at
entry_step t c d e after a b xs q pair answers quartet = rw (pair, answers, quartet) refl

pub entry_reads_back : (t : DecisionTable) (x : Entry) (place : ℕ) (rest : List ℕ) → IsTable t → IsPrintableEntry t x
    → entry_at t (record { place = place; rest = entry_text t x ++ rest }) ≡ Ok (x, record { place = place + length (entry_text t x); rest = rest })
unfolding entry_text
entry_reads_back t x place rest table printable =
    let front = pair_text t x.first x.second in
    let body = flat_map (answer_text t) x.answers in
    let back = group_text x.quartet in
    let regrouped : (front ++ (body ++ back)) ++ rest ≡ front ++ (body ++ (back ++ rest)) = append_assoc front (body ++ back) rest ∙ ap (λ (l : List ℕ). front ++ l) (append_assoc body back rest) in
    let to : place + length front + length body + length back ≡ place + length (front ++ (body ++ back)) = omega (arith, length-append front (body ++ back), length-append body back) in
    let room : length x.answers ≤ length (body ++ (back ++ rest)) = omega (arith, answers_have_bytes t x.answers, length-append body (back ++ rest)) in
    let pair = pair_again t place x.first x.second (body ++ (back ++ rest)) table printable.first printable.second in
    let answers = answers_again ends_answers entry_ends t (length (body ++ (back ++ rest))) (place + length front) x.answers (back ++ rest) table printable.answers (ends_at_group x.quartet rest) room in
    let quartet = quartet_again (place + length front + length body) x.quartet rest in
    ap (λ (r : List ℕ). entry_at t (record { place = place; rest = r })) regrouped
    ∙ entry_step t _ _ _ _ x.first x.second x.answers x.quartet pair answers quartet
    ∙ ap (λ n. Ok (x, record { place = n; rest = rest })) to

-- ---- what is read was so written

abbrev entry_made : ℕ × ℕ → List Answer → Quartet → Entry
entry_made p xs q = record { first = p.0; second = p.1; answers = xs; quartet = q }

pub entry_is_text : (t : DecisionTable) (c : Cursor) (x : Entry) (after : Cursor) → entry_at t c ≡ Ok (x, after) → IsEntryText t c x after
unfolding entry_at entry_text
entry_is_text t c x after e =
    let made = λ (p : ℕ × ℕ) (xs : List Answer) (q : Quartet × Cursor). done (entry_made p xs q.0, q.1) in
    let a = bind_ok (pair_line t c) (λ pair. entry_answers t (length pair.1.rest) pair.1 >>= λ answers. quartet_line answers.1 >>= λ quartet. made pair.0 answers.0 quartet) (x, after) e in
    let b = bind_ok (entry_answers t (length a.0.1.rest) a.0.1) (λ answers. quartet_line answers.1 >>= λ quartet. made a.0.0 answers.0 quartet) (x, after) a.2 in
    let d = bind_ok (quartet_line b.0.1) (λ quartet. made a.0.0 b.0.0 quartet) (x, after) b.2 in
    let pair = pair_sound t c a.0 a.1 in
    let answers = answers_sound ends_answers entry_ends t (length a.0.1.rest) a.0.1 b.0 b.1 (omega arith) in
    let quartet = quartet_sound b.0.1 d.0 d.1 in
    let back = spans_then a.0.1 b.0.1 d.0.1 (flat_map (answer_text t) b.0.0) (group_text d.0.0) answers.spans quartet in
    let spans = spans_then c a.0.1 d.0.1 (pair_text t a.0.0.0 a.0.0.1) (flat_map (answer_text t) b.0.0 ++ group_text d.0.0) pair.spans back in
    subst (λ (y : Entry × Cursor). IsEntryText t c y.0 y.1) {x = (entry_made a.0.0 b.0.0 d.0.0, d.0.1)} (ok_is (entry_made a.0.0 b.0.0 d.0.0, d.0.1) (x, after) d.2) (record {
      text = spans.rest;
      place = spans.place;
      printable = record { first = pair.first; second = pair.second; answers = answers.printable };
    })

-- ---- the two directions as one

pub is_read_iff_text : (t : DecisionTable) (c : Cursor) (x : Entry) (after : Cursor) → IsTable t → (entry_at t c ≡ Ok (x, after)) ↔ IsEntryText t c x after
is_read_iff_text t c x after table = (
  entry_is_text t c x after,
  λ is.
      let written = entry_reads_back t x c.place after.rest table is.printable in
      ap (λ (r : List ℕ). entry_at t (record { place = c.place; rest = r })) is.text ∙ written ∙ ap (λ n. Ok (x, record { place = n; rest = after.rest })) (sym is.place),
)

pub one_text : (t : DecisionTable) (x y : Entry) (more rest : List ℕ) → IsTable t → IsPrintableEntry t x → IsPrintableEntry t y → entry_text t x ++ more ≡ entry_text t y ++ rest → x ≡ y
one_text t x y more rest table px py same =
    let read = ok_is _ _ (sym (entry_reads_back t x 0 more table px) ∙ ap (λ (r : List ℕ). entry_at t (record { place = 0; rest = r })) same ∙ entry_reads_back t y 0 rest table py) in
    ap (λ (r : Entry × Cursor). r.0) read
