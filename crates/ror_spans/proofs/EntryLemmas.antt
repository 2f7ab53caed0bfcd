-- Entries as texts, both ways: what was written is read again, and what is read was so written.
use Rattle.std.proofs.Common.{◌≡◌, ℕ, zero, suc, ◌+◌, ◌<◌, ◌≤◌, true, false, List, [], ◌∷◌, ◌++◌, length, Ok, refl, sym, ap, subst, ◌∙◌, append_assoc, arith, inl, inr, length-append}
use Rattle.std.specs.Prelude.{◌↔◌, codes}
use Rattle.std.specs.List.{flat_map, AllByRecursion}
use Rattle.std.proofs.lemmas.Bool.{cases_Bool}
use Rattle.ror_text.specs.Reading.{◌>>=◌}
use Rattle.ror_text.specs.Cursor.{Cursor}
use Rattle.ror_text.proofs.CursorLemmas.{Spans, spans_then}
use Rattle.ror_text.proofs.ReadingLemmas.{bind_ok}
use Rattle.ror_table.specs.Table.{DecisionTable, IsTable}
use Rattle.ror_proof.specs.declared.answer.Answer.{Answer}
use Rattle.ror_proof.specs.Text.{answer_text, IsPrintable}
use Rattle.ror_proof.specs.Reading.{begins_part, answer_at}
use Rattle.ror_proof.proofs.AnswerLemmas.{answer_reads_back, answer_is_text}
use Rattle.ror_proof.proofs.WordLemmas.{done, ok_is}
use Rattle.ror_report.proofs.LineForms.{numbered_again, numbered_sound}
use Rattle.ror_confidence.specs.declared.span.LevelAnswer.{LevelAnswer}
use Rattle.ror_confidence.specs.declared.span.Span.{Span}
use Rattle.ror_spans.specs.declared.entry.Entry.{Entry}
use Rattle.ror_spans.specs.declared.entry.Entry.TheVariants as entries
use Rattle.ror_spans.specs.declared.read.Said.{Said}
use Rattle.ror_spans.specs.declared.read.Said.TheVariants as said
use Rattle.ror_spans.specs.declared.read.Head.{Head}
use Rattle.ror_spans.specs.Reading.{pair_line, level_line, level_answer_at, begins_level, level_answers_at, body_at, entry_at}
use Rattle.ror_spans.specs.Text.{level_answer_text, entry_text, IsPrintableAt, IsPrintableEntry}
use Rattle.ror_spans.specs.EntryLaws.{IsEndedAfter, IsEnded, IsEntryText}
use Rattle.ror_spans.proofs.LevelLoops.{answer_step, no_answers}
use Rattle.ror_spans.proofs.EntryLines.{IsHead, head_text, pair_again, pair_sound, level_text, level_answer_begins}
use Rattle.ror_spans.proofs.EntryEnds.{no_part_ends}

-- ---- an answer with the line of its level

abbrev at_level : ℕ → Answer → LevelAnswer
at_level level x = record { level = level; answer = x }

pub level_answer_step : (t : DecisionTable) (c d after : Cursor) (level : ℕ) (x : Answer) → level_line c ≡ Ok (level, d) → answer_at t d ≡ Ok (x, after) → level_answer_at t c ≡ Ok (at_level level x, after)
unfolding level_answer_at
level_answer_step t c d after level x line answer = rw (line, answer) refl

level_answer_again : (t : DecisionTable) (x : LevelAnswer) (place : ℕ) (rest : List ℕ) → IsTable t → IsPrintableAt t x → begins_part rest ≡ false
    → level_answer_at t (record { place = place; rest = level_answer_text t x ++ rest }) ≡ Ok (x, record { place = place + length (level_answer_text t x); rest = rest })
level_answer_again t x place rest table printable none =
    let front = level_text x.level in
    let back = answer_text t x.answer in
    let regrouped : (front ++ back) ++ rest ≡ front ++ (back ++ rest) = append_assoc front back rest in
    let to : place + length front + length back ≡ place + length (front ++ back) = omega (arith, length-append front back) in
    ap (λ (r : List ℕ). level_answer_at t (record { place = place; rest = r })) regrouped
    ∙ level_answer_step t _ _ _ x.level x.answer (numbered_again (codes "level") place x.level (back ++ rest) refl printable.0) (answer_reads_back t x.answer (place + length front) rest table printable.1 none)
    ∙ ap (λ n. Ok (x, record { place = n; rest = rest })) to

-- what was read as an answer with its level
pub record IsReadAnswer (t : DecisionTable) (c : Cursor) (x : LevelAnswer) (after : Cursor) : Type 0 where
  pub spans : Spans c (level_answer_text t x) after
  pub printable : IsPrintableAt t x
  pub no_part : begins_part after.rest ≡ false

level_answer_sound : (t : DecisionTable) (c : Cursor) (x : LevelAnswer × Cursor) → level_answer_at t c ≡ Ok x → IsReadAnswer t c x.0 x.1
unfolding level_answer_at
level_answer_sound t c x e =
    let a = bind_ok (level_line c) (λ level. answer_at t level.1 >>= λ answer. done (at_level level.0 answer.0, answer.1)) x e in
    let b = bind_ok (answer_at t a.0.1) (λ answer. done (at_level a.0.0 answer.0, answer.1)) x a.2 in
    let line = numbered_sound (codes "level") c a.0 a.1 in
    let text = answer_is_text t a.0.1 b.0.0 b.0.1 b.1 in
    subst (λ (y : LevelAnswer × Cursor). IsReadAnswer t c y.0 y.1) (ok_is (at_level a.0.0 b.0.0, b.0.1) x b.2) (record {
      spans = spans_then c a.0.1 b.0.1 (level_text a.0.0) (answer_text t b.0.0) line.0 (record { rest = text.text; place = text.place });
      printable = (line.1, text.printable);
      no_part = text.no_further_part;
    })

-- ---- the answers of a proof

level_goes_on : (t : DecisionTable) (x : LevelAnswer) (rest : List ℕ) → begins_level (level_answer_text t x ++ rest) ≡ true
level_goes_on t x rest = ap (λ (l : List ℕ). begins_level (l ++ rest)) (level_answer_begins t x).1

no_part_behind : (t : DecisionTable) (x : LevelAnswer) (xs : List LevelAnswer) (rest : List ℕ) → IsEndedAfter (x ∷ xs) rest → begins_part (flat_map (level_answer_text t) xs ++ rest) ≡ false
no_part_behind t x [] rest ended = ended
no_part_behind t x (y ∷ ys) rest ended = ap (λ (l : List ℕ). begins_part ((l ++ flat_map (level_answer_text t) ys) ++ rest)) (level_answer_begins t y).1

answers_again : (t : DecisionTable) (most place : ℕ) (xs : List LevelAnswer) (rest : List ℕ) → IsTable t → AllByRecursion (IsPrintableAt t) xs → begins_level rest ≡ false → IsEndedAfter xs rest → length xs ≤ most
    → level_answers_at t most (record { place = place; rest = flat_map (level_answer_text t) xs ++ rest }) ≡ Ok (xs, record { place = place + length (flat_map (level_answer_text t) xs); rest = rest })
answers_again t most place [] rest table printable no_level ended room = no_answers t most (record { place = place; rest = rest }) no_level ∙ ap (λ n. Ok ([], record { place = n; rest = rest })) (omega arith)
answers_again t zero place (x ∷ xs) rest table printable no_level ended room = absurd (omega arith)
answers_again t (suc most) place (x ∷ xs) rest table printable no_level ended room =
    let front = level_answer_text t x in
    let others = flat_map (level_answer_text t) xs in
    let tail = others ++ rest in
    let start : Cursor = record { place = place; rest = (front ++ others) ++ rest } in
    let regrouped : (front ++ others) ++ rest ≡ front ++ tail = append_assoc front others rest in
    let more : begins_level start.rest ≡ true = ap begins_level regrouped ∙ level_goes_on t x tail in
    let first : level_answer_at t start ≡ Ok (x, record { place = place + length front; rest = tail }) = ap (λ r. level_answer_at t (record { place = place; rest = r })) regrouped ∙ level_answer_again t x place tail table printable.0 (no_part_behind t x xs rest ended) in
    let later = answers_again t most (place + length front) xs rest table printable.1 no_level (no_part_ends xs rest ended) (omega arith) in
    let to : place + length front + length others ≡ place + length (front ++ others) = omega (arith, length-append front others) in
    answer_step t most start more ∙ (rw (first, later) (ap (λ n. Ok (x ∷ xs, record { place = n; rest = rest })) to))

pub level_answer_has_bytes : (t : DecisionTable) (x : LevelAnswer) → 0 < length (level_answer_text t x)
level_answer_has_bytes t x = let begins = level_answer_begins t x in omega (arith, ap length begins.1)

answers_have_bytes : (t : DecisionTable) (xs : List LevelAnswer) → length xs ≤ length (flat_map (level_answer_text t) xs)
answers_have_bytes t [] = omega arith
answers_have_bytes t (x ∷ xs) = omega (arith, answers_have_bytes t xs, level_answer_has_bytes t x, length-append (level_answer_text t x) (flat_map (level_answer_text t) xs))

-- what was read as the answers of a proof
record AreReadAnswers (t : DecisionTable) (c : Cursor) (xs : List LevelAnswer) (after : Cursor) : Type 0 where
  spans : Spans c (flat_map (level_answer_text t) xs) after
  printable : AllByRecursion (IsPrintableAt t) xs
  no_level : begins_level after.rest ≡ false
  ended : IsEndedAfter xs after.rest

no_answer_read : (t : DecisionTable) (most : ℕ) (c : Cursor) (x : List LevelAnswer × Cursor) → begins_level c.rest ≡ false → level_answers_at t most c ≡ Ok x → AreReadAnswers t c x.0 x.1
no_answer_read t most c x no_level e =
    subst (λ (y : List LevelAnswer × Cursor). AreReadAnswers t c y.0 y.1) (ok_is ([], c) x (sym (no_answers t most c no_level) ∙ e)) (record { spans = record { rest = refl; place = omega arith }; printable = tt; no_level = no_level; ended = tt })

nothing_ends : (bytes : List ℕ) → length bytes ≤ 0 → begins_level bytes ≡ false
nothing_ends [] none = refl
nothing_ends (b ∷ bs) none = absurd (omega arith)

-- no part follows the last of these and one before
ended_behind : (t : DecisionTable) (xs : List LevelAnswer) (c after : Cursor) → Spans c (flat_map (level_answer_text t) xs) after → begins_part c.rest ≡ false → IsEndedAfter xs after.rest → begins_part after.rest ≡ false
ended_behind t [] c after spans none ended = subst (λ (r : List ℕ). begins_part r ≡ false) spans.rest none
ended_behind t (x ∷ xs) c after spans none ended = ended

answers_sound : (t : DecisionTable) (most : ℕ) (c : Cursor) (x : List LevelAnswer × Cursor) → level_answers_at t most c ≡ Ok x → length c.rest ≤ most → AreReadAnswers t c x.0 x.1
answers_sound t zero c x e room = no_answer_read t zero c x (nothing_ends c.rest room) e
answers_sound t (suc most) c x e room =
    elim (cases_Bool (begins_level c.rest)) [
      | inl more ↦
          let a = bind_ok (level_answer_at t c) (λ first. level_answers_at t most first.1 >>= λ others. done (first.0 ∷ others.0, others.1)) x (sym (answer_step t most c more) ∙ e) in
          let b = bind_ok (level_answers_at t most a.0.1) (λ others. done (a.0.0 ∷ others.0, others.1)) x a.2 in
          let first = level_answer_sound t c a.0 a.1 in
          let all : length c.rest ≡ length (level_answer_text t a.0.0) + length a.0.1.rest = ap length first.spans.rest ∙ length-append (level_answer_text t a.0.0) a.0.1.rest in
          let others = answers_sound t most a.0.1 b.0 b.1 (omega (arith, all, level_answer_has_bytes t a.0.0)) in
          subst (λ (y : List LevelAnswer × Cursor). AreReadAnswers t c y.0 y.1) (ok_is (a.0.0 ∷ b.0.0, b.0.1) x b.2) (record {
            spans = spans_then c a.0.1 b.0.1 (level_answer_text t a.0.0) (flat_map (level_answer_text t) b.0.0) first.spans others.spans;
            printable = (first.printable, others.printable);
            no_level = others.no_level;
            ended = ended_behind t b.0.0 a.0.1 b.0.1 others.spans first.no_part others.ended;
          })
      | inr none ↦ no_answer_read t (suc most) c x none e
    ]

-- ---- the line of the pair, and what follows it

abbrev pub head_of : Entry → Head
head_of (entries.Known first second span) = record { first = first; second = second; said = said.Known span.contradictory span.necessary span.possible }
head_of (entries.Wide first second found) = record { first = first; second = second; said = said.Wide found.level }

abbrev body_text : DecisionTable → Entry → List ℕ
body_text t (entries.Known first second span) = flat_map (level_answer_text t) span.proof
body_text t (entries.Wide first second found) = answer_text t found.answer

pieces : (t : DecisionTable) (x : Entry) → entry_text t x ≡ head_text t (head_of x) ++ body_text t x
unfolding entry_text
pieces t (entries.Known first second span) = refl
pieces t (entries.Wide first second found) = refl

head_is : (t : DecisionTable) (x : Entry) → IsPrintableEntry t x → IsHead t (head_of x)
head_is t (entries.Known first second span) printable = record { first = printable.0; second = printable.1; small = (printable.2.contradictory, printable.2.necessary, printable.2.possible) }
head_is t (entries.Wide first second found) printable = record { first = printable.0; second = printable.1; small = printable.2.0 }

body_again : (t : DecisionTable) (x : Entry) (place : ℕ) (rest : List ℕ) → IsTable t → IsPrintableEntry t x → IsEnded x rest
    → body_at t (head_of x).first (head_of x).second (head_of x).said (record { place = place; rest = body_text t x ++ rest }) ≡ Ok (x, record { place = place + length (body_text t x); rest = rest })
unfolding body_at
body_again t (entries.Known first second span) place rest table printable ended =
    let body = flat_map (level_answer_text t) span.proof in
    let room : length span.proof ≤ length (body ++ rest) = omega (arith, answers_have_bytes t span.proof, length-append body rest) in
    rw (answers_again t (length (body ++ rest)) place span.proof rest table printable.2.proof ended.0 ended.1 room) refl
body_again t (entries.Wide first second found) place rest table printable ended = rw (answer_reads_back t found.answer place rest table printable.2.1 ended) refl

entry_step : (t : DecisionTable) (c d after : Cursor) (h : Head) (x : Entry) → pair_line t c ≡ Ok (h, d) → body_at t h.first h.second h.said d ≡ Ok (x, after) → entry_at t c ≡ Ok (x, after)
unfolding entry_at
entry_step t c d after h x pair body = rw (pair, body) refl

pub entry_reads_back : (t : DecisionTable) (x : Entry) (place : ℕ) (rest : List ℕ) → IsTable t → IsPrintableEntry t x → IsEnded x rest
    → entry_at t (record { place = place; rest = entry_text t x ++ rest }) ≡ Ok (x, record { place = place + length (entry_text t x); rest = rest })
entry_reads_back t x place rest table printable ended =
    let front = head_text t (head_of x) in
    let back = body_text t x in
    let regrouped : entry_text t x ++ rest ≡ front ++ (back ++ rest) = ap (λ (l : List ℕ). l ++ rest) (pieces t x) ∙ append_assoc front back rest in
    let to : place + length front + length back ≡ place + length (entry_text t x) = omega (arith, ap length (pieces t x), length-append front back) in
    let pair = pair_again t place (head_of x) (back ++ rest) table (head_is t x printable) in
    let body = body_again t x (place + length front) rest table printable ended in
    ap (λ (r : List ℕ). entry_at t (record { place = place; rest = r })) regrouped
    ∙ entry_step t _ _ _ (head_of x) x pair body
    ∙ ap (λ n. Ok (x, record { place = n; rest = rest })) to

-- ---- what is read was so written

abbrev IsPrintableBody : DecisionTable → Entry → Type 0
IsPrintableBody t (entries.Known first second span) = AllByRecursion (IsPrintableAt t) span.proof
IsPrintableBody t (entries.Wide first second found) = IsPrintable t found.answer

-- what was read behind the line of a pair
record IsReadBody (t : DecisionTable) (h : Head) (c : Cursor) (x : Entry) (after : Cursor) : Type 0 where
  head : h ≡ head_of x
  spans : Spans c (body_text t x) after
  printable : IsPrintableBody t x
  ended : IsEnded x after.rest

abbrev with_proof : ℕ → ℕ → ℕ → List LevelAnswer → Span
with_proof c n p xs = record { contradictory = c; necessary = n; possible = p; proof = xs }

body_sound : (t : DecisionTable) (a b : ℕ) (s : Said) (c : Cursor) (x : Entry × Cursor) → body_at t a b s c ≡ Ok x → IsReadBody t (record { first = a; second = b; said = s }) c x.0 x.1
unfolding body_at
body_sound t a b (said.Known k n p) c x e =
    let r = bind_ok (level_answers_at t (length c.rest) c) (λ answers. done (entries.Known a b (with_proof k n p answers.0), answers.1)) x e in
    let answers = answers_sound t (length c.rest) c r.0 r.1 (omega arith) in
    subst (λ (y : Entry × Cursor). IsReadBody t (record { first = a; second = b; said = said.Known k n p }) c y.0 y.1) {x = (entries.Known a b (with_proof k n p r.0.0), r.0.1)} (ok_is (entries.Known a b (with_proof k n p r.0.0), r.0.1) x r.2) (record { head = refl; spans = answers.spans; printable = answers.printable; ended = (answers.no_level, answers.ended) })
body_sound t a b (said.Wide level) c x e =
    let r = bind_ok (answer_at t c) (λ answer. done (entries.Wide a b (at_level level answer.0), answer.1)) x e in
    let text = answer_is_text t c r.0.0 r.0.1 r.1 in
    subst (λ (y : Entry × Cursor). IsReadBody t (record { first = a; second = b; said = said.Wide level }) c y.0 y.1) {x = (entries.Wide a b (at_level level r.0.0), r.0.1)} (ok_is (entries.Wide a b (at_level level r.0.0), r.0.1) x r.2) (record { head = refl; spans = record { rest = text.text; place = text.place }; printable = text.printable; ended = text.no_further_part })

whole_printable : (t : DecisionTable) (x : Entry) → IsHead t (head_of x) → IsPrintableBody t x → IsPrintableEntry t x
whole_printable t (entries.Known first second span) head body = (head.first, head.second, record { contradictory = head.small.0; necessary = head.small.1; possible = head.small.2; proof = body })
whole_printable t (entries.Wide first second found) head body = (head.first, head.second, (head.small, body))

pub entry_is_text : (t : DecisionTable) (c : Cursor) (x : Entry) (after : Cursor) → entry_at t c ≡ Ok (x, after) → IsEntryText t c x after
unfolding entry_at
entry_is_text t c x after e =
    let a = bind_ok (pair_line t c) (λ head. body_at t head.0.first head.0.second head.0.said head.1) (x, after) e in
    let pair = pair_sound t c a.0 a.1 in
    let body = body_sound t a.0.0.first a.0.0.second a.0.0.said a.0.1 (x, after) a.2 in
    let front : Spans c (head_text t (head_of x)) a.0.1 = subst (λ (h : Head). Spans c (head_text t h) a.0.1) body.head pair.spans in
    let spans = spans_then c a.0.1 after (head_text t (head_of x)) (body_text t x) front body.spans in
    record {
      text = spans.rest ∙ ap (λ (l : List ℕ). l ++ after.rest) (sym (pieces t x));
      place = spans.place ∙ ap (λ (l : List ℕ). c.place + length l) (sym (pieces t x));
      printable = whole_printable t x (subst (IsHead t) body.head pair.head) body.printable;
      ended = body.ended;
    }

-- ---- the two directions as one

pub is_read_iff_text : (t : DecisionTable) (c : Cursor) (x : Entry) (after : Cursor) → IsTable t → (entry_at t c ≡ Ok (x, after)) ↔ IsEntryText t c x after
is_read_iff_text t c x after table = (
  entry_is_text t c x after,
  λ is.
      let written = entry_reads_back t x c.place after.rest table is.printable is.ended in
      ap (λ (r : List ℕ). entry_at t (record { place = c.place; rest = r })) is.text ∙ written ∙ ap (λ n. Ok (x, record { place = n; rest = after.rest })) (sym is.place),
)

pub one_text : (t : DecisionTable) (x y : Entry) (more rest : List ℕ) → IsTable t → IsPrintableEntry t x → IsPrintableEntry t y → IsEnded x more → IsEnded y rest → entry_text t x ++ more ≡ entry_text t y ++ rest → x ≡ y
one_text t x y more rest table px py ex ey same =
    let read = ok_is _ _ (sym (entry_reads_back t x 0 more table px ex) ∙ ap (λ (r : List ℕ). entry_at t (record { place = 0; rest = r })) same ∙ entry_reads_back t y 0 rest table py ey) in
    ap (λ (r : Entry × Cursor). r.0) read
