-- Repairs as texts, both ways: what was written is read again, and what is read was so written.
use Rattle.std.proofs.Common.{◌≡◌, ℕ, zero, suc, ◌+◌, ◌<◌, ◌^◌, true, List, [], ◌∷◌, ◌++◌, length, drop, get_or, Result, Ok, refl, sym, ap, subst, ◌∙◌, append_assoc, arith, length-append}
use Rattle.std.specs.Prelude.{codes, ◌↔◌}
use Rattle.std.specs.Fmt.{decimal}
use Rattle.std.specs.List.{AllByRecursion, flat_map}
use Rattle.std.proofs.lemmas.Bool.{and_from}
use Rattle.ror_text.specs.Cursor.{Cursor, line_words}
use Rattle.ror_text.specs.Reading.{◌>>=◌}
use Rattle.ror_text.specs.SpacedLines.{are_words, line_text}
use Rattle.ror_text.proofs.CursorLemmas.{Spans, spans_then, line_spans}
use Rattle.ror_text.proofs.NumberLemmas.{is_word-decimal}
use Rattle.ror_text.proofs.ReadingLemmas.{bind_ok}
use Rattle.ror_system.specs.declared.accept.Multipliers.{Multipliers}
use Rattle.ror_table.specs.Table.{DecisionTable}
use Rattle.ror_proof.specs.declared.answer.Answer.{Answer}
use Rattle.ror_proof.specs.declared.answer.Certificate.{Certificate}
use Rattle.ror_proof.specs.declared.kept.Dropped.{Dropped}
use Rattle.ror_proof.specs.declared.kept.Kept.{Kept}
use Rattle.ror_proof.specs.declared.read.ProofFault.{ProofFault}
use Rattle.ror_proof.specs.Text.{multipliers_words, base_text, answer_text, repaired_text, dropped_text, kept_text, AreNarrow, IsPrintableDropped, IsPrintableKept}
use Rattle.ror_proof.specs.Words.{after_word, no_more, small_number_at}
use Rattle.ror_proof.specs.Reading.{refutation_at, repaired_words, dropped_words, repaired_line, base_line, dropped_line, dropped_lines, kept_at}
use Rattle.ror_proof.specs.Laws.{IsKeptText}
use Rattle.ror_proof.proofs.Loops.{dropped_step, no_dropped}
use Rattle.ror_proof.proofs.WordLemmas.{done, ok_is, after_word_again, after_word_sound, no_more_sound, small_number_again, small_number_sound}
use Rattle.ror_proof.proofs.LineWords.{multipliers_are_words, refutation_again, refutation_sound}
use Rattle.ror_proof.proofs.AnswerLemmas.{ended_again, ended_sound, base_again, base_sound, answer_begins}

-- ---- the line of how many statements are dropped

pub repaired_words_again : (place count : ℕ) → count < 2 ^ 32 → repaired_words place (codes "repaired" ∷ decimal count ∷ []) ≡ Ok count
unfolding repaired_words
repaired_words_again place count few = rw (after_word_again place (codes "repaired") (decimal count ∷ []), small_number_again place count [] few) refl

repaired_again : (place count : ℕ) (rest : List ℕ) → count < 2 ^ 32 → repaired_line (record { place = place; rest = repaired_text count ++ rest }) ≡ Ok (count, record { place = place + length (repaired_text count); rest = rest })
repaired_again place count rest few =
    let words : are_words (codes "repaired" ∷ decimal count ∷ []) ≡ true = rw (is_word-decimal count (omega (arith, few))) refl in
    ended_again repaired_words place (codes "repaired") (decimal count ∷ []) rest count words (repaired_words_again place count few)

abbrev pub counted : ℕ → ℕ × List (List ℕ) → Result ℕ ProofFault
counted place count = no_more place count.1 >>= λ _. done count.0

pub repaired_words_sound : (place : ℕ) (words : List (List ℕ)) (count : ℕ) → repaired_words place words ≡ Ok count → (words ≡ codes "repaired" ∷ decimal count ∷ []) × (count < 2 ^ 32)
unfolding repaired_words
repaired_words_sound place words count e =
    let a = bind_ok (after_word place (codes "repaired") words) (λ more. small_number_at place more >>= counted place) count e in
    let n = bind_ok (small_number_at place a.0) (counted place) count a.2 in
    let m = bind_ok (no_more place n.0.1) (λ _. done n.0.0) count n.2 in
    let number = small_number_sound place a.0 n.0 n.1 in
    let last = no_more_sound place n.0.1 m.0 m.1 in
    let text : words ≡ codes "repaired" ∷ decimal n.0.0 ∷ [] =
    after_word_sound place (codes "repaired") words a.0 a.1 ∙ ap (λ (ws : List (List ℕ)). codes "repaired" ∷ ws) (number.0 ∙ ap (λ (ws : List (List ℕ)). decimal n.0.0 ∷ ws) last) in
    subst (λ k. (words ≡ codes "repaired" ∷ decimal k ∷ []) × (k < 2 ^ 32)) (ok_is n.0.0 count m.2) (text, number.1)

pub repaired_sound : (c : Cursor) (x : ℕ × Cursor) → repaired_line c ≡ Ok x → Spans c (repaired_text x.0) x.1 × (x.0 < 2 ^ 32)
repaired_sound c x e =
    let read = ended_sound c (repaired_words c.place (line_words c)) x e in
    let words = repaired_words_sound c.place (line_words c) x.0 read.words in
    (line_spans c x.1 (codes "repaired" ∷ decimal x.0 ∷ []) words.0 read.line, words.1)

-- ---- the line of a dropped statement

abbrev refuted_words : Dropped → List (List ℕ)
refuted_words d = multipliers_words d.proof.weak d.proof.strict

dropped_words_again : (place : ℕ) (d : Dropped) → IsPrintableDropped d → dropped_words place (codes "dropped" ∷ decimal d.number ∷ refuted_words d) ≡ Ok d
unfolding dropped_words
dropped_words_again place d printable =
    rw (after_word_again place (codes "dropped") (decimal d.number ∷ refuted_words d), small_number_again place d.number (refuted_words d) printable.number, refutation_again place d.proof printable.narrow) refl

dropped_again : (place : ℕ) (d : Dropped) (rest : List ℕ) → IsPrintableDropped d → dropped_line (record { place = place; rest = dropped_text d ++ rest }) ≡ Ok (d, record { place = place + length (dropped_text d); rest = rest })
dropped_again place d rest printable =
    let words : are_words (decimal d.number ∷ refuted_words d) ≡ true = and_from _ _ (is_word-decimal d.number (omega (arith, printable.number))) (multipliers_are_words d.proof printable.narrow) in
    ended_again dropped_words place (codes "dropped") (decimal d.number ∷ refuted_words d) rest d words (dropped_words_again place d printable)

abbrev pub dropped_read : ℕ → Multipliers → Result Dropped ProofFault
dropped_read number proof = Ok (record { number = number; proof = proof })

abbrev pub numbered_read : ℕ → ℕ × List (List ℕ) → Result Dropped ProofFault
numbered_read place number = refutation_at place number.1 >>= λ proof. dropped_read number.0 proof

dropped_words_sound : (place : ℕ) (words : List (List ℕ)) (d : Dropped) → dropped_words place words ≡ Ok d → (words ≡ codes "dropped" ∷ decimal d.number ∷ refuted_words d) × IsPrintableDropped d
unfolding dropped_words
dropped_words_sound place words d e =
    let a = bind_ok (after_word place (codes "dropped") words) (λ more. small_number_at place more >>= numbered_read place) d e in
    let n = bind_ok (small_number_at place a.0) (numbered_read place) d a.2 in
    let m = bind_ok (refutation_at place n.0.1) (λ proof. dropped_read n.0.0 proof) d n.2 in
    let number = small_number_sound place a.0 n.0 n.1 in
    let proof = refutation_sound place n.0.1 m.0 m.1 in
    let made : Dropped = record { number = n.0.0; proof = m.0 } in
    let text : words ≡ codes "dropped" ∷ decimal made.number ∷ refuted_words made =
    after_word_sound place (codes "dropped") words a.0 a.1 ∙ ap (λ (ws : List (List ℕ)). codes "dropped" ∷ ws) (number.0 ∙ ap (λ (ws : List (List ℕ)). decimal n.0.0 ∷ ws) proof.0) in
    subst (λ (y : Dropped). (words ≡ codes "dropped" ∷ decimal y.number ∷ refuted_words y) × IsPrintableDropped y) (ok_is made d m.2) (text, record { number = number.1; narrow = proof.1 })

dropped_sound : (c : Cursor) (x : Dropped × Cursor) → dropped_line c ≡ Ok x → Spans c (dropped_text x.0) x.1 × IsPrintableDropped x.0
dropped_sound c x e =
    let read = ended_sound c (dropped_words c.place (line_words c)) x e in
    let words = dropped_words_sound c.place (line_words c) x.0 read.words in
    (line_spans c x.1 (codes "dropped" ∷ decimal x.0.number ∷ refuted_words x.0) words.0 read.line, words.1)

-- ---- as many such lines

dropped_lines_again : (place : ℕ) (ds : List Dropped) (rest : List ℕ) → AllByRecursion IsPrintableDropped ds
    → dropped_lines (length ds) (record { place = place; rest = flat_map dropped_text ds ++ rest }) ≡ Ok (ds, record { place = place + length (flat_map dropped_text ds); rest = rest })
dropped_lines_again place [] rest printable = no_dropped (record { place = place; rest = rest }) ∙ ap (λ n. Ok ([], record { place = n; rest = rest })) (omega arith)
dropped_lines_again place (d ∷ ds) rest printable =
    let tail = flat_map dropped_text ds ++ rest in
    let start : Cursor = record { place = place; rest = (dropped_text d ++ flat_map dropped_text ds) ++ rest } in
    let regrouped : (dropped_text d ++ flat_map dropped_text ds) ++ rest ≡ dropped_text d ++ tail = append_assoc (dropped_text d) (flat_map dropped_text ds) rest in
    let first : dropped_line start ≡ Ok (d, record { place = place + length (dropped_text d); rest = tail }) = ap (λ r. dropped_line (record { place = place; rest = r })) regrouped ∙ dropped_again place d tail printable.0 in
    let others = dropped_lines_again (place + length (dropped_text d)) ds rest printable.1 in
    let to : place + length (dropped_text d) + length (flat_map dropped_text ds) ≡ place + length (dropped_text d ++ flat_map dropped_text ds) = omega (arith, length-append (dropped_text d) (flat_map dropped_text ds)) in
    dropped_step (length ds) start ∙ (rw (first, others) (ap (λ n. Ok (d ∷ ds, record { place = n; rest = rest })) to))

-- what was read as so many dropped statements
record AreReadDropped (count : ℕ) (c : Cursor) (ds : List Dropped) (after : Cursor) : Type 0 where
  spans : Spans c (flat_map dropped_text ds) after
  printable : AllByRecursion IsPrintableDropped ds
  many : length ds ≡ count

dropped_lines_sound : (count : ℕ) (c : Cursor) (x : List Dropped × Cursor) → dropped_lines count c ≡ Ok x → AreReadDropped count c x.0 x.1
dropped_lines_sound zero c x e =
    subst (λ (y : List Dropped × Cursor). AreReadDropped zero c y.0 y.1) (ok_is ([], c) x (sym (no_dropped c) ∙ e)) (record { spans = record { rest = refl; place = omega arith }; printable = tt; many = refl })
dropped_lines_sound (suc count) c x e =
    let a = bind_ok (dropped_line c) (λ first. dropped_lines count first.1 >>= λ others. done (first.0 ∷ others.0, others.1)) x (sym (dropped_step count c) ∙ e) in
    let b = bind_ok (dropped_lines count a.0.1) (λ others. done (a.0.0 ∷ others.0, others.1)) x a.2 in
    let first = dropped_sound c a.0 a.1 in
    let others = dropped_lines_sound count a.0.1 b.0 b.1 in
    subst (λ (y : List Dropped × Cursor). AreReadDropped (suc count) c y.0 y.1) (ok_is (a.0.0 ∷ b.0.0, b.0.1) x b.2) (record {
      spans = spans_then c a.0.1 b.0.1 (dropped_text a.0.0) (flat_map dropped_text b.0.0) first.0 others.spans;
      printable = (first.1, others.printable);
      many = ap suc others.many;
    })

-- ---- repairs

pub kept_reads_back : (x : Kept) (place : ℕ) (rest : List ℕ) → IsPrintableKept x → kept_at (record { place = place; rest = kept_text x ++ rest }) ≡ Ok (x, record { place = place + length (kept_text x); rest = rest })
unfolding kept_at kept_text
kept_reads_back x place rest printable =
    let count = repaired_text (length x.dropped) in
    let lines = flat_map dropped_text x.dropped in
    let base = base_text x.base in
    let regrouped : (count ++ (lines ++ base)) ++ rest ≡ count ++ (lines ++ (base ++ rest)) = append_assoc count (lines ++ base) rest ∙ ap (λ (l : List ℕ). count ++ l) (append_assoc lines base rest) in
    let to : place + length count + length lines + length base ≡ place + length (count ++ (lines ++ base)) = omega (arith, length-append count (lines ++ base), length-append lines base) in
    ap (λ (r : List ℕ). kept_at (record { place = place; rest = r })) regrouped
    ∙ (rw (repaired_again place (length x.dropped) (lines ++ (base ++ rest)) printable.few, dropped_lines_again (place + length count) x.dropped (base ++ rest) printable.dropped, base_again (place + length count + length lines) x.base rest printable.base)
    (ap (λ n. Ok (x, record { place = n; rest = rest })) to))

abbrev pub kept_read : List Dropped → Certificate × Cursor → Result (Kept × Cursor) ProofFault
kept_read dropped base = Ok (record { dropped = dropped; base = base.0 }, base.1)

abbrev pub dropped_then : List Dropped × Cursor → Result (Kept × Cursor) ProofFault
dropped_then dropped = base_line dropped.1 >>= λ base. kept_read dropped.0 base

-- the text of what was read, part by part
made_text : (x : Kept) → kept_text x ≡ repaired_text (length x.dropped) ++ (flat_map dropped_text x.dropped ++ base_text x.base)
unfolding kept_text
made_text x = refl

pub kept_is_text : (c : Cursor) (x : Kept) (after : Cursor) → kept_at c ≡ Ok (x, after) → IsKeptText c x after
unfolding kept_at
kept_is_text c x after e =
    let a = bind_ok (repaired_line c) (λ count. dropped_lines count.0 count.1 >>= dropped_then) (x, after) e in
    let d = bind_ok (dropped_lines a.0.0 a.0.1) dropped_then (x, after) a.2 in
    let b = bind_ok (base_line d.0.1) (λ base. kept_read d.0.0 base) (x, after) d.2 in
    let count = repaired_sound c a.0 a.1 in
    let dropped = dropped_lines_sound a.0.0 a.0.1 d.0 d.1 in
    let base = base_sound d.0.1 b.0 b.1 in
    let made : Kept = record { dropped = d.0.0; base = b.0.0 } in
    let front : Spans c (repaired_text (length made.dropped)) a.0.1 = subst (λ (n : ℕ). Spans c (repaired_text n) a.0.1) (sym dropped.many) count.0 in
    let back = spans_then a.0.1 d.0.1 b.0.1 (flat_map dropped_text made.dropped) (base_text made.base) dropped.spans base.0 in
    let spans = spans_then c a.0.1 b.0.1 (repaired_text (length made.dropped)) (flat_map dropped_text made.dropped ++ base_text made.base) front back in
    let text = made_text made in
    subst (λ (y : Kept × Cursor). IsKeptText c y.0 y.1) (ok_is (made, b.0.1) (x, after) b.2) (record {
      text = spans.rest ∙ ap (λ (l : List ℕ). l ++ b.0.1.rest) (sym text);
      place = spans.place ∙ ap (λ (l : List ℕ). c.place + length l) (sym text);
      printable = record { few = subst (λ (n : ℕ). n < 2 ^ 32) (sym dropped.many) count.1; dropped = dropped.printable; base = base.1 };
    })

-- ---- one text for each repair

pub kept_is_read_iff_text : (c : Cursor) (x : Kept) (after : Cursor) → (kept_at c ≡ Ok (x, after)) ↔ IsKeptText c x after
kept_is_read_iff_text c x after = (
  kept_is_text c x after,
  λ is.
      let written = kept_reads_back x c.place after.rest is.printable in
      ap (λ (r : List ℕ). kept_at (record { place = c.place; rest = r })) is.text ∙ written ∙ ap (λ n. Ok (x, record { place = n; rest = after.rest })) (sym is.place),
)

pub one_spelling_of_kept : (x y : Kept) → IsPrintableKept x → IsPrintableKept y → kept_text x ≡ kept_text y → x ≡ y
one_spelling_of_kept x y px py e =
    let same : kept_text x ++ [] ≡ kept_text y ++ [] = ap (λ (l : List ℕ). l ++ []) e in
    let of_x = kept_reads_back x 0 [] px in
    let of_y = kept_reads_back y 0 [] py in
    ap (λ (r : Kept × Cursor). r.0) (ok_is _ _ (sym of_x ∙ ap (λ (l : List ℕ). kept_at (record { place = 0; rest = l })) same ∙ of_y))

repaired_begins : (count : ℕ) → (more : List ℕ) × (repaired_text count ≡ codes "repaired " ++ more)
unfolding line_text
repaired_begins count = (drop 9 (repaired_text count), refl)

pub kept_begins : (x : Kept) → (more : List ℕ) × (kept_text x ≡ codes "repaired " ++ more)
unfolding kept_text
kept_begins x =
    let others = flat_map dropped_text x.dropped ++ base_text x.base in
    let head = repaired_begins (length x.dropped) in
    (head.0 ++ others, ap (λ (l : List ℕ). l ++ others) head.1)

pub no_answer_is_kept : (t : DecisionTable) (x : Answer) (y : Kept) → answer_text t x ≡ kept_text y → ⊥
no_answer_is_kept t x y e =
    let answer = answer_begins t x in
    let kept = kept_begins y in
    apart answer.0 kept.0 (sym answer.1 ∙ e ∙ kept.1)
  where
    apart : (xs ys : List ℕ) → codes "answer " ++ xs ≡ codes "repaired " ++ ys → ⊥
    apart xs ys e = let first : 97 ≡ 114 = ap (λ (l : List ℕ). get_or l 0 0) e in absurd (omega (arith, first))

-- ---- what is read may be printed

pub as_many_are_read : (count : ℕ) (c : Cursor) (x : List Dropped × Cursor) → dropped_lines count c ≡ Ok x → length x.0 ≡ count
as_many_are_read count c x e = (dropped_lines_sound count c x e).many

narrow_dropped : (ds : List Dropped) → AllByRecursion IsPrintableDropped ds → AllByRecursion (λ d. AreNarrow d.proof) ds
narrow_dropped [] printable = tt
narrow_dropped (d ∷ ds) printable = (printable.0.narrow, narrow_dropped ds printable.1)

pub dropped_are_narrow : (count : ℕ) (c : Cursor) (x : List Dropped × Cursor) → dropped_lines count c ≡ Ok x → AllByRecursion (λ d. AreNarrow d.proof) x.0
dropped_are_narrow count c x e = narrow_dropped x.0 (dropped_lines_sound count c x e).printable
