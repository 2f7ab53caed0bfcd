-- The first faulty line of a repair: what is read has none, and what is refused has the fault that is given.
use Rattle.std.proofs.Common.{◌≡◌, ℕ, zero, suc, List, [], ◌∷◌, drop, Ok, Err, refl, sym, ap, subst, ◌∙◌, inl, inr}
use Rattle.std.specs.Prelude.{codes}
use Rattle.std.proofs.lemmas.List.{drop-drop}
use Rattle.ror_text.specs.Cursor.{Cursor, line_words}
use Rattle.ror_text.specs.Reading.{◌>>=◌}
use Rattle.ror_text.proofs.ReadingLemmas.{bind_ok, bind_err}
use Rattle.ror_system.specs.declared.accept.Multipliers.{Multipliers}
use Rattle.ror_table.specs.Table.{DecisionTable}
use Rattle.ror_proof.specs.declared.kept.Dropped.{Dropped}
use Rattle.ror_proof.specs.declared.read.ProofFault.{ProofFault}
use Rattle.ror_proof.specs.Words.{small_number_at}
use Rattle.ror_proof.specs.Reading.{refutation_at, repaired_words, dropped_words, ended, repaired_line, base_line, dropped_line, dropped_lines, kept_at}
use Rattle.ror_proof.specs.Expected.{expected_multipliers, expected_base, expected_repaired, expected_dropped, SaysCount, AreDropped, IsFaultOfDropped, IsFaultOfKept}
use Rattle.ror_proof.specs.Expected.Expected.{the_word, a_small_number, the_end}
use Rattle.ror_proof.specs.Expected.IsFaultOfKept.{in_count, in_dropped, in_base_of_kept}
use Rattle.ror_proof.proofs.WordLemmas.{done}
use Rattle.ror_proof.proofs.WordFaults.{Ends, no_fault, then_ends, made_ends, word_then_ends, end_ends, refutation_ends}
use Rattle.ror_proof.proofs.QuestionFaults.{small_number_steps}
use Rattle.ror_proof.proofs.AnswerLemmas.{ended_sound}
use Rattle.ror_proof.proofs.LineFaults.{ReadsLine, reads_line, line_fails, line_goes, base_reads}
use Rattle.ror_proof.proofs.RepairLemmas.{counted, repaired_words_again, repaired_words_sound, numbered_read, kept_read, dropped_then}

-- ---- the words of each line

repaired_ends : (t : DecisionTable) (place : ℕ) (words : List (List ℕ)) → Ends t place (repaired_words place words) (expected_repaired words) words
unfolding repaired_words
repaired_ends t place words =
    word_then_ends t place (codes "repaired") (λ more. small_number_at place more >>= counted place) (a_small_number ∷ the_end ∷ []) words
    (λ more is. then_ends t place (small_number_at place more) (counted place) (a_small_number ∷ []) (the_end ∷ []) more (small_number_steps t place more) (λ count e. end_ends t place count.0 count.1))

abbrev dropped_of : ℕ → Multipliers → Dropped
dropped_of number proof = record { number = number; proof = proof }

dropped_ends : (t : DecisionTable) (place : ℕ) (words : List (List ℕ)) → Ends t place (dropped_words place words) (expected_dropped words) words
unfolding dropped_words
dropped_ends t place words =
    let refutation = the_word (codes "multipliers") ∷ expected_multipliers (drop 3 words) in
    word_then_ends t place (codes "dropped") (λ more. small_number_at place more >>= numbered_read place) (a_small_number ∷ refutation) words
    (λ more is.
    let steps = small_number_steps t place more in
    then_ends t place (small_number_at place more) (numbered_read place) (a_small_number ∷ []) refutation more steps
    (λ number e.
    let rest : drop 1 number.1 ≡ drop 3 words = ap (λ (ws : List (List ℕ)). drop 1 ws) (steps.left number e) ∙ drop-drop 1 1 more ∙ ap (λ (ws : List (List ℕ)). drop 3 ws) (sym is) in
    subst (λ (ws : List (List ℕ)). Ends t place (numbered_read place number) (the_word (codes "multipliers") ∷ expected_multipliers ws) number.1) rest
    (made_ends t place (refutation_at place number.1) (λ (proof : Multipliers). dropped_of number.0 proof) (the_word (codes "multipliers") ∷ expected_multipliers (drop 1 number.1)) number.1 (refutation_ends t place number.1))))

-- ---- lines

repaired_reads : (t : DecisionTable) (c : Cursor) → ReadsLine t expected_repaired c (repaired_line c)
repaired_reads t c = reads_line t expected_repaired c (repaired_words c.place (line_words c)) (repaired_ends t c.place (line_words c))

dropped_reads : (t : DecisionTable) (c : Cursor) → ReadsLine t expected_dropped c (dropped_line c)
dropped_reads t c = reads_line t expected_dropped c (dropped_words c.place (line_words c)) (dropped_ends t c.place (line_words c))

count_said : (c : Cursor) (x : ℕ × Cursor) → repaired_line c ≡ Ok x → SaysCount c x.0 x.1
count_said c x e =
    let read = ended_sound c (repaired_words c.place (line_words c)) x e in
    let words = repaired_words_sound c.place (line_words c) x.0 read.words in
    record { small = words.1; words = words.0; ended = read.line }

count_read : (c : Cursor) (count : ℕ) (after : Cursor) → SaysCount c count after → repaired_line c ≡ Ok (count, after)
unfolding ended
count_read c count after says = rw (says.words, repaired_words_again c.place count says.small, says.ended) refl

dropped_err : (t : DecisionTable) (count : ℕ) (c : Cursor) (f : ProofFault) → dropped_lines count c ≡ Err f → IsFaultOfDropped t count c f
unfolding dropped_lines
dropped_err t zero c f e = absurd (no_fault _ f e)
dropped_err t (suc count) c f e =
    elim (bind_err (dropped_line c) (λ first. dropped_lines count first.1 >>= λ others. done (first.0 ∷ others.0, others.1)) f e) [
      | inl here ↦ inl ((dropped_reads t c).err f here)
      | inr a ↦
          elim (bind_err (dropped_lines count a.0.1) (λ others. done (a.0.0 ∷ others.0, others.1)) f a.2) [
            | inl deeper ↦ inr (a.0.1, (dropped_reads t c).ok a.0 a.1, dropped_err t count a.0.1 f deeper)
            | inr none ↦ absurd (no_fault _ f none.2)
          ]
    ]

dropped_ok : (t : DecisionTable) (count : ℕ) (c : Cursor) (x : List Dropped × Cursor) → dropped_lines count c ≡ Ok x → AreDropped t count c x.1
unfolding dropped_lines
dropped_ok t zero c x e = cc
dropped_ok t (suc count) c x e =
    let a = bind_ok (dropped_line c) (λ first. dropped_lines count first.1 >>= λ others. done (first.0 ∷ others.0, others.1)) x e in
    let b = bind_ok (dropped_lines count a.0.1) (λ others. done (a.0.0 ∷ others.0, others.1)) x a.2 in
    let others = dropped_ok t count a.0.1 b.0 b.1 in
    let same : b.0.1 ≡ x.1 = cc in
    (a.0.1, (dropped_reads t c).ok a.0 a.1, subst (λ (after : Cursor). AreDropped t count a.0.1 after) same others)

dropped_fail : (t : DecisionTable) (count : ℕ) (c : Cursor) (f : ProofFault) → IsFaultOfDropped t count c f → dropped_lines count c ≡ Err f
unfolding dropped_lines
dropped_fail t zero c f p = absurd p
dropped_fail t (suc count) c f (inl p) = rw (line_fails t expected_dropped c (dropped_line c) f (dropped_reads t c) p) refl
dropped_fail t (suc count) c f (inr p) =
    let first = line_goes t expected_dropped c p.0 (dropped_line c) (dropped_reads t c) p.1 in
    rw (first.1, dropped_fail t count p.0 f p.2) refl

one_more_read : (count : ℕ) (c next after : Cursor) (d : Dropped) (ds : List Dropped) → dropped_line c ≡ Ok (d, next) → dropped_lines count next ≡ Ok (ds, after) → dropped_lines (suc count) c ≡ Ok (d ∷ ds, after)
unfolding dropped_lines
one_more_read count c next after d ds one others = rw (one, others) refl

dropped_go : (t : DecisionTable) (count : ℕ) (c after : Cursor) → AreDropped t count c after → (ds : List Dropped) × (dropped_lines count c ≡ Ok (ds, after))
unfolding dropped_lines
dropped_go t zero c after p = ([], ap (λ (next : Cursor). Ok ([], next)) p)
dropped_go t (suc count) c after p =
    let first = line_goes t expected_dropped c p.0 (dropped_line c) (dropped_reads t c) p.1 in
    let others = dropped_go t count p.0 after p.2 in
    (first.0 ∷ others.0, one_more_read count c p.0 after first.0 others.0 first.1 others.1)

-- ---- repairs

pub kept_err : (t : DecisionTable) (c : Cursor) (f : ProofFault) → kept_at c ≡ Err f → IsFaultOfKept t c f
unfolding kept_at
kept_err t c f e =
    elim (bind_err (repaired_line c) (λ count. dropped_lines count.0 count.1 >>= dropped_then) f e) [
      | inl here ↦ in_count ((repaired_reads t c).err f here)
      | inr a ↦ let says = count_said c a.0 a.1 in
          elim (bind_err (dropped_lines a.0.0 a.0.1) dropped_then f a.2) [
            | inl here ↦ in_dropped a.0.0 a.0.1 says (dropped_err t a.0.0 a.0.1 f here)
            | inr d ↦
                elim (bind_err (base_line d.0.1) (λ base. kept_read d.0.0 base) f d.2) [
                  | inl here ↦ in_base_of_kept a.0.0 a.0.1 d.0.1 says (dropped_ok t a.0.0 a.0.1 d.0 d.1) ((base_reads t d.0.1).err f here)
                  | inr none ↦ absurd (no_fault _ f none.2)
                ]
          ]
    ]

pub kept_fails : (t : DecisionTable) (c : Cursor) (f : ProofFault) → IsFaultOfKept t c f → kept_at c ≡ Err f
unfolding kept_at
kept_fails t c f (in_count p) = rw (line_fails t expected_repaired c (repaired_line c) f (repaired_reads t c) p) refl
kept_fails t c f (in_dropped count dropped says p) = rw (count_read c count dropped says, dropped_fail t count dropped f p) refl
kept_fails t c f (in_base_of_kept count dropped base says are p) =
    let lines = dropped_go t count dropped base are in
    rw (count_read c count dropped says, lines.1, line_fails t expected_base base (base_line base) f (base_reads t base) p) refl
