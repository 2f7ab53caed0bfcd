-- The first faulty word of a line of a name and a number, and of the lines of a body.
use Rattle.std.proofs.Common.{◌≡◌, ℕ, List, [], ◌∷◌, ◌++◌, map, Result, Ok, Err, refl, ap, subst, inl, inr}
use Rattle.std.specs.Prelude.{codes}
use Rattle.ror_text.specs.Cursor.{Cursor, line_words}
use Rattle.ror_text.specs.Reading.{◌>>=◌}
use Rattle.ror_text.proofs.ReadingLemmas.{bind_ok, bind_err}
use Rattle.ror_table.specs.Table.{DecisionTable}
use Rattle.ror_proof.specs.declared.read.ProofFault.{ProofFault}
use Rattle.ror_proof.specs.declared.answer.WideText.{WideText}
use Rattle.ror_proof.specs.Words.{name_at, no_more, small_number_at}
use Rattle.ror_proof.specs.Reading.{kept_at, wide_line_of}
use Rattle.ror_proof.specs.Expected.{expected_wide_of}
use Rattle.ror_proof.specs.Expected.Expected.{one_of, a_small_number, the_end}
use Rattle.ror_proof.proofs.WordLemmas.{done, ok_is}
use Rattle.ror_proof.proofs.WordFaults.{Steps, Ends, no_fault, nothing_read, made_steps, then_ends, word_then_ends, end_ends}
use Rattle.ror_proof.proofs.QuestionFaults.{small_number_steps, name_steps}
use Rattle.ror_proof.proofs.LineFaults.{ReadsLine, reads_line, line_fails, line_goes}
use Rattle.ror_proof.proofs.RepairLemmas.{kept_is_text, kept_is_read_iff_text}
use Rattle.ror_proof.proofs.RepairFaults.{kept_err, kept_fails}
use Rattle.ror_proof.proofs.WideLines.{wide_of_reads}
use Rattle.ror_report.specs.declared.block.Body.{Body}
use Rattle.ror_report.specs.declared.block.Body.TheVariants.{Added, Withdrawn, Replaced, Undone, Repaired, RepairWide, Refused}
use Rattle.ror_report.specs.declared.names.BodyForm.{BodyForm}
use Rattle.ror_report.specs.declared.names.BodyForm.TheVariants as bodies
use Rattle.ror_report.specs.declared.names.LineForm.{LineForm}
use Rattle.ror_report.specs.declared.names.LineForm.TheVariants as forms
use Rattle.ror_report.specs.Names.{form_word, fault_word, line_faults}
use Rattle.ror_report.specs.Reading.{number_words, numbered_line, operand_at, form_words, form_line, repaired_lines, repair_wide_lines, form_lines}
use Rattle.ror_report.specs.Faults.{expected_number, expected_operand, expected_form, expected_repair_wide, AreFormLines, IsFaultOfForm}
use Rattle.ror_report.proofs.LineForms.{base_is_small}

-- ---- the words of each line

number_ends : (t : DecisionTable) (name : List ℕ) (place : ℕ) (ws : List (List ℕ)) → Ends t place (number_words name place ws) (expected_number name ws) ws
unfolding number_words
number_ends t name place ws =
    word_then_ends t place name (λ more. small_number_at place more >>= λ number. no_more place number.1 >>= λ _. done number.0) (a_small_number ∷ the_end ∷ []) ws
    (λ more is. then_ends t place (small_number_at place more) (λ number. no_more place number.1 >>= λ _. done number.0) (a_small_number ∷ []) (the_end ∷ []) more (small_number_steps t place more)
    (λ number e. end_ends t place number.0 number.1))

operand_steps : (t : DecisionTable) (form : LineForm) (place : ℕ) (ws : List (List ℕ)) → Steps t place (operand_at form place ws) (expected_operand form) ws
operand_steps t forms.Added place ws = made_steps t place (small_number_at place ws) Added (a_small_number ∷ []) ws (small_number_steps t place ws)
operand_steps t forms.Withdrawn place ws = made_steps t place (small_number_at place ws) Withdrawn (a_small_number ∷ []) ws (small_number_steps t place ws)
operand_steps t forms.Replaced place ws = made_steps t place (small_number_at place ws) Replaced (a_small_number ∷ []) ws (small_number_steps t place ws)
operand_steps t forms.Undone place ws = nothing_read t place Undone ws
operand_steps t forms.Refused place ws = made_steps t place (name_at fault_word line_faults place ws) Refused (one_of (map fault_word line_faults) ∷ []) ws (name_steps t place fault_word line_faults ws)

form_ends : (t : DecisionTable) (form : LineForm) (place : ℕ) (ws : List (List ℕ)) → Ends t place (form_words form place ws) (expected_form form ws) ws
unfolding form_words
form_ends t form place ws =
    word_then_ends t place (form_word form) (λ more. operand_at form place more >>= λ body. no_more place body.1 >>= λ _. done body.0) (expected_operand form ++ the_end ∷ []) ws
    (λ more is. then_ends t place (operand_at form place more) (λ body. no_more place body.1 >>= λ _. done body.0) (expected_operand form) (the_end ∷ []) more (operand_steps t form place more)
    (λ body e. end_ends t place body.0 body.1))

-- ---- lines

pub number_reads : (t : DecisionTable) (name : List ℕ) (c : Cursor) → ReadsLine t (expected_number name) c (numbered_line name c)
number_reads t name c =
    reads_line t (expected_number name) c (number_words name c.place (line_words c)) (number_ends t name c.place (line_words c))

pub form_reads : (t : DecisionTable) (form : LineForm) (c : Cursor) → ReadsLine t (expected_form form) c (form_line form c)
form_reads t form c =
    reads_line t (expected_form form) c (form_words form c.place (line_words c)) (form_ends t form c.place (line_words c))

wide_reads : (t : DecisionTable) (c : Cursor) → ReadsLine t (expected_wide_of 0) c (wide_line_of 0 c)
wide_reads t c = wide_of_reads t 0 c base_is_small

-- ---- the lines of a body

-- a reader of the lines of a body, whose fault is that of the lines
pub record ReadsForm (t : DecisionTable) (form : BodyForm) (c : Cursor) : Type 0 where
  pub err : (fault : ProofFault) → form_lines form c ≡ Err fault → IsFaultOfForm t form c fault
  pub fails : (fault : ProofFault) → IsFaultOfForm t form c fault → form_lines form c ≡ Err fault
  pub ok : (x : Body × Cursor) → form_lines form c ≡ Ok x → AreFormLines t form c x.1
  pub goes : (after : Cursor) → AreFormLines t form c after → (body : Body) × (form_lines form c ≡ Ok (body, after))

repaired_err : (t : DecisionTable) (c : Cursor) (fault : ProofFault) → repaired_lines c ≡ Err fault → IsFaultOfForm t bodies.Repaired c fault
unfolding repaired_lines
repaired_err t c fault e = elim (bind_err (kept_at c) (λ kept. done (Repaired kept.0, kept.1)) fault e) [
  | inl here ↦ kept_err t c fault here
  | inr none ↦ absurd (no_fault _ fault none.2)
]

repaired_fails : (t : DecisionTable) (c : Cursor) (fault : ProofFault) → IsFaultOfForm t bodies.Repaired c fault → repaired_lines c ≡ Err fault
unfolding repaired_lines
repaired_fails t c fault h = rw (kept_fails t c fault h) refl

repaired_ok : (t : DecisionTable) (c : Cursor) (x : Body × Cursor) → repaired_lines c ≡ Ok x → AreFormLines t bodies.Repaired c x.1
unfolding repaired_lines
repaired_ok t c x e =
    let a = bind_ok (kept_at c) (λ kept. done (Repaired kept.0, kept.1)) x e in
    let same : a.0.1 ≡ x.1 = ap (λ (y : Body × Cursor). y.1) (ok_is (Repaired a.0.0, a.0.1) x a.2) in
    subst (λ (after : Cursor). AreFormLines t bodies.Repaired c after) same (a.0.0, kept_is_text c a.0.0 a.0.1 a.1)

repaired_goes : (t : DecisionTable) (c after : Cursor) → AreFormLines t bodies.Repaired c after → (body : Body) × (repaired_lines c ≡ Ok (body, after))
unfolding repaired_lines
repaired_goes t c after h = (Repaired h.0, rw ((kept_is_read_iff_text c h.0 after).1 h.1) refl)

abbrev wide_made : ℕ → WideText × Cursor → Result (Body × Cursor) ProofFault
wide_made n note = Ok (RepairWide n note.0, note.1)

abbrev wide_after : ℕ × Cursor → Result (Body × Cursor) ProofFault
wide_after number = wide_line_of 0 number.1 >>= λ note. wide_made number.0 note

repair_wide_err : (t : DecisionTable) (c : Cursor) (fault : ProofFault) → repair_wide_lines c ≡ Err fault → IsFaultOfForm t bodies.RepairWide c fault
unfolding repair_wide_lines
repair_wide_err t c fault e =
    let number = number_reads t (codes "repair-wide") c in
    elim (bind_err (numbered_line (codes "repair-wide") c) (λ number. wide_after number) fault e) [
      | inl here ↦ inl (number.err fault here)
      | inr a ↦
          elim (bind_err (wide_line_of 0 a.0.1) (λ note. wide_made a.0.0 note) fault a.2) [
            | inl here ↦ inr (a.0.1, number.ok a.0 a.1, (wide_reads t a.0.1).err fault here)
            | inr none ↦ absurd (no_fault _ fault none.2)
          ]
    ]

repair_wide_fails : (t : DecisionTable) (c : Cursor) (fault : ProofFault) → IsFaultOfForm t bodies.RepairWide c fault → repair_wide_lines c ≡ Err fault
unfolding repair_wide_lines
repair_wide_fails t c fault (inl h) = rw (line_fails t expected_repair_wide c (numbered_line (codes "repair-wide") c) fault (number_reads t (codes "repair-wide") c) h) refl
repair_wide_fails t c fault (inr h) =
    rw ((line_goes t expected_repair_wide c h.0 (numbered_line (codes "repair-wide") c) (number_reads t (codes "repair-wide") c) h.1).1, line_fails t (expected_wide_of 0) h.0 (wide_line_of 0 h.0) fault (wide_reads t h.0) h.2) refl

repair_wide_ok : (t : DecisionTable) (c : Cursor) (x : Body × Cursor) → repair_wide_lines c ≡ Ok x → AreFormLines t bodies.RepairWide c x.1
unfolding repair_wide_lines
repair_wide_ok t c x e =
    let a = bind_ok (numbered_line (codes "repair-wide") c) (λ number. wide_after number) x e in
    let b = bind_ok (wide_line_of 0 a.0.1) (λ note. wide_made a.0.0 note) x a.2 in
    let same : b.0.1 ≡ x.1 = ap (λ (y : Body × Cursor). y.1) (ok_is (RepairWide a.0.0 b.0.0, b.0.1) x b.2) in
    subst (λ (after : Cursor). AreFormLines t bodies.RepairWide c after) same (a.0.1, (number_reads t (codes "repair-wide") c).ok a.0 a.1, (wide_reads t a.0.1).ok b.0 b.1)

both_lines_read : (c wide after : Cursor) (n : ℕ) (note : WideText) → numbered_line (codes "repair-wide") c ≡ Ok (n, wide) → wide_line_of 0 wide ≡ Ok (note, after) → repair_wide_lines c ≡ Ok (RepairWide n note, after)
unfolding repair_wide_lines
both_lines_read c wide after n note number line = rw (number, line) refl

repair_wide_goes : (t : DecisionTable) (c after : Cursor) → AreFormLines t bodies.RepairWide c after → (body : Body) × (repair_wide_lines c ≡ Ok (body, after))
repair_wide_goes t c after h =
    let number = line_goes t expected_repair_wide c h.0 (numbered_line (codes "repair-wide") c) (number_reads t (codes "repair-wide") c) h.1 in
    let note = line_goes t (expected_wide_of 0) h.0 after (wide_line_of 0 h.0) (wide_reads t h.0) h.2 in
    (RepairWide number.0 note.0, both_lines_read c h.0 after number.0 note.0 number.1 note.1)

pub reads_form : (t : DecisionTable) (form : BodyForm) (c : Cursor) → ReadsForm t form c
reads_form t (bodies.OneLine form) c = record {
  err = λ fault e. (form_reads t form c).err fault e;
  fails = λ fault h. line_fails t (expected_form form) c (form_line form c) fault (form_reads t form c) h;
  ok = λ x e. (form_reads t form c).ok x e;
  goes = λ after h. line_goes t (expected_form form) c after (form_line form c) (form_reads t form c) h;
}
reads_form t bodies.Repaired c = record {
  err = repaired_err t c;
  fails = repaired_fails t c;
  ok = repaired_ok t c;
  goes = repaired_goes t c;
}
reads_form t bodies.RepairWide c = record {
  err = repair_wide_err t c;
  fails = repair_wide_fails t c;
  ok = repair_wide_ok t c;
  goes = repair_wide_goes t c;
}
