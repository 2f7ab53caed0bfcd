-- The fault of an entry is the one that is given.
use Rattle.std.proofs.Common.{◌≡◌, ℕ, List, [], ◌∷◌, drop, Option, Some, None, Result, Err, refl, sym, ap, subst, ◌∙◌, inl, inr, ℤ}
use Rattle.ror_text.specs.Cursor.{Cursor, line_words}
use Rattle.ror_text.specs.Reading.{◌>>=◌}
use Rattle.ror_text.proofs.ReadingLemmas.{bind_err}
use Rattle.ror_system.specs.declared.accept.Solution.{Solution}
use Rattle.ror_table.specs.Table.{DecisionTable}
use Rattle.ror_proof.specs.declared.read.ProofFault.{ProofFault}
use Rattle.ror_proof.specs.declared.read.ProofFault.TheVariants.{BadLine}
use Rattle.ror_proof.specs.Names.{name_of}
use Rattle.ror_proof.specs.Reading.{ended, refutation_at}
use Rattle.ror_proof.specs.Expected.{IsFirstFaultyWord, AllStand, IsLine, IsFaultOfLine}
use Rattle.ror_proof.specs.Expected.Expected.{the_word}
use Rattle.ror_proof.specs.Expected.IsFaultOfLine.{in_word}
use Rattle.ror_proof.proofs.LineFaults.{ReadsLine, reads_line, line_fails, line_goes, two_line_faults}
use Rattle.ror_proof.proofs.NameLemmas.{named-there, not_named-absent}
use Rattle.ror_proof.proofs.WordFaults.{Ends, no_fault, refutation_ends}
use Rattle.ror_proof.proofs.WordLemmas.{name_found}
use Rattle.ror_report.specs.Desk.{desk_line}
use Rattle.ror_report.proofs.DeskLemmas.{desk_err}
use Rattle.ror_discriminate.specs.declared.entry.EntryBody.{EntryBody}
use Rattle.ror_discriminate.specs.declared.names.BodyForm.{BodyForm}
use Rattle.ror_discriminate.specs.declared.names.BodyForm.TheVariants as forms
use Rattle.ror_discriminate.specs.EntryNames.{form_word, body_forms}
use Rattle.ror_discriminate.specs.EntryFaults.{expected_of, expected_body, expected_solution, expected_refutation, SaysMargin, IsFaultOfEntry}
use Rattle.ror_discriminate.specs.EntryFaults.IsFaultOfEntry.{in_desk, in_body, in_solution, in_multipliers}
use Rattle.ror_discriminate.specs.Head.{IsDeskLine}
use Rattle.ror_discriminate.specs.Reading.{margin_words, margin_line, solution_line_words, solution_line, multipliers_line, none_words, contradiction_words, wide_words, best_at, form_of, formed_at, body_at, entry_at}
use Rattle.ror_discriminate.proofs.HeadLemmas.{desk_sound, desk_goes, no_desk, desk_fails}
use Rattle.ror_discriminate.proofs.EntryLines.{margin_sound}
use Rattle.ror_discriminate.proofs.EntryLemmas.{best_read, entry_read}
use Rattle.ror_discriminate.proofs.EntryWords.{margin_ends, solution_ends, none_ends, contradiction_ends, wide_ends}

-- ---- the first line of a body

-- the word of the form is one of the forms' words
module _ (t : DecisionTable) (place : ℕ) (form : BodyForm) (word : List ℕ) (words : List (List ℕ)) (is : name_of form_word body_forms word ≡ Some form) where
  first_fails : (f : ProofFault) → IsFirstFaultyWord t (the_word (form_word form) ∷ expected_of (Some form) words) (word ∷ words) place f → IsFirstFaultyWord t (expected_body (word ∷ words)) (word ∷ words) place f
  first_fails f (inl other) = absurd (other.0 (name_found form_word body_forms word form is))
  first_fails f (inr later) = inr (named-there form_word body_forms word form is, subst (λ (n : Option BodyForm). IsFirstFaultyWord t (expected_of n words) words place f) (sym is) later.1)

  first_stands : AllStand t (the_word (form_word form) ∷ expected_of (Some form) words) (word ∷ words) → AllStand t (expected_body (word ∷ words)) (word ∷ words)
  first_stands all = (named-there form_word body_forms word form is, subst (λ (n : Option BodyForm). AllStand t (expected_of n words) words) (sym is) all.1)

first_ends : {X : Type 0} (t : DecisionTable) (place : ℕ) (reading : Result X ProofFault) (form : BodyForm) (words : List (List ℕ)) → form_of words ≡ Some form
    → Ends t place reading (the_word (form_word form) ∷ expected_of (Some form) (drop 1 words)) words → Ends t place reading (expected_body words) words
first_ends t place reading form [] is ends = absurd (let none = is in cc)
first_ends t place reading form (word ∷ words) is ends = record {
  fails = λ f e. first_fails t place form word words is f (ends.fails f e);
  stands = λ x e. first_stands t place form word words is (ends.stands x e);
}

no_form_faulty : (t : DecisionTable) (place : ℕ) (words : List (List ℕ)) → form_of words ≡ None → IsFirstFaultyWord t (expected_body words) words place (BadLine place)
no_form_faulty t place [] none = (λ h. h, refl)
no_form_faulty t place (word ∷ words) none = inl (not_named-absent form_word body_forms word none, refl)

module _ (t : DecisionTable) (c : Cursor) where
  margin_reads : form_of (line_words c) ≡ Some forms.Best → ReadsLine t expected_body c (margin_line c)
  margin_reads is = reads_line t expected_body c (margin_words c.place (line_words c)) (first_ends t c.place (margin_words c.place (line_words c)) forms.Best (line_words c) is (margin_ends t c.place (line_words c)))

  none_reads : form_of (line_words c) ≡ Some forms.NoStrictRow → ReadsLine t expected_body c (ended c (none_words c.place (line_words c)))
  none_reads is = reads_line t expected_body c (none_words c.place (line_words c)) (first_ends t c.place (none_words c.place (line_words c)) forms.NoStrictRow (line_words c) is (none_ends t c.place (line_words c)))

  contradiction_reads : form_of (line_words c) ≡ Some forms.Contradiction → ReadsLine t expected_body c (ended c (contradiction_words c.place (line_words c)))
  contradiction_reads is = reads_line t expected_body c (contradiction_words c.place (line_words c)) (first_ends t c.place (contradiction_words c.place (line_words c)) forms.Contradiction (line_words c) is (contradiction_ends t c.place (line_words c)))

  wide_reads : form_of (line_words c) ≡ Some forms.Wide → ReadsLine t expected_body c (ended c (wide_words c.place (line_words c)))
  wide_reads is = reads_line t expected_body c (wide_words c.place (line_words c)) (first_ends t c.place (wide_words c.place (line_words c)) forms.Wide (line_words c) is (wide_ends t c.place (line_words c)))

  solution_reads : ReadsLine t expected_solution c (solution_line c)
  solution_reads = reads_line t expected_solution c (solution_line_words c.place (line_words c)) (solution_ends t c.place (line_words c))

  multipliers_reads : ReadsLine t expected_refutation c (multipliers_line c)
  multipliers_reads = reads_line t expected_refutation c (refutation_at c.place (line_words c)) (refutation_ends t c.place (line_words c))

-- ---- bodies

-- the fault of the body that begins here
data IsFaultOfBody (t : DecisionTable) (c : Cursor) (f : ProofFault) : Type 0 where
  of_first : IsFaultOfLine t expected_body c f → IsFaultOfBody t c f
  of_solution : (solution : Cursor) → IsLine t expected_body c solution → SaysMargin c → IsFaultOfLine t expected_solution solution f → IsFaultOfBody t c f
  of_multipliers : (solution multipliers : Cursor) → IsLine t expected_body c solution → SaysMargin c → IsLine t expected_solution solution multipliers → IsFaultOfLine t expected_refutation multipliers f → IsFaultOfBody t c f

abbrev after_solution : ℤ × ℤ → Solution × Cursor → Result (EntryBody × Cursor) ProofFault
after_solution margin solution = multipliers_line solution.1 >>= λ multipliers. best_read margin solution.0 multipliers

best_err : (t : DecisionTable) (c : Cursor) (f : ProofFault) → form_of (line_words c) ≡ Some forms.Best → best_at c ≡ Err f → IsFaultOfBody t c f
unfolding best_at
best_err t c f is e =
    elim (bind_err (margin_line c) (λ margin. solution_line margin.1 >>= λ solution. after_solution margin.0 solution) f e) [
      | inl here ↦ of_first ((margin_reads t c is).err f here)
      | inr a ↦
          let line = (margin_reads t c is).ok a.0 a.1 in
          let says : SaysMargin c = let margin = margin_sound c a.0 a.1 in record { more = _; words = margin.words } in
          elim (bind_err (solution_line a.0.1) (λ solution. after_solution a.0.0 solution) f a.2) [
            | inl here ↦ of_solution a.0.1 line says ((solution_reads t a.0.1).err f here)
            | inr b ↦
                elim (bind_err (multipliers_line b.0.1) (λ multipliers. best_read a.0.0 b.0.0 multipliers) f b.2) [
                  | inl here ↦ of_multipliers a.0.1 b.0.1 line says ((solution_reads t a.0.1).ok b.0 b.1) ((multipliers_reads t b.0.1).err f here)
                  | inr none ↦ absurd (no_fault _ f none.2)
                ]
          ]
    ]

abbrev failed : {A : Type 0} → ProofFault → Result A ProofFault
failed f = Err f

same_fault : {A : Type 0} (g f : ProofFault) → failed {A = A} g ≡ Err f → g ≡ f
same_fault g f e = cc

formed_err : (t : DecisionTable) (c : Cursor) (f : ProofFault) (form : Option BodyForm) → form_of (line_words c) ≡ form → formed_at form c ≡ Err f → IsFaultOfBody t c f
formed_err t c f None is e = of_first (in_word (subst (IsFirstFaultyWord t (expected_body (line_words c)) (line_words c) c.place) (same_fault (BadLine c.place) f e) (no_form_faulty t c.place (line_words c) is)))
formed_err t c f (Some forms.Best) is e = best_err t c f is e
formed_err t c f (Some forms.NoStrictRow) is e = of_first ((none_reads t c is).err f e)
formed_err t c f (Some forms.Contradiction) is e = of_first ((contradiction_reads t c is).err f e)
formed_err t c f (Some forms.Wide) is e = of_first ((wide_reads t c is).err f e)

body_err : (t : DecisionTable) (c : Cursor) (f : ProofFault) → body_at c ≡ Err f → IsFaultOfBody t c f
unfolding body_at
body_err t c f e = formed_err t c f (form_of (line_words c)) refl e

best_first_fails : (t : DecisionTable) (c : Cursor) (f : ProofFault) → form_of (line_words c) ≡ Some forms.Best → IsFaultOfLine t expected_body c f → best_at c ≡ Err f
unfolding best_at
best_first_fails t c f is fault = rw (line_fails t expected_body c (margin_line c) f (margin_reads t c is) fault) refl

formed_fails : (t : DecisionTable) (c : Cursor) (f : ProofFault) (form : Option BodyForm) → form_of (line_words c) ≡ form → IsFaultOfLine t expected_body c f → formed_at form c ≡ Err f
formed_fails t c f None is fault = ap (λ (g : ProofFault). failed g) (two_line_faults t expected_body c (BadLine c.place) f (in_word (no_form_faulty t c.place (line_words c) is)) fault)
formed_fails t c f (Some forms.Best) is fault = best_first_fails t c f is fault
formed_fails t c f (Some forms.NoStrictRow) is fault = line_fails t expected_body c (ended c (none_words c.place (line_words c))) f (none_reads t c is) fault
formed_fails t c f (Some forms.Contradiction) is fault = line_fails t expected_body c (ended c (contradiction_words c.place (line_words c))) f (contradiction_reads t c is) fault
formed_fails t c f (Some forms.Wide) is fault = line_fails t expected_body c (ended c (wide_words c.place (line_words c))) f (wide_reads t c is) fault

-- a line that begins with `margin` has the form of an optimum
says_best : (c : Cursor) → SaysMargin c → form_of (line_words c) ≡ Some forms.Best
says_best c says = ap form_of says.words

best_solution_fails : (t : DecisionTable) (c solution : Cursor) (f : ProofFault) → form_of (line_words c) ≡ Some forms.Best → IsLine t expected_body c solution → IsFaultOfLine t expected_solution solution f → best_at c ≡ Err f
unfolding best_at
best_solution_fails t c solution f is line fault =
    rw ((line_goes t expected_body c solution (margin_line c) (margin_reads t c is) line).1, line_fails t expected_solution solution (solution_line solution) f (solution_reads t solution) fault) refl

best_multipliers_fails : (t : DecisionTable) (c solution multipliers : Cursor) (f : ProofFault) → form_of (line_words c) ≡ Some forms.Best → IsLine t expected_body c solution → IsLine t expected_solution solution multipliers → IsFaultOfLine t expected_refutation multipliers f → best_at c ≡ Err f
unfolding best_at
best_multipliers_fails t c solution multipliers f is line next fault =
    rw (
      (line_goes t expected_body c solution (margin_line c) (margin_reads t c is) line).1,
      (line_goes t expected_solution solution multipliers (solution_line solution) (solution_reads t solution) next).1,
      line_fails t expected_refutation multipliers (multipliers_line multipliers) f (multipliers_reads t multipliers) fault,
    ) refl

body_best : (c : Cursor) (f : ProofFault) → form_of (line_words c) ≡ Some forms.Best → best_at c ≡ Err f → body_at c ≡ Err f
unfolding body_at
body_best c f is e = ap (λ (form : Option BodyForm). formed_at form c) is ∙ e

body_first_fails : (t : DecisionTable) (c : Cursor) (f : ProofFault) → IsFaultOfLine t expected_body c f → body_at c ≡ Err f
unfolding body_at
body_first_fails t c f fault = formed_fails t c f (form_of (line_words c)) refl fault

body_fails : (t : DecisionTable) (c : Cursor) (f : ProofFault) → IsFaultOfBody t c f → body_at c ≡ Err f
body_fails t c f (of_first fault) = body_first_fails t c f fault
body_fails t c f (of_solution solution line says fault) = let is = says_best c says in body_best c f is (best_solution_fails t c solution f is line fault)
body_fails t c f (of_multipliers solution multipliers line says next fault) = let is = says_best c says in body_best c f is (best_multipliers_fails t c solution multipliers f is line next fault)

-- ---- entries

as_entry : (t : DecisionTable) (c : Cursor) (name : List ℕ) (body : Cursor) (f : ProofFault) → IsDeskLine c name body → IsFaultOfBody t body f → IsFaultOfEntry t c f
as_entry t c name body f desk (of_first fault) = in_body name body desk fault
as_entry t c name body f desk (of_solution solution line says fault) = in_solution name body solution desk line says fault
as_entry t c name body f desk (of_multipliers solution multipliers line says next fault) = in_multipliers name body solution multipliers desk line says next fault

pub entry_err : (t : DecisionTable) (c : Cursor) (f : ProofFault) → entry_at c ≡ Err f → IsFaultOfEntry t c f
unfolding entry_at
entry_err t c f e =
    elim (bind_err (desk_line c) (λ desk. body_at desk.1 >>= λ body. entry_read desk.0 body) f e) [
      | inl here ↦ in_desk (no_desk c f here) (desk_err c f here)
      | inr a ↦
          elim (bind_err (body_at a.0.1) (λ body. entry_read a.0.0 body) f a.2) [
            | inl here ↦ as_entry t c a.0.0 a.0.1 f (desk_sound c a.0 a.1) (body_err t a.0.1 f here)
            | inr none ↦ absurd (no_fault _ f none.2)
          ]
    ]

behind_desk : (c : Cursor) (name : List ℕ) (body : Cursor) (f : ProofFault) → IsDeskLine c name body → body_at body ≡ Err f → entry_at c ≡ Err f
unfolding entry_at
behind_desk c name body f desk e = rw (desk_goes c name body desk, e) refl

at_desk : (c : Cursor) (f : ProofFault) → desk_line c ≡ Err f → entry_at c ≡ Err f
unfolding entry_at
at_desk c f e = rw e refl

pub entry_fails : (t : DecisionTable) (c : Cursor) (f : ProofFault) → IsFaultOfEntry t c f → entry_at c ≡ Err f
entry_fails t c f (in_desk none is) = at_desk c f (desk_fails c none ∙ ap (λ (g : ProofFault). failed g) (sym is))
entry_fails t c f (in_body name body desk fault) = behind_desk c name body f desk (body_fails t body f (of_first fault))
entry_fails t c f (in_solution name body solution desk line says fault) = behind_desk c name body f desk (body_fails t body f (of_solution solution line says fault))
entry_fails t c f (in_multipliers name body solution multipliers desk line says next fault) = behind_desk c name body f desk (body_fails t body f (of_multipliers solution multipliers line says next fault))
