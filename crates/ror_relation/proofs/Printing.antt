-- What is given at a width has a text: its certificates are narrow, and its numbers are small.
use Rattle.std.proofs.Common.{ℕ, zero, suc, ◌^◌, ◌<◌, ◌≤◌, List, [], ◌∷◌, length, ℤ, sym, subst, arith, lit<}
use Rattle.std.specs.List.{AllByRecursion}
use Rattle.std.proofs.lemmas.List.{length-map}
use Rattle.std.proofs.lemmas.Option.{slice_get_within}
use Rattle.ror_text.proofs.Everywhere.{all-by, all-map, all_at}
use Rattle.ror_word.specs.Within.{IsWithin}
use Rattle.ror_statement.specs.declared.statement.Statement.{Statement}
use Rattle.ror_statement.specs.declared.question.Property.{Property}
use Rattle.ror_statement.specs.declared.question.Property.TheVariants as properties
use Rattle.ror_statement.specs.declared.question.QuestionKind.{QuestionKind}
use Rattle.ror_statement.specs.declared.question.Question.{Question}
use Rattle.ror_statement.specs.declared.question.Conclusion.{Conclusion}
use Rattle.ror_statement.specs.declared.question.Conclusion.TheVariants as conclusions
use Rattle.ror_statement.specs.Names.{IsPropertyWithin}
use Rattle.ror_statement.specs.Questions.{kind_of, property_of}
use Rattle.ror_statement.specs.declared.row_number.TheConstants.{MOST_STATEMENTS}
use Rattle.ror_table.specs.Table.{DecisionTable, IsTable}
use Rattle.ror_system.specs.System.{LinearSystem, sum_limit, IsNarrow, IsWellFormed}
use Rattle.ror_value.specs.Over.{IsLawfulIn, IsAskedIn}
use Rattle.ror_rows.specs.Rows.{system_for, systems_of_question}
use Rattle.ror_pivot.specs.declared.note.Bits.{Bits}
use Rattle.ror_pivot.specs.declared.note.Bits.TheVariants.{B15, B31, B63, B127}
use Rattle.ror_pivot.specs.Tableau.{shape_of, right_side_column, objective_row}
use Rattle.ror_pivot.specs.Answers.{most_of, IsPlaceWithin}
use Rattle.ror_proof.specs.declared.answer.Certificate.{Certificate}
use Rattle.ror_proof.specs.declared.answer.Certificate.TheVariants as certificates
use Rattle.ror_proof.specs.declared.answer.Part.{Part}
use Rattle.ror_proof.specs.declared.answer.Proof.{Proof}
use Rattle.ror_proof.specs.declared.answer.Pivot.{Pivot}
use Rattle.ror_proof.specs.declared.answer.PlaceText.{PlaceText}
use Rattle.ror_proof.specs.declared.answer.PlaceText.TheVariants as texts
use Rattle.ror_proof.specs.declared.answer.WideText.{WideText}
use Rattle.ror_proof.specs.declared.answer.Verdict.{Verdict}
use Rattle.ror_proof.specs.declared.answer.Verdict.TheVariants as verdicts
use Rattle.ror_proof.specs.declared.answer.Answer.{Answer}
use Rattle.ror_proof.specs.Text as text
use Rattle.ror_check.specs.Proof.{base_system, question_systems_of, part_side, Proves, ShowsOfItsSystem, IsWideAt, IsAllowedVerdict}
use Rattle.ror_check.proofs.Checking.{few_of_question}
use Rattle.ror_given.specs.Notes.{HasNoteAt, pivots_of, place_of}
use Rattle.ror_given.specs.Answers.{IsCertificateWithin, IsProofWithin, IsVerdictWithin, IsGiven}
use Rattle.ror_relation.proofs.NoteBounds.{note_within, well_formed, systems_formed}

pub most_within : (bits : Bits) → most_of bits < sum_limit
most_within B15 = lit< tt
most_within B31 = lit< tt
most_within B63 = lit< tt
most_within B127 = lit< tt

module _ (bits : Bits) where
  pub numbers : (xs : List ℤ) → AllByRecursion (IsWithin (most_of bits)) xs → AllByRecursion IsNarrow xs
  numbers xs all = all-by (IsWithin (most_of bits)) IsNarrow xs (λ z within. omega (arith, within, most_within bits)) all

  pub certificate : (x : Certificate) → IsCertificateWithin (most_of bits) x → text.IsNarrowCertificate x
  certificate (certificates.Solution x) narrow = numbers x.steps narrow
  certificate (certificates.Multipliers m) narrow = (numbers m.weak narrow.0, numbers m.strict narrow.1)

  proof : (x : Proof) → IsProofWithin (most_of bits) x → text.IsNarrowProof x
  proof x narrow = (certificate x.base narrow.base, all-by (λ p. IsCertificateWithin (most_of bits) p.body) (λ p. text.IsNarrowCertificate p.body) x.parts (λ p. certificate p.body) narrow.parts)

pub printable : (bits : Bits) (v : Verdict) → IsVerdictWithin (most_of bits) v → text.IsNarrowVerdict v
printable bits (verdicts.Yes x) narrow = proof bits x narrow
printable bits (verdicts.No x) narrow = proof bits x narrow
printable bits (verdicts.Contradiction x) narrow = proof bits x narrow
printable bits (verdicts.Wide system note) narrow = tt

-- ---- numbers

abbrev IsSmall : ℕ → Type 0
IsSmall n = n < 2 ^ 32

place_small : (s : LinearSystem) (place : PlaceText) → IsWellFormed s → IsPlaceWithin (shape_of s) (place_of place) → AllByRecursion IsSmall (text.place_numbers place)
place_small s (texts.Start i j) form within =
    let columns = form.columns_limit in
    let rows = form.rows_limit in
    let row = within.0 in
    let column = within.1 in
    (omega arith, (omega arith, tt))
place_small s (texts.Step i j) form within =
    let columns = form.columns_limit in
    let rows = form.rows_limit in
    let row = within.0 in
    let column = within.1 in
    (omega arith, (omega arith, tt))
place_small s (texts.Denominator i) form within = (let rows = form.rows_limit in omega arith, tt)
place_small s (texts.RowSum i) form within = (let rows = form.rows_limit in omega arith, tt)
place_small s (texts.ColumnSum j) form within = (let columns = form.columns_limit in omega arith, tt)

pivot_small : (s : LinearSystem) (p : Pivot) → IsWellFormed s → (p.column < right_side_column (shape_of s)) × (p.row < objective_row (shape_of s)) → text.IsPrintablePivot p
pivot_small s p form within =
    let columns = form.columns_limit in
    let rows = form.rows_limit in
    let column = within.0 in
    let row = within.1 in
    record { column = omega arith; row = omega arith }

pub note_printable : (most number : ℕ) (s : LinearSystem) (note : WideText) → number ≤ MOST_STATEMENTS → IsWellFormed s → HasNoteAt most s note → text.IsPrintableNote number note
note_printable most number s note few form noted =
    let inside = note_within most s form (pivots_of note.path) (place_of note.place) noted in
    let Inside : ℕ × ℕ → Type 0 = λ p. (p.0 < right_side_column (shape_of s)) × (p.1 < objective_row (shape_of s)) in
    record {
      number = omega arith;
      place = place_small s note.place form inside.1;
      path = all-by (λ p. Inside (p.column, p.row)) text.IsPrintablePivot note.path (λ p within. pivot_small s p form within) ((all-map Inside (λ p. (p.column, p.row)) note.path).1 inside.0);
    }

-- ---- answers that are given

parts_printable : (k : QuestionKind) (c : Conclusion) (systems : List LinearSystem) (parts : List Part) → length systems ≤ MOST_STATEMENTS → AllByRecursion (ShowsOfItsSystem (part_side k c) systems) parts → AllByRecursion (λ p. text.IsNarrowCertificate p.body) parts → AllByRecursion text.IsPrintablePart parts
parts_printable k c systems [] few shown narrow = tt
parts_printable k c systems (p ∷ parts) few shown narrow =
    let counted = shown.0.counted in
    let within = slice_get_within systems shown.0.before shown.0.system shown.0.there in
    (record { number = omega arith; narrow = narrow.0 }, parts_printable k c systems parts few shown.1 narrow.1)

words : (t : DecisionTable) (p : Property) → IsTable t → IsPropertyWithin (length t.alternatives) (length t.criteria) t.classes p → text.HasWords t p
words t properties.Compatible table within = tt
words t (properties.AtLeast form) table within = within
words t (properties.InClass a h) table within =
    let classes = table.classes_limit in
    let last = within.2 in
    (within.0, omega arith)

module _ (bits : Bits) (t : DecisionTable) (list : List Statement) (q : Question) (table : IsTable t) (lawful : IsLawfulIn t list) (asked : IsAskedIn t q) where
  few_numbered : length (question_systems_of t list q) ≤ MOST_STATEMENTS
  few_numbered = let few = few_of_question t list q lawful in omega (arith, length-map (systems_of_question list q) (system_for t list))

  proof_printable : (c : Conclusion) (x : Proof) → Proves t list q c x → IsProofWithin (most_of bits) x → text.IsPrintableProof x
  proof_printable c x proves within =
      let narrow = proof bits x within in
      record { base = narrow.0; parts = parts_printable (kind_of q) c (question_systems_of t list q) x.parts few_numbered proves.parts narrow.1 }

  wide_printable : (number : ℕ) (note : WideText) → IsWideAt (HasNoteAt (most_of bits)) t list q number note → text.IsPrintableNote number note
  wide_printable zero note noted = note_printable (most_of bits) 0 (base_system t list) note (omega arith) (well_formed t list table lawful [] (omega arith) tt) noted
  wide_printable (suc before) note after =
      let within = slice_get_within (question_systems_of t list q) before after.system after.there in
      let few = few_numbered in
      let formed = all_at IsWellFormed (question_systems_of t list q) before after.system (systems_formed t list table lawful q asked) after.there in
      note_printable (most_of bits) (suc before) after.system note (omega arith) formed after.noted

  verdict_printable : (v : Verdict) → IsAllowedVerdict (HasNoteAt (most_of bits)) t list q v → IsVerdictWithin (most_of bits) v → text.IsPrintableVerdict v
  verdict_printable (verdicts.Yes x) proves within = proof_printable conclusions.Yes x proves within
  verdict_printable (verdicts.No x) proves within = proof_printable conclusions.No x proves within
  verdict_printable (verdicts.Contradiction x) proves within = proof_printable conclusions.Contradiction x proves within
  verdict_printable (verdicts.Wide number note) noted within = wide_printable number note noted

  pub given_printable : (x : Answer) → IsGiven (most_of bits) t list q x → text.IsPrintable t x
  given_printable x given = record {
    named = subst (text.IsNamed t) (sym given.allowed.question) (words t (property_of q) table asked);
    concluded = verdict_printable x.verdict given.allowed.verdict given.narrow;
  }
