-- What may be given of a pair can be printed.
use Rattle.std.proofs.Common.{◌≡◌, ℕ, ◌+◌, ◌<◌, ◌≤◌, ◌^◌, true, List, [], ◌∷◌, ◌++◌, length, sym, subst, inl, inr, arith}
use Rattle.std.specs.Prelude.{nat_lt}
use Rattle.std.specs.List.{AllByRecursion, AllZip}
use Rattle.std.proofs.lemmas.Bool.{cases_Bool, ltb-true}
use Rattle.ror_text.proofs.Everywhere.{all-append}
use Rattle.ror_statement.specs.declared.statement.Statement.{Statement}
use Rattle.ror_statement.specs.declared.question.Question.{Question}
use Rattle.ror_statement.specs.declared.question.Question.TheVariants.{Consistent, Necessary, Possible}
use Rattle.ror_table.specs.Table.{DecisionTable, IsTable}
use Rattle.ror_system.specs.System.{LinearSystem}
use Rattle.ror_value.specs.Over.{IsAskedIn}
use Rattle.ror_proof.specs.declared.answer.Answer.{Answer}
use Rattle.ror_proof.specs.declared.answer.Verdict.{Verdict}
use Rattle.ror_proof.specs.declared.answer.Verdict.TheVariants as verdicts
use Rattle.ror_proof.specs.declared.answer.WideText.{WideText}
use Rattle.ror_proof.specs.Text.{IsPrintable}
use Rattle.ror_report.specs.Printing.{HasValidQuestion, HasNarrowVerdict}
use Rattle.ror_check.specs.Proof.{IsAllowedVerdict, IsProvedAnswer, IsWideOrProved, OfProof, Proves}
use Rattle.ror_check.proofs.ManyAnswers.{wide_or_true}
use Rattle.ror_pivot.specs.declared.note.Bits.{Bits}
use Rattle.ror_pivot.specs.Answers.{most_of}
use Rattle.ror_given.specs.Answers.{IsGiven, IsVerdictWithin}
use Rattle.ror_given.specs.Notes.{HasNoteAt}
use Rattle.ror_relation.proofs.Printing.{printable, given_printable}
use Rattle.ror_confidence.specs.declared.span.LevelAnswer.{LevelAnswer}
use Rattle.ror_confidence.specs.declared.span.Span.{Span}
use Rattle.ror_confidence.specs.Faults.{place_of_due}
use Rattle.ror_confidence.specs.Finding.{IsSpanQuestion, IsWideAtLevel}
use Rattle.ror_confidence.specs.Levels.{list_of_level}
use Rattle.ror_confidence.specs.Proof.{due_below, due_from, dues_of, is_in_range, IsProvedDue, IsProvedSpan, IsSpanWithin}
use Rattle.ror_confidence.specs.Spans.{AreLevelLists}
use Rattle.ror_confidence.proofs.Truth.{in_range, level-lawful}
use Rattle.ror_spans.specs.declared.entry.Entry.TheVariants as entries
use Rattle.ror_spans.specs.Text.{IsPrintableAt, IsPrintableEntry}

-- ---- what is due of a span

-- is at one of so many levels, to a question of the table
abbrev IsPlaceIn : DecisionTable → ℕ → ℕ × Question → Type 0
IsPlaceIn t n place = (1 ≤ place.0) × (place.0 ≤ n) × IsAskedIn t place.1

from_in : (t : DecisionTable) (n : ℕ) (q : Question) (level end : ℕ) → 1 ≤ level → (level < end → level ≤ n) → IsAskedIn t q → AllByRecursion (λ due. IsPlaceIn t n (place_of_due due)) (due_from q level end)
from_in t n q level end first last asked = elim (cases_Bool (nat_lt level end)) [
  | inl is ↦ rw is ((first, last (ltb-true level end is), asked), tt)
  | inr not ↦ rw not tt
]

below_in : (t : DecisionTable) (n : ℕ) (q : Question) (level : ℕ) → (1 < level → level ≤ n + 1) → IsAskedIn t q → AllByRecursion (λ due. IsPlaceIn t n (place_of_due due)) (due_below q level)
below_in t n q level last asked = elim (cases_Bool (nat_lt 1 level)) [
  | inl is ↦
      let over = ltb-true 1 level is in
      let within = last over in
      rw is ((omega (arith, over), omega (arith, over, within), asked), tt)
  | inr not ↦ rw not tt
]

dues_in : (t : DecisionTable) (n a b c k p : ℕ) → a < length t.alternatives → b < length t.alternatives → is_in_range n c k p ≡ true → AllByRecursion (λ due. IsPlaceIn t n (place_of_due due)) (dues_of n a b c k p)
dues_in t n a b c k p first second is =
    let r = in_range n c k p is in
    let least = r.first in
    let last = r.last in
    let from = r.from_first in
    let upto = r.upto in
    let under = r.under in
    let d1 = due_from Consistent c (n + 1) in
    let d2 = due_below Consistent c in
    let d3 = due_from (Necessary a b) k c in
    let d4 = due_below (Necessary a b) k in
    let d5 = due_below (Possible a b) (p + 1) in
    let d6 = due_from (Possible a b) (p + 1) c in
    all-append (λ due. IsPlaceIn t n (place_of_due due)) (d1 ++ d2 ++ d3 ++ d4 ++ d5) d6
    (all-append (λ due. IsPlaceIn t n (place_of_due due)) (d1 ++ d2 ++ d3 ++ d4) d5
    (all-append (λ due. IsPlaceIn t n (place_of_due due)) (d1 ++ d2 ++ d3) d4
    (all-append (λ due. IsPlaceIn t n (place_of_due due)) (d1 ++ d2) d3
    (all-append (λ due. IsPlaceIn t n (place_of_due due)) d1 d2 (from_in t n Consistent c (n + 1) least (λ less. omega (arith, less)) tt) (below_in t n Consistent c (λ over. last) tt))
    (from_in t n (Necessary a b) k c from (λ less. omega (arith, less, last)) (first, second)))
    (below_in t n (Necessary a b) k (λ over. omega (arith, upto, last)) (first, second)))
    (below_in t n (Possible a b) (p + 1) (λ over. omega (arith, under, last)) (first, second)))
    (from_in t n (Possible a b) (p + 1) c (omega arith) (λ less. omega (arith, less, last)) (first, second))

-- ---- an answer that is proved, and of which no number passes the width, may be given

allowed_by : (H : LinearSystem → WideText → Type 0) (t : DecisionTable) (list : List Statement) (q : Question) (v : Verdict) → OfProof (Proves t list q) v → IsAllowedVerdict H t list q v
allowed_by H t list q (verdicts.Yes proof) h = h
allowed_by H t list q (verdicts.No proof) h = h
allowed_by H t list q (verdicts.Contradiction proof) h = h
allowed_by H t list q (verdicts.Wide system note) h = absurd h

or_proved : (t : DecisionTable) (list : List Statement) (q : Question) (v : Verdict) → OfProof (Proves t list q) v → IsWideOrProved t list q v
or_proved t list q (verdicts.Yes proof) h = h
or_proved t list q (verdicts.No proof) h = h
or_proved t list q (verdicts.Contradiction proof) h = h
or_proved t list q (verdicts.Wide system note) h = absurd h

-- ---- what holds of each answer

each_of : {D : Type 0} (P : D → Type 0) (R : D → LevelAnswer → Type 0) (N Q : LevelAnswer → Type 0) → ((due : D) (x : LevelAnswer) → P due → R due x → N x → Q x) → (dues : List D) (xs : List LevelAnswer) → AllByRecursion P dues → AllZip R dues xs → AllByRecursion N xs → AllByRecursion Q xs
each_of P R N Q by [] [] due zip narrow = tt
each_of P R N Q by [] (x ∷ xs) due zip narrow = absurd zip
each_of P R N Q by (d ∷ ds) [] due zip narrow = absurd zip
each_of P R N Q by (d ∷ ds) (x ∷ xs) due zip narrow = (by d x due.0 zip.0 narrow.0, each_of P R N Q by ds xs due.1 zip.1 narrow.1)

module _ (bits : Bits) (t : DecisionTable) (lists : List (List Statement)) (a b : ℕ) (table : IsTable t) (levels : AreLevelLists t lists) (few : length lists < 2 ^ 16) (first : a < length t.alternatives) (second : b < length t.alternatives) where
  due_printable : (due : _) (x : LevelAnswer) → IsPlaceIn t (length lists) (place_of_due due) → IsProvedDue t lists due x → IsVerdictWithin (most_of bits) x.answer.verdict → IsPrintableAt t x
  due_printable due x within proved narrow =
      let list = list_of_level lists due.level in
      let lawful = level-lawful t lists due.level levels.lawful within.0 within.1 in
      let given : IsGiven (most_of bits) t list due.question x.answer = record {
        allowed = record { question = proved.proved.question; verdict = allowed_by (HasNoteAt (most_of bits)) t list due.question x.answer.verdict proved.proved.proof };
        narrow = narrow;
        true_answer = wide_or_true t list due.question x.answer.verdict lawful within.2 (or_proved t list due.question x.answer.verdict proved.proved.proof);
      } in
      let same = proved.level in
      let last = within.1 in
      (omega (arith, same, last, few), given_printable bits t list due.question table lawful within.2 x.answer given)

  module _ (span : Span) (proved : IsProvedSpan t lists a b span) (narrow : IsSpanWithin (most_of bits) span) where
    each : (Q : LevelAnswer → Type 0) → ((due : _) (x : LevelAnswer) → IsPlaceIn t (length lists) (place_of_due due) → IsProvedDue t lists due x → IsVerdictWithin (most_of bits) x.answer.verdict → Q x) → AllByRecursion Q span.proof
    each Q by = each_of (λ due. IsPlaceIn t (length lists) (place_of_due due)) (IsProvedDue t lists) (λ x. IsVerdictWithin (most_of bits) x.answer.verdict) Q by (dues_of (length lists) a b span.contradictory span.necessary span.possible) span.proof (dues_in t (length lists) a b span.contradictory span.necessary span.possible first second proved.range) proved.answers narrow

    pub span_printable : IsPrintableEntry t (entries.Known a b span)
    span_printable =
        let r = in_range (length lists) span.contradictory span.necessary span.possible proved.range in
        let last = r.last in
        let upto = r.upto in
        let under = r.under in (
          first,
          second,
          record {
            contradictory = omega (arith, last, few);
            necessary = omega (arith, last, upto, few);
            possible = omega (arith, last, under, few);
            proof = each (IsPrintableAt t) due_printable;
          },
        )

    pub span_valid : AllByRecursion (λ x. HasValidQuestion t x.answer) span.proof
    span_valid = each (λ x. HasValidQuestion t x.answer) (λ due x within proved narrow. subst (IsAskedIn t) (sym proved.proved.question) within.2)

    pub span_narrow : AllByRecursion (λ x. HasNarrowVerdict x.answer) span.proof
    span_narrow = each (λ x. HasNarrowVerdict x.answer) (λ due x within proved narrow. printable bits x.answer.verdict narrow)

  module _ (found : LevelAnswer) (wide : IsWideAtLevel (most_of bits) t lists a b found) where
    wide_asked : IsAskedIn t found.answer.question
    wide_asked = by wide.asked
      where
        by : IsSpanQuestion t lists a b found.level found.answer.question → IsAskedIn t found.answer.question
        by (inl is) = subst (IsAskedIn t) (sym is) tt
        by (inr (inl is, consistent)) = subst (IsAskedIn t) (sym is) (first, second)
        by (inr (inr is, consistent)) = subst (IsAskedIn t) (sym is) (first, second)

    pub wide_printable : IsPrintableEntry t (entries.Wide a b found)
    wide_printable =
        let list = list_of_level lists found.level in
        let lawful = level-lawful t lists found.level levels.lawful wide.from_first wide.to_last in
        let last = wide.to_last in
        (first, second, (omega (arith, last, few), given_printable bits t list found.answer.question table lawful wide_asked found.answer wide.given))

    pub wide_valid : HasValidQuestion t found.answer
    wide_valid = wide_asked

    pub wide_narrow : HasNarrowVerdict found.answer
    wide_narrow = printable bits found.answer.verdict wide.given.narrow
