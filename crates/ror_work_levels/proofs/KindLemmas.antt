-- The entries of a report of spans are a kind, of which each is refused for one reason.
use Rattle.std.proofs.Common.{eqb, not, ◌&&◌, ◌≡◌, ℕ, ◌<◌, ◌⊎◌, true, false, List, [], ◌∷◌, ◌++◌, length, Some, refl, sym, ap, ◌∙◌, subst, inl, inr, arith}
use Rattle.std.specs.Prelude.{slice_get, codes}
use Rattle.std.specs.Str.{IsUtf8}
use Rattle.std.proofs.lemmas.Bool.{cases_Bool, eqb-false}
use Rattle.ror_text.specs.FirstFault.{IsFirst}
use Rattle.ror_text.proofs.FirstFaultLemmas.{first_at}
use Rattle.ror_statement.specs.declared.statement.Statement.{Statement}
use Rattle.ror_statement.specs.declared.question.Conclusion.{Conclusion}
use Rattle.ror_statement.specs.declared.question.Conclusion.TheVariants as conclusions
use Rattle.ror_table.specs.Table.{DecisionTable, IsTable}
use Rattle.ror_proof.specs.declared.answer.Verdict.{Verdict}
use Rattle.ror_proof.specs.declared.answer.Verdict.TheVariants as verdicts
use Rattle.ror_proof.proofs.Utf8Lemmas.{ascii_is_utf8, line_text_is_utf8}
use Rattle.ror_check.specs.declared.fault.CheckFault.{CheckFault}
use Rattle.ror_check.specs.declared.fault.CheckFault.TheVariants as checks
use Rattle.ror_check.specs.Faults.{FailsAnswer, IsEarlierFault, fault_stage, fault_place}
use Rattle.ror_check.specs.Proof.{is_wide}
use Rattle.ror_relation.specs.Pairs.{AreDifferentOf}
use Rattle.ror_relation.proofs.PairLemmas.{few_pairs}
use Rattle.ror_report.specs.Reading.{begins_end}
use Rattle.ror_bench.specs.declared.report.Reason.{Reason}
use Rattle.ror_bench.proofs.UniqueLemmas.{one_some, one_answer_fault}
use Rattle.ror_confidence.specs.declared.fault.SpanCheckFault.{SpanCheckFault}
use Rattle.ror_confidence.specs.declared.fault.SpanCheckFault.TheVariants as faults
use Rattle.ror_confidence.specs.declared.span.LevelAnswer.{LevelAnswer}
use Rattle.ror_confidence.specs.declared.span.Span.{Span}
use Rattle.ror_confidence.specs.Faults.{FailsDue, FailsAnswerAt, FailsSpan, place_of_due, span_stage, span_place}
use Rattle.ror_confidence.specs.Levels.{list_of_level}
use Rattle.ror_confidence.specs.Proof.{concludes, dues_of}
use Rattle.ror_confidence.specs.Spans.{AreLevelLists}
use Rattle.ror_confidence.proofs.Checks.{span_passes}
use Rattle.ror_confidence.proofs.Truth.{proved_is_true}
use Rattle.ror_spans.specs.declared.entry.Entry.{Entry}
use Rattle.ror_spans.specs.declared.entry.Entry.TheVariants as entries
use Rattle.ror_spans.specs.EntryLaws.{IsEnded}
use Rattle.ror_spans.specs.Text.{entry_text, header_text}
use Rattle.ror_spans.proofs.EntryEnds.{pair_ends, end_ends}
use Rattle.ror_spans.proofs.EntryTexts.{entry_iff_text, entry_begins, entry_is_utf8}
use Rattle.ror_entries.specs.Kind.{IsKind, HasOneReason}
use Rattle.ror_entries.specs.Pairs.{pairs_of}
use Rattle.ror_entries.proofs.EachLemmas.{pair_begins_no_end}
use Rattle.ror_entries.proofs.PairLemmas.{pair_there}
use Rattle.ror_work_levels.specs.Entries.{pair_of, IsOnPairAt, IsProvedEntry, IsTrueEntry, RefusesFor, RefusesEntry, other_pair, at_fault, reason_of, span_kind}

-- ---- the pair at a place

-- is one of two alternatives of the table
on_pair : (t : DecisionTable) (place : ℕ) (x : Entry) → IsOnPairAt t place x → AreDifferentOf (length t.alternatives) (pair_of x)
on_pair t place x at = pair_there t (pairs_of t) place (pair_of x) refl at

-- an entry on it is on the pair that is due
pub entry_there : (t : DecisionTable) (pairs : List (ℕ × ℕ)) (place : ℕ) (p : ℕ × ℕ) (x : Entry) → pairs ≡ pairs_of t → slice_get pairs place ≡ Some p → pair_of x ≡ p → IsOnPairAt t place x
entry_there t pairs place p x same at is = ap (λ (ps : List (ℕ × ℕ)). slice_get ps place) (sym same) ∙ at ∙ ap (λ (q : ℕ × ℕ). Some q) (sym is)

-- and one on another pair is not
both_same : (a b c d : ℕ) → a ≡ c → b ≡ d → not (eqb a c && eqb b d) ≡ true → ⊥
both_same a b c d p q other = elim (cases_Bool (eqb a c)) [
  | inl one ↦ elim (cases_Bool (eqb b d)) [
    | inl two ↦ absurd (let no = rw (one, two) at other in cc)
    | inr unlike ↦ eqb-false b d unlike q
  ]
  | inr unlike ↦ eqb-false a c unlike p
]

pub other_there : (t : DecisionTable) (pairs : List (ℕ × ℕ)) (place : ℕ) (p q : ℕ × ℕ) (x : Entry) → pairs ≡ pairs_of t → slice_get pairs place ≡ Some p → q ≡ pair_of x → not (eqb q.0 p.0 && eqb q.1 p.1) ≡ true → IsOnPairAt t place x → ⊥
other_there t pairs place p q x same at is other on =
    let there : slice_get (pairs_of t) place ≡ Some p = ap (λ (ps : List (ℕ × ℕ)). slice_get ps place) (sym same) ∙ at in
    let equal : q ≡ p = is ∙ one_some (slice_get (pairs_of t) place) (pair_of x) p on there in
    both_same q.0 q.1 p.0 p.1 (ap (λ (r : ℕ × ℕ). r.0) equal) (ap (λ (r : ℕ × ℕ). r.1) equal) other

-- ---- one first fault

-- one that is too wide concludes nothing
wide_concludes : (c : Conclusion) (v : Verdict) → is_wide v ≡ true → concludes c v ≡ false
wide_concludes c (verdicts.Yes proof) is = absurd cc
wide_concludes c (verdicts.No proof) is = absurd cc
wide_concludes c (verdicts.Contradiction proof) is = absurd cc
wide_concludes conclusions.Yes (verdicts.Wide system note) is = refl
wide_concludes conclusions.No (verdicts.Wide system note) is = refl
wide_concludes conclusions.Contradiction (verdicts.Wide system note) is = refl

-- any fault but that of the verdict is one of the answer
of_answer : (t : DecisionTable) (list : List Statement) (due : _) (x : LevelAnswer) (f : CheckFault) → FailsDue t list due x f → (f ≡ checks.WrongVerdict) ⊎ FailsAnswer t list due.question x.answer f
of_answer t list due x checks.WrongQuestion fails = inr fails
of_answer t list due x checks.WrongVerdict fails = inl refl
of_answer t list due x checks.PartCount fails = inr fails
of_answer t list due x (checks.Base r) fails = inr fails
of_answer t list due x (checks.Part k r) fails = inr fails
of_answer t list due x checks.Memory fails = inr fails

-- an answer that has one of these is not too wide, since its verdict would be wrong before
narrow : (t : DecisionTable) (list : List Statement) (due : _) (x : LevelAnswer) (f : CheckFault) → IsFirst (FailsDue t list due x) IsEarlierFault f → 1 < fault_stage f → is_wide x.answer.verdict ≡ false
narrow t list due x f first late = by x.answer.verdict refl
  where
    by : (v : Verdict) → x.answer.verdict ≡ v → is_wide v ≡ false
    by (verdicts.Yes proof) is = refl
    by (verdicts.No proof) is = refl
    by (verdicts.Contradiction proof) is = refl
    by (verdicts.Wide system note) is = absurd (first.none_before checks.WrongVerdict (inl late) (inl (wide_concludes due.conclusion x.answer.verdict (ap is_wide is))))

both_late : (t : DecisionTable) (list : List Statement) (due : _) (x : LevelAnswer) (f g : CheckFault) → IsFirst (FailsDue t list due x) IsEarlierFault f → IsFirst (FailsDue t list due x) IsEarlierFault g → fault_stage f ≡ fault_stage g → fault_place f ≡ fault_place g → 1 < fault_stage f → f ≡ g
both_late t list due x f g first second stage place late = elim (of_answer t list due x f first.fails) [
  | inl is ↦ absurd (let one = ap fault_stage is in omega (arith, one, late))
  | inr fails ↦ elim (of_answer t list due x g second.fails) [
    | inl is ↦ absurd (let one = ap fault_stage is in omega (arith, one, stage, late))
    | inr likewise ↦ one_answer_fault t list due.question x.answer f g (narrow t list due x f first late) fails likewise stage place
  ]
]

same_stage : (t : DecisionTable) (list : List Statement) (due : _) (x : LevelAnswer) (f g : CheckFault) → IsFirst (FailsDue t list due x) IsEarlierFault f → IsFirst (FailsDue t list due x) IsEarlierFault g → fault_stage f ≡ fault_stage g → fault_place f ≡ fault_place g → f ≡ g
same_stage t list due x checks.WrongQuestion checks.WrongQuestion first second stage place = refl
same_stage t list due x checks.WrongVerdict checks.WrongVerdict first second stage place = refl
same_stage t list due x checks.WrongQuestion g first second stage place = absurd (omega (arith, stage))
same_stage t list due x checks.WrongVerdict g first second stage place = absurd (omega (arith, stage))
same_stage t list due x checks.PartCount g first second stage place = both_late t list due x checks.PartCount g first second stage place (omega arith)
same_stage t list due x (checks.Base r) g first second stage place = both_late t list due x (checks.Base r) g first second stage place (omega arith)
same_stage t list due x (checks.Part k r) g first second stage place = both_late t list due x (checks.Part k r) g first second stage place (omega arith)
same_stage t list due x checks.Memory g first second stage place = both_late t list due x checks.Memory g first second stage place (omega arith)

one_due : (t : DecisionTable) (list : List Statement) (due : _) (x : LevelAnswer) (f g : CheckFault) → IsFirst (FailsDue t list due x) IsEarlierFault f → IsFirst (FailsDue t list due x) IsEarlierFault g → f ≡ g
one_due t list due x f g first second =
    let at = first_at (FailsDue t list due x) fault_stage fault_place f g first second in
    same_stage t list due x f g first second at.0 at.1

module _ (t : DecisionTable) (lists : List (List Statement)) where
  one_at : (dues : List _) (xs : List LevelAnswer) (k : ℕ) (f g : CheckFault) → FailsAnswerAt t lists dues xs k f → FailsAnswerAt t lists dues xs k g → f ≡ g
  one_at dues xs k f g first second =
      let e = first.counted in
      let m = second.counted in
      let place : second.before ≡ first.before = omega (arith, e, m) in
      let due : second.due ≡ first.due = one_some (slice_get dues first.before) second.due first.due (ap (slice_get dues) (sym place) ∙ second.due_there) first.due_there in
      let answer : second.answer ≡ first.answer = one_some (slice_get xs first.before) second.answer first.answer (ap (slice_get xs) (sym place) ∙ second.there) first.there in
      let here = subst (λ d. IsFirst (FailsDue t (list_of_level lists (place_of_due d).0) d first.answer) IsEarlierFault g) due (subst (λ (x : LevelAnswer). IsFirst (FailsDue t (list_of_level lists second.due.level) second.due x) IsEarlierFault g) answer second.first) in
      one_due t (list_of_level lists first.due.level) first.due first.answer f g first.first here

  module _ (a b : ℕ) (x : Span) where
    one_reason_of : (f g : SpanCheckFault) → FailsSpan t lists a b x f → FailsSpan t lists a b x g → span_stage f ≡ span_stage g → span_place f ≡ span_place g → reason_of f ≡ reason_of g
    one_reason_of (faults.Answer k f) (faults.Answer l g) first second stage place =
        let here = subst (λ (n : ℕ). FailsSpan t lists a b x (faults.Answer n g)) (sym place) second in
        let same = one_at (dues_of (length lists) a b x.contradictory x.necessary x.possible) x.proof k f g first here in
        ap reason_of (ap (λ (n : ℕ). faults.Answer n f) place ∙ ap (λ (c : CheckFault). faults.Answer l c) same)
    one_reason_of (faults.Answer k f) faults.Range first second stage place = absurd (omega (arith, stage))
    one_reason_of (faults.Answer k f) faults.Shape first second stage place = absurd (omega (arith, stage))
    one_reason_of (faults.Answer k f) faults.Memory first second stage place = absurd second
    one_reason_of faults.Range (faults.Answer l g) first second stage place = absurd (omega (arith, stage))
    one_reason_of faults.Shape (faults.Answer l g) first second stage place = absurd (omega (arith, stage))
    one_reason_of faults.Memory g first second stage place = absurd first
    one_reason_of faults.Range faults.Range first second stage place = refl
    one_reason_of faults.Range faults.Shape first second stage place = refl
    one_reason_of faults.Range faults.Memory first second stage place = refl
    one_reason_of faults.Shape faults.Range first second stage place = refl
    one_reason_of faults.Shape faults.Shape first second stage place = refl
    one_reason_of faults.Shape faults.Memory first second stage place = refl

  one_for : (x : Entry) (q r : Reason) → RefusesFor t lists x q → RefusesFor t lists x r → q ≡ r
  one_for (entries.Known a b span) q r first second =
      let at = first_at (FailsSpan t lists a b span) span_stage span_place first.0 second.0 first.1 second.1 in
      first.2 ∙ one_reason_of a b span first.0 second.0 first.1.fails second.1.fails at.0 at.1 ∙ sym second.2
  one_for (entries.Wide a b found) q r first second = first.1 ∙ sym second.1

  -- an entry is refused at a place for one reason
  pub one_reason : HasOneReason (span_kind t lists)
  one_reason place x q r (other_pair off is) (other_pair besides and) = is ∙ sym and
  one_reason place x q r (other_pair off is) (at_fault on because) = absurd (off on)
  one_reason place x q r (at_fault on because) (other_pair off is) = absurd (off on)
  one_reason place x q r (at_fault on because) (at_fault there likewise) = one_for x q r because likewise

-- ---- the first line

pub header_is_utf8 : IsUtf8 header_text
unfolding header_text
header_is_utf8 = line_text_is_utf8 (codes "ror-spans" ∷ codes "1" ∷ []) (ascii_is_utf8 (codes "ror-spans") refl, (ascii_is_utf8 (codes "1") refl, tt))

-- ---- the kind

module _ (t : DecisionTable) (lists : List (List Statement)) (table : IsTable t) (levels : AreLevelLists t lists) where
  proved_true : (place : ℕ) (x : Entry) → IsProvedEntry t lists place x → IsTrueEntry t lists x
  proved_true place (entries.Known a b span) proved =
      let p = on_pair t place (entries.Known a b span) proved.0 in
      proved_is_true t lists a b span levels p.1 p.2 proved.1
  proved_true place (entries.Wide a b found) proved = tt

  passes : (x : Entry) (place : ℕ) (reason : Reason) → IsProvedEntry t lists place x → RefusesFor t lists x reason → ⊥
  passes (entries.Known a b span) place reason proved refused = span_passes t lists a b span refused.0 proved.1 refused.1.fails
  passes (entries.Wide a b found) place reason proved refused = refused.0 proved.1

  proved_passes : (place : ℕ) (x : Entry) (reason : Reason) → IsProvedEntry t lists place x → RefusesEntry t lists place x reason → ⊥
  proved_passes place x reason proved (other_pair off is) = off proved.0
  proved_passes place x reason proved (at_fault on refused) = passes x place reason proved refused

  next_follows : (x next : Entry) (rest : List ℕ) → IsEnded x (entry_text t next ++ rest)
  next_follows x next rest =
      let begins = entry_begins t next in
      subst (λ (text : List ℕ). IsEnded x (text ++ rest)) (sym begins.1) (pair_ends x (begins.0 ++ rest))

  pub are_kind : IsKind (span_kind t lists)
  are_kind = record {
    few = let few = few_pairs (length t.alternatives) table.alternatives_limit in omega (arith, few);
    read_iff_text = λ c x after.
        let same = entry_iff_text t c x after table in
        ((λ read. let text = same.0 read in record { text = text.text; place = text.place; printable = text.printable; follows = text.ended }), λ text. same.1 (record { text = text.text; place = text.place; printable = text.printable; ended = text.follows }));
    begins_no_end = λ x rest printable.
        let begins = entry_begins t x in
        ap (λ (text : List ℕ). begins_end (text ++ rest)) begins.1 ∙ pair_begins_no_end (begins.0 ++ rest);
    entry_follows = λ x next rest has printable. next_follows x next rest;
    end_follows = λ x n has. end_ends x n;
    utf8 = λ x printable. entry_is_utf8 t x table printable;
    proved_not_refused = proved_passes;
    proved_is_true = proved_true;
  }
