-- What was written of the first line and entries is the report, or how it begins.
use Rattle.std.proofs.Common.{◌≡◌, ℕ, true, List, ◌++◌, length, Ok, Err, refl, sym, subst, inl, inr, arith}
use Rattle.std.proofs.lemmas.List.{take_all}
use Rattle.ror_io.specs.Writing.{Grew}
use Rattle.ror_statement.specs.declared.statement.Numbered.{Numbered}
use Rattle.ror_statement.specs.declared.statement.Statement.{Statement}
use Rattle.ror_table.specs.Table.{DecisionTable}
use Rattle.ror_value.specs.declared.input.Input.{Input}
use Rattle.ror_session.specs.declared.session.Session.{Session}
use Rattle.ror_proof.specs.declared.answer.Verdict.{Verdict}
use Rattle.ror_proof.specs.declared.answer.Verdict.TheVariants as verdicts
use Rattle.ror_check.specs.Proof.{IsWide, is_wide}
use Rattle.ror_confidence.specs.declared.levels.Levels.{Levels}
use Rattle.ror_confidence.specs.Finding.{IsSpanQuestion}
use Rattle.ror_confidence.specs.Levels.{level_lists}
use Rattle.ror_spans.specs.declared.entry.Entry.{Entry}
use Rattle.ror_spans.specs.declared.entry.Entry.TheVariants as entries
use Rattle.ror_spans.specs.Text.{header_text}
use Rattle.ror_entries.specs.Kind.{IsKind}
use Rattle.ror_entries.specs.Reports.{accepted_of, IsAcceptedEntries}
use Rattle.ror_entries.specs.Writing.{IsWholeText, IsBegunText}
use Rattle.ror_entries.proofs.WriteLemmas.{given_are_proved}
use Rattle.ror_entries.proofs.EachLemmas.{proved_is_accepted}
use Rattle.ror_frame.specs.declared.stop.Stop.TheVariants as stops
use Rattle.ror_frame.specs.States.{SinkState}
use Rattle.ror_frame.specs.Stops.{Outcome}
use Rattle.ror_frame.specs.Courses.{WritesDue}
use Rattle.ror_work_levels.specs.Entries.{span_kind, IsOnSpan, IsGivenSpan, IsGivenEntry, IsProvedFor, IsProvedEntry}
use Rattle.ror_work_levels.specs.Suiting.{IsStanding}
use Rattle.ror_work_levels.specs.Steps.{WritesOver}
use Rattle.ror_work_levels.specs.Levels.{IsSpansReport, IsBegunSpans, spans_output}

-- ---- given entries are proved

wide_is : (v : Verdict) → IsWide v → is_wide v ≡ true
wide_is (verdicts.Yes proof) wide = absurd wide
wide_is (verdicts.No proof) wide = absurd wide
wide_is (verdicts.Contradiction proof) wide = absurd wide
wide_is (verdicts.Wide system note) wide = refl

given_for : (most : ℕ) (t : DecisionTable) (lists : List (List Statement)) (x : Entry) → IsGivenSpan most t lists x → IsProvedFor t lists x
given_for most t lists (entries.Known a b span) given = given.0
given_for most t lists (entries.Wide a b found) given = record {
  from_first = given.from_first;
  to_last = given.to_last;
  wide = wide_is found.answer.verdict given.wide;
  asked = by given.asked;
}
  where
    by : IsSpanQuestion t lists a b found.level found.answer.question → IsOnSpan a b found.answer.question
    by (inl is) = inl is
    by (inr (inl is, consistent)) = inr (inl is)
    by (inr (inr is, consistent)) = inr (inr is)

pub given_proved : (most : ℕ) (t : DecisionTable) (lists : List (List Statement)) (place : ℕ) (x : Entry) → IsGivenEntry most t lists place x → IsProvedEntry t lists place x
given_proved most t lists place x given = (given.0, given_for most t lists x given.1)

module _ (most : ℕ) (i : Input) (s : Session) (levels : Levels) (standing : List Numbered) (stands : IsStanding i s standing) (kind : IsKind (span_kind i.table (level_lists standing levels))) where
  abbrev lists : List (List Statement)
  lists = level_lists standing levels

  accepted_whole : (body : List ℕ) (xs : List Entry) → IsWholeText (span_kind i.table lists) (IsGivenEntry most i.table lists) body xs → IsAcceptedEntries (span_kind i.table lists) body (accepted_of (span_kind i.table lists) xs)
  accepted_whole body xs whole =
      proved_is_accepted (span_kind i.table lists) kind body (accepted_of (span_kind i.table lists) xs) (given_are_proved (span_kind i.table lists) (IsGivenEntry most i.table lists) (given_proved most i.table lists) body xs whole)

  begun : (body : List ℕ) → IsBegunText (span_kind i.table lists) (IsGivenEntry most i.table lists) body → IsBegunSpans most i s levels (header_text ++ body)
  begun body had = record { standing = standing; stands = stands; holds = (body, refl, had) }

  pub report_written : (old new : SinkState) (outcome : Outcome) → WritesOver most i.table lists old new outcome → WritesDue (spans_output most i s levels) old new outcome
  report_written old new (Ok wide) had =
      let accepted = accepted_of (span_kind i.table lists) had.2 in
      let report : IsSpansReport most i s levels (header_text ++ had.1) accepted = record { standing = standing; stands = stands; holds = (had.1, refl, (had.2, had.3, accepted_whole had.1 had.2 had.3)) } in
      (had.0, tt, header_text ++ had.1, (accepted, report, had.4), had.5)
  report_written old new (Err (stops.At r)) had = absurd had
  report_written old new (Err stops.ReadFault) had = absurd had
  report_written old new (Err stops.WriteFault) had = (had.0, had.1, header_text ++ had.2, begun had.2 had.3, had.4)
  report_written old new (Err stops.Memory) (inl same) = inl same
  report_written old new (Err stops.Memory) (inr had) =
      let text = header_text ++ had.1 in
      inr (had.0, refl, text, length text, begun had.1 had.2, subst (Grew old.written new.written) (sym (take_all (length text) text (omega arith))) had.3)

-- ---- the same of a table that is the input's

pub written_over : (most : ℕ) (i : Input) (s : Session) (levels : Levels) (standing : List Numbered) (t : DecisionTable) → t ≡ i.table → IsStanding i s standing → IsKind (span_kind i.table (level_lists standing levels)) → (old new : SinkState) (outcome : Outcome) → WritesOver most t (level_lists standing levels) old new outcome → WritesDue (spans_output most i s levels) old new outcome
written_over most i s levels standing t same stands kind old new outcome had =
    report_written most i s levels standing stands kind old new outcome (subst (λ (u : DecisionTable). WritesOver most u (level_lists standing levels) old new outcome) same had)
