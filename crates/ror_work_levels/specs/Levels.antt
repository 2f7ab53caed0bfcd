-- What a report of spans over levels is, and what a check of one accepts and rejects.
use Rattle.std.specs.Prelude.{◌≡◌, ℕ, ◌<◌, ◌≤◌, Bool, true, List, [], ◌∷◌, length, None, Ok, Err, nat_lt}
use Rattle.ror_statement.specs.declared.statement.Numbered.{Numbered}
use Rattle.ror_statement.specs.declared.statement.Statement.{Statement}
use Rattle.ror_value.specs.declared.input.Input.{Input}
use Rattle.ror_session.specs.declared.session.Session.{Session}
use Rattle.ror_pivot.specs.declared.note.Bits.{Bits}
use Rattle.ror_pivot.specs.Answers.{most_of}
use Rattle.ror_bench.specs.declared.report.Accepted.{Accepted}
use Rattle.ror_bench.specs.declared.report.Rejection.{Rejection}
use Rattle.ror_bench.specs.declared.report.Reason.TheVariants as reasons
use Rattle.ror_bench.specs.declared.report.TheConstants.{MOST_REPORT_BYTES}
use Rattle.ror_confidence.specs.declared.fault.LevelsFault.{LevelsFault}
use Rattle.ror_confidence.specs.declared.levels.Levels.{Levels}
use Rattle.ror_confidence.specs.Levels.{level_lists}
use Rattle.ror_confidence.specs.Reading.{levels_of}
use Rattle.ror_spans.specs.declared.entry.Entry.{Entry}
use Rattle.ror_spans.specs.Text.{header_text}
use Rattle.ror_entries.specs.Headed.{BehindHead, IsProvedHeaded, IsAcceptedHeaded, IsRejectedHeaded}
use Rattle.ror_entries.specs.Reports.{IsAcceptedEntries}
use Rattle.ror_entries.specs.Writing.{IsWholeText, IsBegunText}
use Rattle.ror_words.specs.Words.{InputNames}
use Rattle.ror_frame.specs.declared.stop.Refusal.{Refusal}
use Rattle.ror_frame.specs.declared.stop.Refusal.TheVariants as refusals
use Rattle.ror_frame.specs.Courses.{Output, Course, finish, fetch, Chore}
use Rattle.ror_frame.specs.Inputs.{accepted_output, over_suited, over_report}
use Rattle.ror_work_levels.specs.Suiting.{IsFirstUnfit, IsStanding}
use Rattle.ror_work_levels.specs.Entries.{span_kind, IsGivenEntry}

-- the bytes are read as levels of what stands when the session is over; are refused for their first fault
abbrev pub ReadsLevels : Input → Session → List ℕ → Levels → Type 0
ReadsLevels i s bytes levels = (standing : List Numbered) × IsStanding i s standing × (levels_of standing bytes ≡ Ok levels)

abbrev pub RefusesLevels : Input → Session → List ℕ → Refusal → Type 0
RefusesLevels i s bytes r = (fault : LevelsFault) × (r ≡ refusals.BadLevels fault)
    × (standing : List Numbered) × IsStanding i s standing × (levels_of standing bytes ≡ Err fault)

-- this holds of the lists of the levels
pub record OfLevels (i : Input) (s : Session) (levels : Levels) (P : List (List Statement) → Type 0) : Type 0 where
  pub standing : List Numbered
  pub stands : IsStanding i s standing
  pub holds : P (level_lists standing levels)

-- the bytes, of which there are at most 268,435,456, are the first line and an entry for each pair, each proved but for what is
-- too wide: so many answers have a proof, and so many pairs are too wide
abbrev pub ProvesSpans : Input → Session → Levels → List ℕ → Accepted → Type 0
ProvesSpans i s levels bytes accepted = (length bytes ≤ MOST_REPORT_BYTES)
    × OfLevels i s levels (λ lists. IsProvedHeaded header_text (span_kind i.table lists) bytes accepted)

-- the same, and each span is that of its pair over all value functions that are compatible with the lists of the levels
abbrev pub IsAcceptedSpans : Input → Session → Levels → List ℕ → Accepted → Type 0
IsAcceptedSpans i s levels bytes accepted =
    OfLevels i s levels (λ lists. IsAcceptedHeaded header_text (span_kind i.table lists) bytes accepted)

-- for what other bytes are rejected: they are too many; or for their first fault over the lists of the levels
pub data IsSpansRejection (i : Input) (s : Session) (levels : Levels) (bytes : List ℕ) (rejection : Rejection) : Type 0 where
  too_long : MOST_REPORT_BYTES < length bytes → rejection ≡ record { block = 0; reason = reasons.TooLong }
      → IsSpansRejection i s levels bytes rejection
  at_fault : length bytes ≤ MOST_REPORT_BYTES
      → OfLevels i s levels (λ lists. IsRejectedHeaded header_text (span_kind i.table lists) bytes rejection)
      → IsSpansRejection i s levels bytes rejection

-- as a step of the work
abbrev pub RefusesSpans : Input → Session → Levels → List ℕ → Refusal → Type 0
RefusesSpans i s levels bytes r = (rejection : Rejection) × (r ≡ refusals.Rejected rejection) × IsSpansRejection i s levels bytes rejection

-- The bytes are the first line and an entry for each pair that may be given where no number passes most. They are accepted.
abbrev pub IsSpansReport : ℕ → Input → Session → Levels → List ℕ → Accepted → Type 0
IsSpansReport most i s levels bytes accepted = OfLevels i s levels (λ lists. BehindHead header_text bytes (λ body. (entries : List Entry)
    × IsWholeText (span_kind i.table lists) (IsGivenEntry most i.table lists) body entries
    × IsAcceptedEntries (span_kind i.table lists) body accepted))

-- the bytes are how such a report begins: its first line and the entries of the first pairs, or all of it
abbrev pub IsBegunSpans : ℕ → Input → Session → Levels → List ℕ → Type 0
IsBegunSpans most i s levels bytes = OfLevels i s levels (λ lists. BehindHead header_text bytes (λ body.
    IsBegunText (span_kind i.table lists) (IsGivenEntry most i.table lists) body))

-- ---- the two commands

abbrev pub spans_output : ℕ → Input → Session → Levels → Output
spans_output most i s levels = record {
  tells = None;
  Whole = λ wide text. (accepted : Accepted) × IsSpansReport most i s levels text accepted × (wide ≡ nat_lt 0 accepted.wide);
  Begun = IsBegunSpans most i s levels;
  keeps_front = true;
}

-- after table and session the levels are fetched, and then the command goes on
abbrev pub over_levels : InputNames → List ℕ → (Input → Session → Levels → Course) → Course
over_levels names levels next = over_suited IsFirstUnfit names (λ i s.
    fetch Levels levels (ReadsLevels i s) (RefusesLevels i s) (λ bytes read. next i s read))

abbrev pub levels_chore : InputNames → List ℕ → Bits → Chore
levels_chore names levels bits = record {
  files = names.table ∷ names.session ∷ levels ∷ [];
  course = over_levels names levels (λ i s read. finish (spans_output (most_of bits) i s read));
}

abbrev pub proved_output : Input → Session → Levels → List ℕ → Accepted → Output
proved_output i s levels bytes accepted = accepted_output accepted (IsAcceptedSpans i s levels bytes accepted)

abbrev pub check_levels_chore : InputNames → List ℕ → List ℕ → Chore
check_levels_chore names levels report = record {
  files = names.table ∷ names.session ∷ levels ∷ report ∷ [];
  course = over_levels names levels (λ i s read. over_report report (ProvesSpans i s read) (IsSpansRejection i s read) (proved_output i s read));
}
