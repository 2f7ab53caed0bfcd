-- What a group's report is, and what a check of one accepts and rejects.
use Rattle.std.specs.Prelude.{◌≡◌, ℕ, ◌<◌, ◌≤◌, Bool, true, List, length, None, Result, Ok, Err, nat_lt}
use Rattle.std.specs.Str.{IsUtf8}
use Rattle.ror_text.specs.Cursor.{Cursor, cursor_at}
use Rattle.ror_statement.specs.declared.statement.Statement.{Statement}
use Rattle.ror_table.specs.Table.{DecisionTable}
use Rattle.ror_value.specs.declared.input.Input.{Input}
use Rattle.ror_session.specs.declared.session.Session.{Session}
use Rattle.ror_pivot.specs.declared.note.Bits.{Bits}
use Rattle.ror_pivot.specs.Answers.{most_of}
use Rattle.ror_bench.specs.declared.report.Accepted.{Accepted}
use Rattle.ror_bench.specs.declared.report.Rejection.{Rejection}
use Rattle.ror_bench.specs.declared.report.Reason.{Reason}
use Rattle.ror_bench.specs.declared.report.Reason.TheVariants as reasons
use Rattle.ror_bench.specs.Reports.{misread_reason}
use Rattle.ror_bench.specs.declared.report.TheConstants.{MOST_REPORT_BYTES}
use Rattle.ror_closing.specs.Closing.{AreClosingLists, IsFirstUnsuited}
use Rattle.ror_group.specs.declared.entry.Entry.{Entry}
use Rattle.ror_group.specs.declared.head.HeadFault.{HeadFault}
use Rattle.ror_group.specs.declared.head.HeadFault.TheVariants as heads
use Rattle.ror_group.specs.Head.{IsHeadText, whole_head_at}
use Rattle.ror_frame.specs.declared.stop.Stop.{Stop}
use Rattle.ror_frame.specs.declared.stop.Stop.TheVariants as stops
use Rattle.ror_frame.specs.States.{SinkState}
use Rattle.ror_frame.specs.Stops.{Outcome, last}
use Rattle.ror_entries.specs.Reports.{AreProvedEntries, IsProvedEntries, IsAcceptedEntries, IsRejectedEntries}
use Rattle.ror_entries.specs.Writing.{IsWholeText, IsBegunText}
use Rattle.ror_entries.specs.Headed.{WritesHeaded}
use Rattle.ror_entries.specs.declared.write.EntriesStop.{EntriesStop}
use Rattle.ror_entries.specs.declared.write.EntriesStop.TheVariants as entry_stops
use Rattle.ror_words.specs.Words.{InputNames}
use Rattle.ror_frame.specs.declared.stop.Refusal.{Refusal}
use Rattle.ror_frame.specs.declared.stop.Refusal.TheVariants as refusals
use Rattle.ror_frame.specs.Courses.{Output, Chore, ReadAs}
use Rattle.ror_frame.specs.Inputs.{bench_for, accepted_output, suited_writing_chore, suited_judging_chore}
use Rattle.ror_work_group.specs.Entries.{group_kind, IsGivenEntry}

-- The bytes begin with the head of the session's desks, there are the closing lists of these, and this is so of the lists and of what
-- stands behind the head.
pub record OverClosing (i : Input) (s : Session) (bytes : List ℕ) (P : List (List Statement) → List ℕ → Type 0) : Type 0 where
  pub after : Cursor
  pub head : IsHeadText s.desks bytes after
  pub lists : List (List Statement)
  pub closing : AreClosingLists (bench_for i s) s.lines lists
  pub body : P lists after.rest

-- the bytes, of which there are at most 268,435,456, are the head and proved entries but for what is too wide: so many answers have a
-- proof, and so many are too wide
abbrev pub ProvesGroup : Input → Session → List ℕ → Accepted → Type 0
ProvesGroup i s bytes accepted = (length bytes ≤ MOST_REPORT_BYTES)
    × OverClosing i s bytes (λ lists body. IsProvedEntries (group_kind i.table lists) body accepted)

-- the same of these entries
abbrev pub KeepsGroup : Input → Session → List ℕ → List Entry → Type 0
KeepsGroup i s bytes entries = (length bytes ≤ MOST_REPORT_BYTES)
    × OverClosing i s bytes (λ lists body. AreProvedEntries (group_kind i.table lists) body entries)

-- the same, and each answer that isn't too wide is true of all value functions that are compatible with its desk's list, and each
-- word that isn't is the group's answer
abbrev pub IsAcceptedGroup : Input → Session → List ℕ → Accepted → Type 0
IsAcceptedGroup i s bytes accepted =
    OverClosing i s bytes (λ lists body. IsAcceptedEntries (group_kind i.table lists) body accepted)

-- The bytes are the report of the group: an entry for each pair of the table, with answers that may be given where no number
-- passes most. It is accepted, with so many answers that have a proof and so many that are too wide.
abbrev pub IsGroupReport : ℕ → Input → Session → List ℕ → Accepted → Type 0
IsGroupReport most i s bytes accepted = OverClosing i s bytes (λ lists body. (entries : List Entry)
    × IsWholeText (group_kind i.table lists) (IsGivenEntry most i.table lists) body entries
    × IsAcceptedEntries (group_kind i.table lists) body accepted)

-- the bytes are how such a report begins: its head and the entries of the first pairs, or all of it
abbrev pub IsBegunGroup : ℕ → Input → Session → List ℕ → Type 0
IsBegunGroup most i s bytes = OverClosing i s bytes (λ lists body.
    IsBegunText (group_kind i.table lists) (IsGivenEntry most i.table lists) body)

-- ---- for what bytes are rejected

-- a fault of the head as a reason; a wrong number or name, and a desk that is missing or too many, are those of a wrong block
abbrev pub head_reason : List ℕ → HeadFault → Reason
head_reason bytes (heads.Line fault) = misread_reason bytes fault
head_reason bytes heads.WrongBlock = reasons.WrongBlock

-- they are too many; no text; at fault in the head; or at fault first in an entry, counted from 1 as a block, or in the last line
pub data IsGroupRejection (i : Input) (s : Session) (bytes : List ℕ) (rejection : Rejection) : Type 0 where
  too_long : MOST_REPORT_BYTES < length bytes → rejection ≡ record { block = 0; reason = reasons.TooLong }
      → IsGroupRejection i s bytes rejection
  not_utf8 : length bytes ≤ MOST_REPORT_BYTES → ¬ (IsUtf8 bytes) → rejection ≡ record { block = 0; reason = reasons.NotUtf8 }
      → IsGroupRejection i s bytes rejection
  in_head : length bytes ≤ MOST_REPORT_BYTES → IsUtf8 bytes → (fault : HeadFault) → whole_head_at s.desks bytes ≡ Err fault
      → rejection ≡ record { block = 0; reason = head_reason bytes fault } → IsGroupRejection i s bytes rejection
  in_entries : length bytes ≤ MOST_REPORT_BYTES → IsUtf8 bytes → (after : Cursor) → whole_head_at s.desks bytes ≡ Ok after
      → (lists : List (List Statement)) → AreClosingLists (bench_for i s) s.lines lists
      → IsRejectedEntries (group_kind i.table lists) bytes after.place rejection → IsGroupRejection i s bytes rejection

-- as a step of the work
abbrev pub RefusesGroup : Input → Session → List ℕ → Refusal → Type 0
RefusesGroup i s bytes r = (rejection : Rejection) × (r ≡ refusals.Rejected rejection)
    × IsGroupRejection i s bytes rejection

-- ---- steps of a check

-- the bytes are a text, and behind the head of the session's desks the entries begin at this byte
pub record IsStart (s : Session) (bytes : List ℕ) (start : ℕ) : Type 0 where
  pub utf8 : IsUtf8 bytes
  pub head : whole_head_at s.desks bytes ≡ Ok (cursor_at bytes start)

-- the stop at what stands before the entries, over any table
abbrev pub StopsBefore : Session → List ℕ → Stop → Type 0
StopsBefore s bytes stop = (i : Input) → ReadAs {A = ℕ} last (λ read start. Unit {0}) (RefusesGroup i s) bytes (Err stop)

-- ---- the two commands

abbrev pub group_output : ℕ → Input → Session → Output
group_output most i s = record {
  tells = None;
  Whole = λ wide text. (accepted : Accepted) × IsGroupReport most i s text accepted × (wide ≡ nat_lt 0 accepted.wide);
  Begun = IsBegunGroup most i s;
  keeps_front = true;
}

abbrev pub group_chore : InputNames → Bits → Chore
group_chore names bits = suited_writing_chore IsFirstUnsuited names (group_output (most_of bits))

-- the line of a report that is accepted
abbrev pub proved_output : Input → Session → List ℕ → Accepted → Output
proved_output i s bytes accepted = accepted_output accepted (IsAcceptedGroup i s bytes accepted)

abbrev pub check_group_chore : InputNames → List ℕ → Chore
check_group_chore names report =
    suited_judging_chore IsFirstUnsuited names report ProvesGroup IsGroupRejection proved_output

-- ---- a step of the writing

-- what was written of a head and of the entries over these lists
abbrev WritesGroup : List ℕ → ℕ → DecisionTable → List (List Statement) → SinkState → SinkState → Result Bool EntriesStop → Type 0
WritesGroup head most t lists old new result =
    WritesHeaded head (group_kind t lists) (IsGivenEntry most t lists) old.faults new.faults old.written new.written result

-- the same of a stop of the work
abbrev pub WritesReport : List ℕ → ℕ → DecisionTable → List (List Statement) → SinkState → SinkState → Outcome → Type 0
WritesReport head most t lists old new (Ok wide) = WritesGroup head most t lists old new (Ok wide)
WritesReport head most t lists old new (Err stops.WriteFault) = WritesGroup head most t lists old new (Err entry_stops.Write)
WritesReport head most t lists old new (Err stops.Memory) = WritesGroup head most t lists old new (Err entry_stops.Memory)
WritesReport head most t lists old new (Err stop) = ⊥
