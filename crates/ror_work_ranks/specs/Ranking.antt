-- What a report of ranks is, and what a check of one accepts and rejects.
use Rattle.std.specs.Prelude.{◌≡◌, ℕ, ◌<◌, ◌≤◌, true, List, length, None, nat_lt}
use Rattle.ror_statement.specs.declared.statement.Statement.{Statement}
use Rattle.ror_value.specs.declared.input.Input.{Input}
use Rattle.ror_session.specs.declared.session.Session.{Session}
use Rattle.ror_pivot.specs.declared.note.Bits.{Bits}
use Rattle.ror_pivot.specs.Answers.{most_of}
use Rattle.ror_bench.specs.declared.report.Accepted.{Accepted}
use Rattle.ror_bench.specs.declared.report.Rejection.{Rejection}
use Rattle.ror_bench.specs.declared.report.Reason.TheVariants as reasons
use Rattle.ror_bench.specs.declared.report.TheConstants.{MOST_REPORT_BYTES}
use Rattle.ror_closing.specs.Closing.{AreClosingLists, IsFirstUnsuited}
use Rattle.ror_ranks_text.specs.declared.entry.Entry.{Entry}
use Rattle.ror_ranks_text.specs.Text.{header_text}
use Rattle.ror_entries.specs.Kind.{Kind}
use Rattle.ror_entries.specs.Headed.{BehindHead, IsProvedHeaded, IsAcceptedHeaded, IsRejectedHeaded}
use Rattle.ror_entries.specs.Reports.{IsAcceptedEntries}
use Rattle.ror_entries.specs.Writing.{IsWholeText, IsBegunText}
use Rattle.ror_words.specs.Words.{InputNames}
use Rattle.ror_frame.specs.declared.stop.Refusal.{Refusal}
use Rattle.ror_frame.specs.declared.stop.Refusal.TheVariants as refusals
use Rattle.ror_frame.specs.Courses.{Output, Chore}
use Rattle.ror_frame.specs.Inputs.{bench_for, accepted_output, suited_writing_chore, suited_judging_chore}
use Rattle.ror_work_ranks.specs.Entries.{ranks_kind, IsGivenEntry}

-- this holds of the closing lists of the session's desks
pub record OfClosing (i : Input) (s : Session) (P : List (List Statement) → Type 0) : Type 0 where
  pub lists : List (List Statement)
  pub closing : AreClosingLists (bench_for i s) s.lines lists
  pub holds : P lists

-- the entries of the session's desks over these lists
abbrev pub kind_over : Input → Session → List (List Statement) → Kind Entry
kind_over i s lists = ranks_kind i.table s.desks lists

-- the bytes, of which there are at most 268,435,456, are the first line and an entry for each desk, each proved but for what is too
-- wide: so many have a proof, and so many are too wide
abbrev pub ProvesRanks : Input → Session → List ℕ → Accepted → Type 0
ProvesRanks i s bytes accepted = (length bytes ≤ MOST_REPORT_BYTES)
    × OfClosing i s (λ lists. IsProvedHeaded header_text (kind_over i s lists) bytes accepted)

-- the same, and each entry that isn't too wide is true of all value functions that are compatible with the desk's closing list
abbrev pub IsAcceptedRanks : Input → Session → List ℕ → Accepted → Type 0
IsAcceptedRanks i s bytes accepted = OfClosing i s (λ lists. IsAcceptedHeaded header_text (kind_over i s lists) bytes accepted)

-- for what other bytes are rejected: they are too many; or for their first fault over the closing lists
pub data IsRanksRejection (i : Input) (s : Session) (bytes : List ℕ) (rejection : Rejection) : Type 0 where
  too_long : MOST_REPORT_BYTES < length bytes → rejection ≡ record { block = 0; reason = reasons.TooLong }
      → IsRanksRejection i s bytes rejection
  at_fault : length bytes ≤ MOST_REPORT_BYTES
      → OfClosing i s (λ lists. IsRejectedHeaded header_text (kind_over i s lists) bytes rejection)
      → IsRanksRejection i s bytes rejection

-- as a step of the work
abbrev pub RefusesRanks : Input → Session → List ℕ → Refusal → Type 0
RefusesRanks i s bytes r = (rejection : Rejection) × (r ≡ refusals.Rejected rejection) × IsRanksRejection i s bytes rejection

-- The bytes are the first line and an entry for each desk that may be given where no number passes most. They are accepted, with so
-- many entries that have a proof and so many that are too wide.
abbrev pub IsRanksReport : ℕ → Input → Session → List ℕ → Accepted → Type 0
IsRanksReport most i s bytes accepted = OfClosing i s (λ lists. BehindHead header_text bytes (λ body. (entries : List Entry)
    × IsWholeText (kind_over i s lists) (IsGivenEntry most i.table s.desks lists) body entries
    × IsAcceptedEntries (kind_over i s lists) body accepted))

-- the bytes are how such a report begins: its first line and the entries of the first desks, or all of it
abbrev pub IsBegunRanks : ℕ → Input → Session → List ℕ → Type 0
IsBegunRanks most i s bytes = OfClosing i s (λ lists. BehindHead header_text bytes (λ body.
    IsBegunText (kind_over i s lists) (IsGivenEntry most i.table s.desks lists) body))

-- ---- the two commands

abbrev pub ranks_output : ℕ → Input → Session → Output
ranks_output most i s = record {
  tells = None;
  Whole = λ wide text. (accepted : Accepted) × IsRanksReport most i s text accepted × (wide ≡ nat_lt 0 accepted.wide);
  Begun = IsBegunRanks most i s;
  keeps_front = true;
}

abbrev pub ranks_chore : InputNames → Bits → Chore
ranks_chore names bits = suited_writing_chore IsFirstUnsuited names (ranks_output (most_of bits))

-- the line of a report that is accepted
abbrev pub proved_output : Input → Session → List ℕ → Accepted → Output
proved_output i s bytes accepted = accepted_output accepted (IsAcceptedRanks i s bytes accepted)

abbrev pub check_ranks_chore : InputNames → List ℕ → Chore
check_ranks_chore names report =
    suited_judging_chore IsFirstUnsuited names report ProvesRanks IsRanksRejection proved_output
