-- Laws of a report of spans: what is written is proved, bytes are rejected for one thing, and nothing is too wide where no number is.
use Rattle.std.specs.Prelude.{◌≡◌, ℕ, ◌≤◌, List, length}
use Rattle.ror_statement.specs.declared.statement.Statement.{Statement}
use Rattle.ror_table.specs.Table.{DecisionTable, IsTable}
use Rattle.ror_value.specs.declared.input.Input.{Input}
use Rattle.ror_value.specs.Over.{IsLawfulIn}
use Rattle.ror_session.specs.declared.session.Line.{Line}
use Rattle.ror_session.specs.declared.session.Session.{Session}
use Rattle.ror_session.specs.Sound.{IsSound}
use Rattle.ror_bench.specs.declared.report.Accepted.{Accepted}
use Rattle.ror_bench.specs.declared.report.Rejection.{Rejection}
use Rattle.ror_bench.specs.declared.report.TheConstants.{MOST_REPORT_BYTES}
use Rattle.ror_confidence.specs.declared.levels.Levels.{Levels}
use Rattle.ror_confidence.specs.Finding.{HasNoWideQuestions}
use Rattle.ror_entries.specs.Kind.{HasOneReason}
use Rattle.ror_work_levels.specs.Entries.{span_kind}
use Rattle.ror_work_levels.specs.Suiting.{AreFit, IsFirstUnfit}
use Rattle.ror_work_levels.specs.Levels.{OfLevels, ProvesSpans, IsSpansRejection, IsSpansReport}

-- a table and a session of one desk that doesn't repair, as they are read
pub record AreRead (i : Input) (s : Session) : Type 0 where
  pub table : IsTable i.table
  pub lawful : IsLawfulIn i.table i.opening
  pub sound : IsSound s
  pub fit : AreFit s.lines

-- a report of spans, of at most 268,435,456 bytes, is one that a check accepts, with the same counts
abbrev pub WrittenAreProved : Type 0
WrittenAreProved = (most : ℕ) (i : Input) (s : Session) (levels : Levels) (bytes : List ℕ) (accepted : Accepted)
    → length bytes ≤ MOST_REPORT_BYTES → IsSpansReport most i s levels bytes accepted → ProvesSpans i s levels bytes accepted

-- and it is rejected for nothing
abbrev pub WrittenAreNotRejected : Type 0
WrittenAreNotRejected = (most : ℕ) (i : Input) (s : Session) (levels : Levels) (bytes : List ℕ) (accepted : Accepted) (rejection : Rejection)
    → AreRead i s → length bytes ≤ MOST_REPORT_BYTES
    → IsSpansReport most i s levels bytes accepted → IsSpansRejection i s levels bytes rejection → ⊥

-- where no question on a span has a number that passes most, at any level, nothing of a report is too wide
abbrev pub NothingIsTooWide : Type 0
NothingIsTooWide = (most : ℕ) (i : Input) (s : Session) (levels : Levels) (bytes : List ℕ) (accepted : Accepted)
    → AreRead i s → OfLevels i s levels (λ lists. (a b : ℕ) → HasNoWideQuestions most i.table lists a b)
    → IsSpansReport most i s levels bytes accepted → accepted.wide ≡ 0

-- an entry is refused at a place for one reason at most
abbrev pub EntriesHaveOneReason : Type 0
EntriesHaveOneReason = (t : DecisionTable) (lists : List (List Statement)) → HasOneReason (span_kind t lists)

-- and bytes are rejected for one thing
abbrev pub BytesHaveOneRejection : Type 0
BytesHaveOneRejection = (i : Input) (s : Session) (levels : Levels) (bytes : List ℕ) (one other : Rejection)
    → AreRead i s → IsSpansRejection i s levels bytes one → IsSpansRejection i s levels bytes other → one ≡ other

-- lines have at most one first number of an unfit one, and with one they are not fit; lines that have none are fit
pub record OneFirstUnfit : Type 0 where
  pub one : (lines : List Line) (m n : ℕ) → IsFirstUnfit lines m → IsFirstUnfit lines n → m ≡ n
  pub not_fit : (lines : List Line) (n : ℕ) → IsFirstUnfit lines n → AreFit lines → ⊥
  pub fit_or : (lines : List Line) → ((n : ℕ) → IsFirstUnfit lines n → ⊥) → AreFit lines
