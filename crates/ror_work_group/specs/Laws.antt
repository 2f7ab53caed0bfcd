-- Laws of a group's report: what is written of it is proved, nothing of it is too wide where no number is, and no word is wide then.
use Rattle.std.specs.Prelude.{◌≡◌, ℕ, ◌≤◌, List, length}
use Rattle.std.specs.List.{AllByRecursion}
use Rattle.ror_statement.specs.declared.statement.Statement.{Statement}
use Rattle.ror_table.specs.Table.{DecisionTable, IsTable}
use Rattle.ror_value.specs.declared.input.Input.{Input}
use Rattle.ror_value.specs.Over.{IsLawfulIn}
use Rattle.ror_session.specs.declared.session.Session.{Session}
use Rattle.ror_bench.specs.declared.report.Accepted.{Accepted}
use Rattle.ror_bench.specs.declared.report.Rejection.{Rejection}
use Rattle.ror_bench.specs.declared.report.TheConstants.{MOST_REPORT_BYTES}
use Rattle.ror_bench.specs.Desks.{IsNarrowQuestion}
use Rattle.ror_closing.specs.Closing.{AreClosingLists, AreSuited}
use Rattle.ror_group.specs.declared.entry.Entry.{Entry}
use Rattle.ror_group.specs.Combining.{asked_on}
use Rattle.ror_group.specs.Laws.{HasNoWideWord}
use Rattle.ror_entries.specs.Reports.{entries_text}
use Rattle.ror_frame.specs.Inputs.{bench_for}
use Rattle.ror_work_group.specs.Entries.{group_kind}
use Rattle.ror_entries.specs.Pairs.{pairs_of}
use Rattle.ror_work_group.specs.Group.{OverClosing, ProvesGroup, IsGroupReport, IsGroupRejection}

-- a report of the group, of at most 268,435,456 bytes, is one that a check accepts, with the same counts
abbrev pub WrittenAreProved : Type 0
WrittenAreProved = (most : ℕ) (i : Input) (s : Session) (bytes : List ℕ) (accepted : Accepted)
    → length bytes ≤ MOST_REPORT_BYTES → IsGroupReport most i s bytes accepted → ProvesGroup i s bytes accepted

-- and over a lawful input and suited lines it is rejected for nothing
abbrev pub WrittenAreNotRejected : Type 0
WrittenAreNotRejected = (most : ℕ) (i : Input) (s : Session) (bytes : List ℕ) (accepted : Accepted) (rejection : Rejection)
    → IsTable i.table → IsLawfulIn i.table i.opening → AreSuited s.lines → length bytes ≤ MOST_REPORT_BYTES
    → IsGroupReport most i s bytes accepted → IsGroupRejection i s bytes rejection → ⊥

-- the bytes are a head and the text of entries of which no word is wide
abbrev pub SaysNothingWide : Input → Session → List ℕ → Type 0
SaysNothingWide i s bytes = OverClosing i s bytes (λ lists body. (entries : List Entry)
    × (body ≡ entries_text (group_kind i.table lists) entries)
    × AllByRecursion (λ x. HasNoWideWord x.quartet) entries)

-- where no answer of a group's report is too wide, no word of it is wide
abbrev pub DoneSaysNothingWide : Type 0
DoneSaysNothingWide = (most : ℕ) (i : Input) (s : Session) (bytes : List ℕ) (accepted : Accepted)
    → IsGroupReport most i s bytes accepted → accepted.wide ≡ 0 → SaysNothingWide i s bytes

-- nor of one that a check accepts
abbrev pub AcceptedSaysNothingWide : Type 0
AcceptedSaysNothingWide = (i : Input) (s : Session) (bytes : List ℕ) (accepted : Accepted)
    → ProvesGroup i s bytes accepted → accepted.wide ≡ 0 → SaysNothingWide i s bytes

-- no number on the path of a system for what is asked of a judge on the pair passes most
abbrev pub AsksNothingWideOn : ℕ → DecisionTable → List (List Statement) → ℕ × ℕ → Type 0
AsksNothingWideOn most t lists pair =
    AllByRecursion (λ asked. IsNarrowQuestion most t asked.list asked.question) (asked_on pair.0 pair.1 lists)

-- nor for what is asked on any pair of the table
abbrev pub AsksNothingWide : ℕ → DecisionTable → List (List Statement) → Type 0
AsksNothingWide most t lists = AllByRecursion (AsksNothingWideOn most t lists) (pairs_of t)

-- where that holds of the closing lists of the judges, no answer of a group's report is too wide, and so no word of it is wide
abbrev pub NothingIsTooWide : Type 0
NothingIsTooWide = (most : ℕ) (i : Input) (s : Session) (lists : List (List Statement)) (bytes : List ℕ) (accepted : Accepted)
    → IsTable i.table → IsLawfulIn i.table i.opening → AreSuited s.lines
    → AreClosingLists (bench_for i s) s.lines lists → AsksNothingWide most i.table lists
    → IsGroupReport most i s bytes accepted → (accepted.wide ≡ 0) × SaysNothingWide i s bytes
