-- Laws of a report of most discriminating functions: what is written is proved, and each entry concludes where no number is too wide.
use Rattle.std.specs.Prelude.{◌≡◌, ℕ, ◌≤◌, false, List, length}
use Rattle.std.specs.List.{AllByRecursion}
use Rattle.ror_statement.specs.declared.statement.Statement.{Statement}
use Rattle.ror_table.specs.Table.{DecisionTable, IsTable}
use Rattle.ror_value.specs.declared.input.Input.{Input}
use Rattle.ror_value.specs.Meaning.{IsConsistent}
use Rattle.ror_value.specs.Over.{IsLawfulIn}
use Rattle.ror_check.specs.Proof.{base_system}
use Rattle.ror_session.specs.declared.session.Session.{Session}
use Rattle.ror_session.specs.Sound.{IsSound}
use Rattle.ror_bench.specs.declared.report.Accepted.{Accepted}
use Rattle.ror_bench.specs.declared.report.Rejection.{Rejection}
use Rattle.ror_bench.specs.declared.report.TheConstants.{MOST_REPORT_BYTES}
use Rattle.ror_closing.specs.Closing.{AreSuited}
use Rattle.ror_discriminate.specs.declared.entry.Entry.{Entry}
use Rattle.ror_discriminate.specs.Discriminating.{HasNoWideNote, HasNoClimbNote}
use Rattle.ror_discriminate.specs.Head.{header_text}
use Rattle.ror_entries.specs.Headed.{BehindHead}
use Rattle.ror_entries.specs.Reports.{EachAt, entries_text}
use Rattle.ror_work_discriminate.specs.Entries.{is_wide_body, IsTrueEntry}
use Rattle.ror_work_discriminate.specs.Discriminate.{OfClosing, kind_over, ProvesBest, IsBestRejection, IsBestReport}

-- a table and a session of suited lines, as they are read
pub record AreRead (i : Input) (s : Session) : Type 0 where
  pub table : IsTable i.table
  pub lawful : IsLawfulIn i.table i.opening
  pub sound : IsSound s
  pub suited : AreSuited s.lines

-- a report of most discriminating functions, of at most 268,435,456 bytes, is one that a check accepts, with the same counts
abbrev pub WrittenAreProved : Type 0
WrittenAreProved = (most : ℕ) (i : Input) (s : Session) (bytes : List ℕ) (accepted : Accepted)
    → length bytes ≤ MOST_REPORT_BYTES → IsBestReport most i s bytes accepted → ProvesBest i s bytes accepted

-- and it is rejected for nothing
abbrev pub WrittenAreNotRejected : Type 0
WrittenAreNotRejected = (most : ℕ) (i : Input) (s : Session) (bytes : List ℕ) (accepted : Accepted) (rejection : Rejection)
    → AreRead i s → length bytes ≤ MOST_REPORT_BYTES
    → IsBestReport most i s bytes accepted → IsBestRejection i s bytes rejection → ⊥

-- no number on the path that decides the list's system passes most; and where the list is consistent, none on its climbing path
pub record IsNarrowList (most : ℕ) (t : DecisionTable) (list : List Statement) : Type 0 where
  pub base : HasNoWideNote most (base_system t list)
  pub climb : IsConsistent t list → HasNoClimbNote most t (base_system t list)

-- the entry isn't too wide, and is true: it has a most discriminating function with its margin, or says that the list says nothing
-- strictly or is contradictory
abbrev pub Concludes : DecisionTable → List (List ℕ) → List (List Statement) → ℕ → Entry → Type 0
Concludes t names lists place x = (is_wide_body x.body ≡ false) × IsTrueEntry t names lists place x

-- the bytes are the first line and entries for all desks, each of which concludes
abbrev pub AllConclude : Input → Session → List ℕ → Type 0
AllConclude i s bytes = OfClosing i s (λ lists. BehindHead header_text bytes (λ body. (entries : List Entry)
    × (body ≡ entries_text (kind_over i s lists) entries)
    × (length entries ≡ length s.desks)
    × EachAt (Concludes i.table s.desks lists) 0 entries))

-- where the closing list of each desk is narrow, nothing of a report that is written is too wide: each entry concludes
abbrev pub NothingIsTooWide : Type 0
NothingIsTooWide = (most : ℕ) (i : Input) (s : Session) (bytes : List ℕ) (accepted : Accepted)
    → AreRead i s → OfClosing i s (AllByRecursion (IsNarrowList most i.table))
    → IsBestReport most i s bytes accepted
    → (accepted ≡ record { answers = length s.desks; wide = 0 }) × AllConclude i s bytes
