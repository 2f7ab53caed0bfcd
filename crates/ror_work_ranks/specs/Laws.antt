-- Laws of a report of ranks: what is written is proved, and each entry concludes where no number is too wide.
use Rattle.std.specs.Prelude.{◌≡◌, ℕ, ◌≤◌, List, length}
use Rattle.std.specs.List.{AllByRecursion}
use Rattle.ror_statement.specs.declared.statement.Statement.{Statement}
use Rattle.ror_table.specs.Table.{DecisionTable, IsTable}
use Rattle.ror_value.specs.declared.input.Input.{Input}
use Rattle.ror_value.specs.Over.{IsLawfulIn}
use Rattle.ror_session.specs.declared.session.Session.{Session}
use Rattle.ror_session.specs.Sound.{IsSound}
use Rattle.ror_bench.specs.declared.report.Accepted.{Accepted}
use Rattle.ror_bench.specs.declared.report.Rejection.{Rejection}
use Rattle.ror_bench.specs.declared.report.TheConstants.{MOST_REPORT_BYTES}
use Rattle.ror_closing.specs.Closing.{AreSuited}
use Rattle.ror_ranks_text.specs.declared.entry.Entry.{Entry}
use Rattle.ror_ranks.specs.Laws.{IsNarrowList}
use Rattle.ror_ranks_text.specs.Text.{header_text}
use Rattle.ror_entries.specs.Headed.{BehindHead}
use Rattle.ror_entries.specs.Reports.{EachAt, entries_text}
use Rattle.ror_work_ranks.specs.Entries.{body_passed, IsTrueEntry}
use Rattle.ror_work_ranks.specs.Ranking.{OfClosing, kind_over, ProvesRanks, IsRanksRejection, IsRanksReport}

-- a table and a session of suited lines, as they are read
pub record AreRead (i : Input) (s : Session) : Type 0 where
  pub table : IsTable i.table
  pub lawful : IsLawfulIn i.table i.opening
  pub sound : IsSound s
  pub suited : AreSuited s.lines

-- a report of ranks, of at most 268,435,456 bytes, is one that a check accepts, with the same counts
abbrev pub WrittenAreProved : Type 0
WrittenAreProved = (most : ℕ) (i : Input) (s : Session) (bytes : List ℕ) (accepted : Accepted)
    → length bytes ≤ MOST_REPORT_BYTES → IsRanksReport most i s bytes accepted → ProvesRanks i s bytes accepted

-- and it is rejected for nothing
abbrev pub WrittenAreNotRejected : Type 0
WrittenAreNotRejected = (most : ℕ) (i : Input) (s : Session) (bytes : List ℕ) (accepted : Accepted) (rejection : Rejection)
    → AreRead i s → length bytes ≤ MOST_REPORT_BYTES
    → IsRanksReport most i s bytes accepted → IsRanksRejection i s bytes rejection → ⊥

-- nothing of the entry is too wide, and it is true: each alternative has its best and its worst rank, or lies between two where a tree was
-- cut short; or the list is contradictory
abbrev pub Concludes : DecisionTable → List (List ℕ) → List (List Statement) → ℕ → Entry → Type 0
Concludes t names lists place x = ((body_passed x.body).wide ≡ 0) × IsTrueEntry t names lists place x

-- the bytes are the first line and entries for all desks, each of which concludes
abbrev pub AllConclude : Input → Session → List ℕ → Type 0
AllConclude i s bytes = OfClosing i s (λ lists. BehindHead header_text bytes (λ body. (entries : List Entry)
    × (body ≡ entries_text (kind_over i s lists) entries)
    × (length entries ≡ length s.desks)
    × EachAt (Concludes i.table s.desks lists) 0 entries))

-- where the closing list of each desk is narrow, nothing of a report that is written is too wide: each entry concludes
abbrev pub NothingIsTooWide : Type 0
NothingIsTooWide = (most : ℕ) (i : Input) (s : Session) (bytes : List ℕ) (accepted : Accepted)
    → AreRead i s → OfClosing i s (AllByRecursion (IsNarrowList most i.table))
    → IsRanksReport most i s bytes accepted
    → (accepted.wide ≡ 0) × AllConclude i s bytes
