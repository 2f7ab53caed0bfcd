-- What a maker and a judge of the entries go by, and what is read of the levels over what stands.
use Rattle.std.specs.Prelude.{◌≡◌, ℕ, ◌<◌, ◌≤◌, ◌^◌, ◌⊎◌, List, length, Ok, Err}
use Rattle.ror_statement.specs.declared.statement.Numbered.{Numbered}
use Rattle.ror_statement.specs.declared.statement.Statement.{Statement}
use Rattle.ror_table.specs.Table.{DecisionTable, IsTable}
use Rattle.ror_bench.specs.declared.report.Accepted.{Accepted}
use Rattle.ror_bench.specs.declared.report.Rejection.{Rejection}
use Rattle.ror_bench.specs.declared.report.Reason.TheVariants as reasons
use Rattle.ror_bench.specs.declared.report.TheConstants.{MOST_REPORT_BYTES}
use Rattle.ror_confidence.specs.declared.check.SpanChecker.{SpanChecker}
use Rattle.ror_confidence.specs.declared.fault.LevelsFault.{LevelsFault}
use Rattle.ror_confidence.specs.declared.fault.SpanCheckFault.{SpanCheckFault}
use Rattle.ror_confidence.specs.declared.fault.SpanCheckFault.TheVariants as faults
use Rattle.ror_confidence.specs.declared.levels.Levels.{Levels}
use Rattle.ror_confidence.specs.declared.search.LevelSearch.{LevelSearch}
use Rattle.ror_confidence.specs.Reading.{levels_of}
use Rattle.ror_confidence.specs.Searching.{IsSearchOf}
use Rattle.ror_confidence.specs.Spans.{AreLevelLists}
use Rattle.ror_confidence.specs.Steps.{AreCheckers, lists_of}
use Rattle.ror_entries.specs.declared.check.EntryFault.{EntryFault}
use Rattle.ror_entries.specs.declared.check.EntryFault.TheVariants as entries
use Rattle.ror_entries.specs.declared.write.EntriesStop.TheVariants as entry_stops
use Rattle.ror_entries.specs.Pairs.{pairs_of}
use Rattle.ror_entries.specs.Headed.{IsProvedHeaded, IsRejectedHeaded, WritesHeaded}
use Rattle.ror_spans.specs.declared.entry.Entry.{Entry}
use Rattle.ror_spans.specs.Text.{header_text}
use Rattle.ror_spans.specs.Printing.{HasAlternatives, HasValidQuestions, HasNarrowAnswers}
use Rattle.ror_frame.specs.declared.stop.Refusal.{Refusal}
use Rattle.ror_frame.specs.declared.stop.Refusal.TheVariants as refusals
use Rattle.ror_frame.specs.declared.stop.Stop.TheVariants as stops
use Rattle.ror_frame.specs.States.{SinkState}
use Rattle.ror_frame.specs.Stops.{Outcome}
use Rattle.ror_work_levels.specs.Entries.{reason_of, span_kind, IsGivenEntry}

-- a table, the lists of the levels, and what no number passes
pub record SpanMaking : Type 0 where
  pub table : DecisionTable
  pub lists : List (List Statement)
  pub most : ℕ

-- a table, the lists of the levels, and the bytes of a report
pub record SpanJudging : Type 0 where
  pub table : DecisionTable
  pub lists : List (List Statement)
  pub report : List ℕ

-- the pairs are those of the table, and the search is one over it
pub record IsMaking (t : DecisionTable) (pairs : List (ℕ × ℕ)) (search : LevelSearch) (most : ℕ) : Type 0 where
  pub table : IsTable t
  pub pairs_are : pairs ≡ pairs_of t
  pub search_is : IsSearchOf most t search

-- the checker is one over the table, of so many levels
pub record IsCheckerIn (t : DecisionTable) (checker : SpanChecker) (levels : ℕ) : Type 0 where
  pub checkers : AreCheckers t checker.levels.items
  pub nested : AreLevelLists t (lists_of checker.levels.items)
  pub few : length checker.levels.items < 2 ^ 16
  pub counted : levels ≡ length (lists_of checker.levels.items)

-- the pairs are those of the table, and the checker is one over it
pub record IsJudging (t : DecisionTable) (pairs : List (ℕ × ℕ)) (checker : SpanChecker) (levels : ℕ) : Type 0 where
  pub table : IsTable t
  pub pairs_are : pairs ≡ pairs_of t
  pub checker_is : IsCheckerIn t checker levels

-- an entry can be printed: its alternatives are of the table, its answers to valid questions, and their numbers those of reports
pub record IsWritable (t : DecisionTable) (x : Entry) : Type 0 where
  pub alternatives : HasAlternatives t x
  pub valid : HasValidQuestions t x
  pub narrow : HasNarrowAnswers x

-- the fault of an entry of which this is refused; want of memory is an answer of its own
abbrev pub refused_entry : SpanCheckFault → EntryFault
refused_entry faults.Memory = entries.Memory
refused_entry fault = entries.Refused (reason_of fault)

-- the bytes are read as levels of these statements; are refused for their first fault
abbrev pub ReadsOver : List Numbered → List ℕ → Levels → Type 0
ReadsOver standing bytes levels = levels_of standing bytes ≡ Ok levels

abbrev pub RefusesOver : List Numbered → List ℕ → Refusal → Type 0
RefusesOver standing bytes r = (fault : LevelsFault) × (r ≡ refusals.BadLevels fault) × (levels_of standing bytes ≡ Err fault)

-- ---- a report over the lists of the levels

-- the bytes, of which there are at most 268,435,456, are the first line and proved entries but for what is too wide
abbrev pub ProvesOver : DecisionTable → List (List Statement) → List ℕ → Accepted → Type 0
ProvesOver t lists bytes accepted = (length bytes ≤ MOST_REPORT_BYTES) × IsProvedHeaded header_text (span_kind t lists) bytes accepted

-- they are too many; or are rejected for their first fault
abbrev pub RejectsOver : DecisionTable → List (List Statement) → List ℕ → Refusal → Type 0
RejectsOver t lists bytes r = (rejection : Rejection) × (r ≡ refusals.Rejected rejection)
    × (((MOST_REPORT_BYTES < length bytes) × (rejection ≡ record { block = 0; reason = reasons.TooLong }))
    ⊎ ((length bytes ≤ MOST_REPORT_BYTES) × IsRejectedHeaded header_text (span_kind t lists) bytes rejection))

-- what was written of the first line and entries, or nothing where memory ran out before
abbrev pub WritesOver : ℕ → DecisionTable → List (List Statement) → SinkState → SinkState → Outcome → Type 0
WritesOver most t lists old new (Ok wide) =
    WritesHeaded header_text (span_kind t lists) (IsGivenEntry most t lists) old.faults new.faults old.written new.written (Ok wide)
WritesOver most t lists old new (Err stops.WriteFault) =
    WritesHeaded header_text (span_kind t lists) (IsGivenEntry most t lists) old.faults new.faults old.written new.written (Err entry_stops.Write)
WritesOver most t lists old new (Err stops.Memory) = (new ≡ old)
    ⊎ WritesHeaded header_text (span_kind t lists) (IsGivenEntry most t lists) old.faults new.faults old.written new.written (Err entry_stops.Memory)
WritesOver most t lists old new (Err stop) = ⊥
