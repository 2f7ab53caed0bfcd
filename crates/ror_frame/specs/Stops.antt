-- Where the work of a command stops, and the status that a run ends with there.
use Rattle.std.specs.Prelude.{◌≡◌, ◌≢◌, ℕ, Bool, true, false, Option, Some, None, Result, Ok, Err}
use Rattle.ror_io.specs.declared.shelf.ShelfFault.{ShelfFault}
use Rattle.ror_io.specs.declared.shelf.ShelfFault.TheVariants as shelf_faults
use Rattle.ror_table.specs.declared.fault.TableError.{TableError}
use Rattle.ror_table.specs.declared.fault.TableError.TheVariants as table_errors
use Rattle.ror_session.specs.declared.session.SessionFault.{SessionFault}
use Rattle.ror_session.specs.declared.session.SessionFault.TheVariants as session_faults
use Rattle.ror_confidence.specs.declared.fault.LevelsFault.{LevelsFault}
use Rattle.ror_confidence.specs.declared.fault.LevelsFault.TheVariants as levels_faults
use Rattle.ror_bench.specs.declared.report.ReportError.{ReportError}
use Rattle.ror_bench.specs.declared.report.ReportError.TheVariants as report_errors
use Rattle.ror_bench.specs.declared.report.Reason.TheVariants as reasons
use Rattle.ror_bench.specs.Reports.{IsFreeOfMemory}
use Rattle.ror_frame.specs.declared.status.Status.{Status}
use Rattle.ror_frame.specs.declared.status.Status.TheVariants as statuses
use Rattle.ror_frame.specs.declared.stop.Refusal.{Refusal}
use Rattle.ror_frame.specs.declared.stop.Refusal.TheVariants as refusals
use Rattle.ror_frame.specs.declared.stop.Stop.{Stop}
use Rattle.ror_frame.specs.declared.stop.Stop.TheVariants as stops

-- the stop that a fault of the shelf leads to, and those of the readers
abbrev pub stop_at_shelf : ShelfFault → Stop
stop_at_shelf shelf_faults.Failed = stops.ReadFault
stop_at_shelf shelf_faults.Memory = stops.Memory

abbrev pub stop_at_table : TableError → Stop
stop_at_table (table_errors.Bad fault) = stops.At (refusals.BadTable fault)
stop_at_table table_errors.Memory = stops.Memory

abbrev pub stop_at_session : SessionFault → Stop
stop_at_session session_faults.Memory = stops.Memory
stop_at_session fault = stops.At (refusals.BadSession fault)

abbrev pub stop_at_levels : LevelsFault → Stop
stop_at_levels levels_faults.Memory = stops.Memory
stop_at_levels fault = stops.At (refusals.BadLevels fault)

abbrev pub stop_at_report : ReportError → Stop
stop_at_report (report_errors.Rejected rejection) = stops.At (refusals.Rejected rejection)
stop_at_report report_errors.Memory = stops.Memory

-- ---- refusals

-- Where a file stands in the order in which a command fetches its files: at this place, from 1, or last.
pub data FilePlace : Type 0 where
  counted : ℕ → FilePlace
  last : FilePlace

-- the place n of all so many is this one
abbrev pub IsPlace : FilePlace → ℕ → ℕ → Type 0
IsPlace (counted k) n all = n ≡ k
IsPlace last n all = n ≡ all

-- Where the file stands whose bytes are refused: a report is the last, behind the certificates, which are judged by it, and an unsuited line is one of the session
abbrev pub place_of : Refusal → FilePlace
place_of (refusals.BadTable fault) = counted 1
place_of (refusals.BadSession fault) = counted 2
place_of (refusals.Rejected rejection) = last
place_of (refusals.Uncertified rejection) = last
place_of (refusals.Unsuited line) = counted 2
place_of (refusals.BadLevels fault) = counted 3

-- want of memory is a stop of its own, and no refusal holds it
abbrev pub HidesNone : Refusal → Type 0
HidesNone (refusals.BadSession fault) = fault ≢ session_faults.Memory
HidesNone (refusals.Rejected rejection) = IsFreeOfMemory rejection.reason
HidesNone (refusals.Uncertified rejection) = IsFreeOfMemory rejection.reason
HidesNone (refusals.BadLevels fault) = fault ≢ levels_faults.Memory
HidesNone _ = Unit {0}

-- the refusal of a report of too many bytes
abbrev pub too_long_report : Refusal
too_long_report = refusals.Rejected (record { block = 0; reason = reasons.TooLong })

abbrev pub refused_status : Refusal → Status
refused_status (refusals.BadTable fault) = statuses.BadTable fault
refused_status (refusals.BadSession fault) = statuses.BadSession fault
refused_status (refusals.Rejected rejection) = statuses.Rejected rejection
refused_status (refusals.Uncertified rejection) = statuses.Uncertified rejection
refused_status (refusals.Unsuited line) = statuses.Unsuited line
refused_status (refusals.BadLevels fault) = statuses.BadLevels fault

-- ---- outcomes

-- what comes of the work of a command: it was done, and this is whether anything is too wide; or it stopped
abbrev pub Outcome : Type 0
Outcome = Result Bool Stop

-- the status after it
abbrev pub status_at : Stop → Status
status_at (stops.At refusal) = refused_status refusal
status_at stops.ReadFault = statuses.ReadFault
status_at stops.WriteFault = statuses.WriteFault
status_at stops.Memory = statuses.Memory

abbrev pub status_after : Outcome → Status
status_after (Ok true) = statuses.DoneWide
status_after (Ok false) = statuses.Done
status_after (Err stop) = status_at stop

-- and the outcome that a status tells, which is none where no work was asked for
abbrev pub outcome_of : Status → Option Outcome
outcome_of statuses.Done = Some (Ok false)
outcome_of statuses.Usage = None
outcome_of (statuses.BadTable fault) = Some (Err (stops.At (refusals.BadTable fault)))
outcome_of (statuses.BadSession fault) = Some (Err (stops.At (refusals.BadSession fault)))
outcome_of (statuses.Rejected rejection) = Some (Err (stops.At (refusals.Rejected rejection)))
outcome_of (statuses.Uncertified rejection) = Some (Err (stops.At (refusals.Uncertified rejection)))
outcome_of statuses.ReadFault = Some (Err stops.ReadFault)
outcome_of statuses.WriteFault = Some (Err stops.WriteFault)
outcome_of statuses.Memory = Some (Err stops.Memory)
outcome_of statuses.DoneWide = Some (Ok true)
outcome_of (statuses.Unsuited line) = Some (Err (stops.At (refusals.Unsuited line)))
outcome_of (statuses.BadLevels fault) = Some (Err (stops.At (refusals.BadLevels fault)))
