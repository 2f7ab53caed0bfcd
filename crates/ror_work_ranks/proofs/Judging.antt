-- What a check of a report comes to, by its steps.
use Rattle.std.proofs.Common.{◌≡◌, ℕ, ◌≤◌, List, length, Err, refl}
use Rattle.std.specs.Prelude.{slice_get, Some}
use Rattle.ror_statement.specs.declared.statement.Statement.{Statement}
use Rattle.ror_table.specs.Table.{DecisionTable, IsTable}
use Rattle.ror_value.specs.declared.input.Input.{Input}
use Rattle.ror_value.specs.Over.{IsLawfulIn}
use Rattle.ror_session.specs.declared.session.Session.{Session}
use Rattle.ror_session.specs.Sound.{IsSound}
use Rattle.ror_bench.specs.declared.report.Accepted.{Accepted}
use Rattle.ror_bench.specs.declared.report.Reason.TheVariants as reasons
use Rattle.ror_bench.specs.declared.report.ReportError.{ReportError}
use Rattle.ror_bench.specs.declared.report.ReportError.TheVariants as report_errors
use Rattle.ror_bench.specs.declared.report.TheConstants.{MOST_REPORT_BYTES}
use Rattle.ror_bench.specs.Reports.{IfRejected, HoldsNoMemory}
use Rattle.ror_closing.specs.Closing.{AreClosingLists}
use Rattle.ror_ranks_text.specs.declared.entry.Entry.{Entry}
use Rattle.ror_ranks_text.specs.Text.{header_text}
use Rattle.ror_entries.specs.declared.check.EntryFault.{EntryFault}
use Rattle.ror_entries.specs.declared.check.EntryFault.TheVariants as entry_faults
use Rattle.ror_entries.specs.Steps.{IfRefused}
use Rattle.ror_entries.specs.Headed.{IsAcceptedHeaded, IsRejectedHeaded}
use Rattle.ror_entries.proofs.HeadedLemmas.{headed_is_accepted}
use Rattle.ror_frame.specs.declared.stop.Refusal.{Refusal}
use Rattle.ror_frame.specs.declared.stop.Refusal.TheVariants as refusals
use Rattle.ror_frame.specs.Stops.{last, stop_at_report}
use Rattle.ror_frame.specs.Courses.{IsTooLong, ReadAs}
use Rattle.ror_frame.specs.Inputs.{bench_for}
use Rattle.ror_work_ranks.specs.Entries.{RefusesBody, RefusesEntry, at_fault}
use Rattle.ror_work_ranks.specs.Ranking as commands
use Rattle.ror_work_ranks.specs.Ranking.{kind_over, ProvesRanks, IsAcceptedRanks, RefusesRanks}
use Rattle.ror_work_ranks.proofs.Courses.{kind_of_lists}

-- ---- an entry

pub refused_on : (t : DecisionTable) (names : List (List ℕ)) (lists : List (List Statement)) (place : ℕ) (x : Entry) (list : List Statement) (e : EntryFault) → slice_get names place ≡ Some x.desk → slice_get lists place ≡ Some list → IfRefused (RefusesBody t list x.body) e → IfRefused (RefusesEntry t names lists place x) e
refused_on t names lists place x list (entry_faults.Refused reason) name there h = at_fault (record { list = list; name_there = name; list_there = there; holds = h })
refused_on t names lists place x list entry_faults.Memory name there h = tt

-- ---- the bytes

pub long_report : (i : Input) (s : Session) (bytes : List ℕ) (r : Refusal) → IsTooLong MOST_REPORT_BYTES (refusals.Rejected (record { block = 0; reason = reasons.TooLong })) bytes r → RefusesRanks i s bytes r
long_report i s bytes r long = (record { block = 0; reason = reasons.TooLong }, long.0, commands.too_long long.1 refl)

module _ (i : Input) (s : Session) (bytes : List ℕ) (few : length bytes ≤ MOST_REPORT_BYTES) (lists : List (List Statement)) (closing : AreClosingLists (bench_for i s) s.lines lists) where
  pub report_refused : (e : ReportError) → IfRejected (IsRejectedHeaded header_text (kind_over i s lists) bytes) e → HoldsNoMemory e → ReadAs {A = Accepted} last (ProvesRanks i s) (RefusesRanks i s) bytes (Err (stop_at_report e))
  report_refused (report_errors.Rejected r) why pure = (refl, pure, (r, refl, commands.at_fault few (record { lists = lists; closing = closing; holds = why })))
  report_refused report_errors.Memory why pure = tt

  pub report_proved : (x : Accepted) → IsAcceptedHeaded header_text (kind_over i s lists) bytes x → ProvesRanks i s bytes x
  report_proved x accepted = (few, record { lists = lists; closing = closing; holds = (accepted.0, accepted.1, accepted.2.proved) })

-- what is proved over a lawful input is true
pub accepted_too : (i : Input) (s : Session) (bytes : List ℕ) (x : Accepted) → IsTable i.table → IsLawfulIn i.table i.opening → IsSound s → ProvesRanks i s bytes x → IsAcceptedRanks i s bytes x
accepted_too i s bytes x table lawful sound p =
    let a = p.1 in
    record { lists = a.lists; closing = a.closing; holds = headed_is_accepted header_text (kind_over i s a.lists) (kind_of_lists i s table lawful sound a.lists a.closing) bytes x a.holds }

-- ---- the desk at a place
