-- A report is proved, or rejected for one thing.
use Rattle.std.proofs.Common.{◌≡◌, ℕ, ◌≤◌, List, length, Err, refl, sym, ap, subst, ◌∙◌, arith}
use Rattle.ror_table.specs.Table.{IsTable}
use Rattle.ror_value.specs.declared.input.Input.{Input}
use Rattle.ror_value.specs.Over.{IsLawfulIn}
use Rattle.ror_xmcda.proofs.TableLemmas.{input_table}
use Rattle.ror_session.specs.declared.session.Session.{Session}
use Rattle.ror_session.specs.declared.session.Line.{Line}
use Rattle.ror_bench.specs.declared.report.Accepted.{Accepted}
use Rattle.ror_bench.specs.declared.report.Rejection.{Rejection}
use Rattle.ror_bench.specs.declared.report.ReportError.{ReportError}
use Rattle.ror_bench.specs.declared.report.ReportError.TheVariants as report_errors
use Rattle.ror_bench.specs.declared.report.Reason.TheVariants.{TooLong}
use Rattle.ror_bench.specs.declared.report.TheConstants.{MOST_REPORT_BYTES}
use Rattle.ror_bench.specs.Bench.{Workbench, HoldTheSame}
use Rattle.ror_bench.proofs.SameLemmas.{proved_same, rejected_same}
use Rattle.ror_bench.specs.Reports.{IsProvedReport, IsAcceptedReport, IsRejectedFor, IfRejected, HoldsNoMemory}
use Rattle.ror_bench.proofs.ReportProofs.{rejected_not_proved}
use Rattle.ror_bench.proofs.UniqueLemmas.{one_count, one_rejection}
use Rattle.ror_bench.proofs.Truth.{report_true}
use Rattle.ror_pivot.specs.declared.note.Bits.{Bits}
use Rattle.ror_words.specs.Words.{InputNames}
use Rattle.ror_frame.specs.declared.stop.Refusal.{Refusal}
use Rattle.ror_frame.specs.declared.stop.Refusal.TheVariants as refusals
use Rattle.ror_frame.specs.Stops.{last, stop_at_report}
use Rattle.ror_frame.specs.Courses.{finish, fetch, IsTooLong, ReadAs}
use Rattle.ror_frame.specs.Inputs.{bench_for}
use Rattle.ror_frame.proofs.CourseLemmas.{IsDecided}
use Rattle.ror_frame.proofs.InputLemmas.{decided_inputs}
use Rattle.ror_frame.proofs.Desks.{lawful_desks}
use Rattle.ror_work.specs.Checking.{ProvesReport, IsRejectionOf, too_long, at_fault, RefusesReport, proved_output, check_chore}
use Rattle.ror_pivot.specs.Answers.{most_of}
use Rattle.ror_work.specs.Replaying.{report_output, replay_chore}

-- bytes that are rejected are no proved report
pub rejection_or_proof : (bench : Workbench) (lines : List Line) (bytes : List ℕ) (r : Rejection) (x : Accepted) → IsTable bench.table → IsRejectionOf bench lines bytes r → length bytes ≤ MOST_REPORT_BYTES → IsProvedReport bench lines bytes x → ⊥
rejection_or_proof bench lines bytes r x table (too_long many is) short proved = omega (arith, many, short)
rejection_or_proof bench lines bytes r x table (at_fault few fault) short proved = rejected_not_proved bench lines bytes r x table short fault proved

-- and are rejected for one thing
one_rejection_of : (bench : Workbench) (lines : List Line) (bytes : List ℕ) (q r : Rejection) → IsRejectionOf bench lines bytes q → IsRejectionOf bench lines bytes r → q ≡ r
one_rejection_of bench lines bytes q r (too_long many is) (too_long more and) = is ∙ sym and
one_rejection_of bench lines bytes q r (too_long many is) (at_fault few fault) = absurd (omega (arith, many, few))
one_rejection_of bench lines bytes q r (at_fault few fault) (too_long many is) = absurd (omega (arith, many, few))
one_rejection_of bench lines bytes q r (at_fault few fault) (at_fault less other) = one_rejection bench lines bytes q r fault other

pub one_refusal : (i : Input) (s : Session) (bytes : List ℕ) (q r : Refusal) → RefusesReport i s bytes q → RefusesReport i s bytes r → q ≡ r
one_refusal i s bytes q r a b =
    a.1 ∙ ap refusals.Rejected (one_rejection_of (bench_for i s) s.lines bytes a.0 b.0 a.2 b.2) ∙ sym b.1

pub decided_check : (names : InputNames) (report : List ℕ) → IsDecided (check_chore names report).course
decided_check names report = decided_inputs names (λ i s. fetch Accepted report (ProvesReport i s) (RefusesReport i s) (λ bytes x. finish (proved_output i s bytes x))) (λ table i s read bytes.
    let is_table = input_table table names.best_first i read in
    ((λ x y p q. one_count (bench_for i s) s.lines bytes x y is_table p.1 q.1), (λ q r a b. one_refusal i s bytes q r a b), (λ x r p a. rejection_or_proof (bench_for i s) s.lines bytes a.0 x is_table a.2 p.0 p.1), λ x p. tt))

pub decided_replay : (names : InputNames) (bits : Bits) → IsDecided (replay_chore names bits).course
decided_replay names bits = decided_inputs names (λ i s. finish (report_output (most_of bits) (bench_for i s) s.lines)) (λ table i s read. tt)

-- ---- steps of a check

pub long_report : (i : Input) (s : Session) (bytes : List ℕ) (r : Refusal) → IsTooLong MOST_REPORT_BYTES (refusals.Rejected (record { block = 0; reason = TooLong })) bytes r → RefusesReport i s bytes r
long_report i s bytes r long = (record { block = 0; reason = TooLong }, long.0, too_long long.1 refl)

-- what is refused of the bytes is a rejection
pub rejected_as : {A : Type 0} (Reads : List ℕ → A → Type 0) (i : Input) (s : Session) (bench : Workbench) (lines : List Line) (bytes : List ℕ) (error : ReportError) → HoldTheSame bench (bench_for i s) → lines ≡ s.lines → length bytes ≤ MOST_REPORT_BYTES → IfRejected (IsRejectedFor bench lines bytes) error → HoldsNoMemory error → ReadAs last Reads (RefusesReport i s) bytes (Err (stop_at_report error))
rejected_as Reads i s bench lines bytes (report_errors.Rejected rejection) held same short why pure =
    (refl, pure, (rejection, refl, at_fault short (rejected_same bench (bench_for i s) held s.lines bytes rejection (subst (λ (ls : List Line). IsRejectedFor bench ls bytes rejection) same why))))
rejected_as Reads i s bench lines bytes report_errors.Memory held same short why pure = tt

-- and what is accepted is proved
pub proves_as : (i : Input) (s : Session) (bench : Workbench) (lines : List Line) (bytes : List ℕ) (x : Accepted) → HoldTheSame bench (bench_for i s) → lines ≡ s.lines → length bytes ≤ MOST_REPORT_BYTES → IsAcceptedReport bench lines bytes x → ProvesReport i s bytes x
proves_as i s bench lines bytes x held same short accepted =
    (short, proved_same bench (bench_for i s) held s.lines bytes x (subst (λ (ls : List Line). IsProvedReport bench ls bytes x) same accepted.proved))

-- a report that is proved over a lawful input is true
pub accepted_is : (i : Input) (s : Session) (bytes : List ℕ) (x : Accepted) → IsLawfulIn i.table i.opening → ProvesReport i s bytes x → IsAcceptedReport (bench_for i s) s.lines bytes x
accepted_is i s bytes x lawful proves =
    record { proved = proves.1; blocks_true = report_true (bench_for i s) s.lines bytes x (lawful_desks i (length s.desks) lawful) proves.1 }
