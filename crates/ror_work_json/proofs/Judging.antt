-- A report as JSON is proved, or rejected for one thing.
use Rattle.std.proofs.Common.{◌≡◌, ℕ, ◌≤◌, List, length, Ok, Err, refl, sym, ap, ◌∙◌, subst, arith}
use Rattle.ror_table.specs.Table.{IsTable}
use Rattle.ror_value.specs.declared.input.Input.{Input}
use Rattle.ror_xmcda.proofs.TableLemmas.{input_table}
use Rattle.ror_session.specs.declared.session.Session.{Session}
use Rattle.ror_session.specs.declared.session.Line.{Line}
use Rattle.ror_bench.specs.declared.report.Accepted.{Accepted}
use Rattle.ror_bench.specs.declared.report.Rejection.{Rejection}
use Rattle.ror_bench.specs.declared.report.ReportError.{ReportError}
use Rattle.ror_bench.specs.declared.report.ReportError.TheVariants as report_errors
use Rattle.ror_bench.specs.declared.report.Reason.TheVariants.{TooLong}
use Rattle.ror_bench.specs.declared.report.TheConstants.{MOST_REPORT_BYTES}
use Rattle.ror_bench.specs.Bench.{Workbench, HoldTheSame}
use Rattle.ror_bench.specs.Reports.{IfRejected, HoldsNoMemory}
use Rattle.ror_pivot.specs.declared.note.Bits.{Bits}
use Rattle.ror_pivot.specs.Answers.{most_of}
use Rattle.ror_words.specs.Words.{InputNames}
use Rattle.ror_frame.specs.declared.stop.Refusal.{Refusal}
use Rattle.ror_frame.specs.declared.stop.Refusal.TheVariants as refusals
use Rattle.ror_frame.specs.Stops.{last, stop_at_report}
use Rattle.ror_frame.specs.Courses.{finish, fetch, IsTooLong, ReadAs}
use Rattle.ror_frame.specs.Inputs.{bench_for}
use Rattle.ror_frame.proofs.CourseLemmas.{IsDecided}
use Rattle.ror_frame.proofs.InputLemmas.{decided_inputs}
use Rattle.ror_frame.proofs.Desks.{lawful_desks}
use Rattle.ror_value.specs.Over.{IsLawfulIn}
use Rattle.ror_work_json.specs.Json.{IsProvedJson, IsAcceptedJson, IsRejectedJson, IsJsonRejection, too_long, at_fault, ProvesJson, RefusesJson, proved_json_output, check_json_chore, json_output, replay_json_chore}
use Rattle.ror_work_json.proofs.Truth.{json_accepted}
use Rattle.ror_work_json.proofs.Rejections.{rejected_json_not_proved, one_json_count, one_json_rejection, proved_json_same, rejected_json_same}

-- bytes that are rejected are no proved report
pub rejection_or_proof : (bench : Workbench) (lines : List Line) (bytes : List ℕ) (r : Rejection) (x : Accepted) → IsTable bench.table → IsJsonRejection bench lines bytes r → length bytes ≤ MOST_REPORT_BYTES → IsProvedJson bench lines bytes x → ⊥
rejection_or_proof bench lines bytes r x table (too_long many is) short proved = omega (arith, many, short)
rejection_or_proof bench lines bytes r x table (at_fault few fault) short proved = rejected_json_not_proved bench lines bytes r x table fault proved

-- and are rejected for one thing
pub one_rejection_of : (bench : Workbench) (lines : List Line) (bytes : List ℕ) (q r : Rejection) → IsTable bench.table → IsJsonRejection bench lines bytes q → IsJsonRejection bench lines bytes r → q ≡ r
one_rejection_of bench lines bytes q r table (too_long many is) (too_long more and) = is ∙ sym and
one_rejection_of bench lines bytes q r table (too_long many is) (at_fault few fault) = absurd (omega (arith, many, few))
one_rejection_of bench lines bytes q r table (at_fault few fault) (too_long many is) = absurd (omega (arith, many, few))
one_rejection_of bench lines bytes q r table (at_fault few fault) (at_fault less other) = one_json_rejection bench lines bytes q r table fault other

one_refusal : (i : Input) (s : Session) (bytes : List ℕ) (q r : Refusal) → IsTable i.table → RefusesJson i s bytes q → RefusesJson i s bytes r → q ≡ r
one_refusal i s bytes q r table a b = a.1 ∙ ap refusals.Rejected (one_rejection_of (bench_for i s) s.lines bytes a.0 b.0 table a.2 b.2) ∙ sym b.1

pub decided_check_json : (names : InputNames) (report : List ℕ) → IsDecided (check_json_chore names report).course
decided_check_json names report = decided_inputs names (λ i s. fetch Accepted report (ProvesJson i s) (RefusesJson i s) (λ bytes x. finish (proved_json_output i s bytes x))) (λ table i s read bytes.
    let is_table = input_table table names.best_first i read in
    ((λ x y p q. one_json_count (bench_for i s) s.lines bytes x y is_table p.1 q.1), (λ q r a b. one_refusal i s bytes q r is_table a b), (λ x r p a. rejection_or_proof (bench_for i s) s.lines bytes a.0 x is_table a.2 p.0 p.1), λ x p. tt))

pub decided_replay_json : (names : InputNames) (bits : Bits) → IsDecided (replay_json_chore names bits).course
decided_replay_json names bits = decided_inputs names (λ i s. finish (json_output (most_of bits) (bench_for i s) s.lines)) (λ table i s read. tt)

-- ---- steps of a check

pub long_report : (i : Input) (s : Session) (bytes : List ℕ) (r : Refusal) → IsTooLong MOST_REPORT_BYTES (refusals.Rejected (record { block = 0; reason = TooLong })) bytes r → RefusesJson i s bytes r
long_report i s bytes r long = (record { block = 0; reason = TooLong }, long.0, too_long long.1 refl)

-- what is refused of the bytes is a rejection
pub rejected_as : (i : Input) (s : Session) (bench : Workbench) (lines : List Line) (bytes : List ℕ) (error : ReportError) → HoldTheSame bench (bench_for i s) → lines ≡ s.lines → length bytes ≤ MOST_REPORT_BYTES → IfRejected (IsRejectedJson bench lines bytes) error → HoldsNoMemory error → ReadAs {A = Accepted} last (ProvesJson i s) (RefusesJson i s) bytes (Err (stop_at_report error))
rejected_as i s bench lines bytes (report_errors.Rejected rejection) held same short why pure =
    (refl, pure, (rejection, refl, at_fault short (rejected_json_same bench (bench_for i s) held s.lines bytes rejection (subst (λ (ls : List Line). IsRejectedJson bench ls bytes rejection) same why))))
rejected_as i s bench lines bytes report_errors.Memory held same short why pure = tt

-- and what is accepted is proved
pub proves_as : (i : Input) (s : Session) (bench : Workbench) (lines : List Line) (bytes : List ℕ) (x : Accepted) → HoldTheSame bench (bench_for i s) → lines ≡ s.lines → length bytes ≤ MOST_REPORT_BYTES → IsProvedJson bench lines bytes x → ProvesJson i s bytes x
proves_as i s bench lines bytes x held same short proved =
    (short, proved_json_same bench (bench_for i s) held s.lines bytes x (subst (λ (ls : List Line). IsProvedJson bench ls bytes x) same proved))

-- a report that is proved over a lawful input is true
pub accepted_is : (i : Input) (s : Session) (bytes : List ℕ) (x : Accepted) → IsLawfulIn i.table i.opening → ProvesJson i s bytes x → IsAcceptedJson (bench_for i s) s.lines bytes x
accepted_is i s bytes x lawful proves = json_accepted (bench_for i s) s.lines bytes x (lawful_desks i (length s.desks) lawful) proves.1
