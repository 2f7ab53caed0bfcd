-- What is written is a sheet, and the files of a sheet lead to one thing.
use Rattle.std.proofs.Common.{◌≡◌, ℕ, Bool, List, Option, Some, None, Ok, Err, false, sym, subst, inl, inr}
use Rattle.ror_value.specs.declared.input.Input.{Input}
use Rattle.ror_frame.specs.States.{SinkState}
use Rattle.ror_frame.specs.Stops.{Outcome}
use Rattle.ror_frame.specs.declared.stop.Refusal.{Refusal}
use Rattle.ror_frame.specs.declared.stop.Stop.TheVariants as stops
use Rattle.ror_frame.specs.Courses.{WritesDue}
use Rattle.ror_frame.specs.Inputs.{line_output, RefusesTable, RefusesSession}
use Rattle.ror_frame.proofs.CourseLemmas.{IsDecided}
use Rattle.ror_show_run.specs.Sheets.{SheetNames, sheet_output, course_after, sheet_chore}
use Rattle.ror_show_sheet.specs.Beside.{IsSheet}

-- a text that is a sheet is one where it is written
pub sheet_due : (i : Input) (text : List ℕ) (old new : SinkState) (outcome : Outcome) → IsSheet i text → WritesDue (line_output false text (Unit {0})) old new outcome → WritesDue (sheet_output i) old new outcome
sheet_due i text old new (Ok wide) is due = (due.0, due.1, due.2, (due.3.0, subst (IsSheet i) (sym due.3.1) is), due.4)
sheet_due i text old new (Err (stops.At r)) is due = due
sheet_due i text old new (Err stops.ReadFault) is due = due
sheet_due i text old new (Err stops.WriteFault) is due = (due.0, due.1, due.2, subst (IsSheet i) (sym due.3) is, due.4)
sheet_due i text old new (Err stops.Memory) is (inl same) = inl same
sheet_due i text old new (Err stops.Memory) is (inr due) = absurd (let p = due.1 in cc)

pub one_table : (best_first : Bool) (table : List ℕ) (q r : Refusal) → RefusesTable best_first table q → RefusesTable best_first table r → q ≡ r
one_table best_first table q r a b = let m = a.1 in let n = b.1 in let x = a.2 in let y = b.2 in let same : a.0 ≡ b.0 = cc in cc

pub one_session : (session : List ℕ) (q r : Refusal) → RefusesSession session q → RefusesSession session r → q ≡ r
one_session session q r a b = let m = a.1 in let n = b.1 in let x = a.2 in let y = b.2 in let same : a.0 ≡ b.0 = cc in cc

decided_after : (session : Option (List ℕ)) (i : Input) → IsDecided (course_after session i)
decided_after None i = tt
decided_after (Some name) i = λ session. ((λ s u p q. cc), (λ q r a b. one_session session q r a b), (λ s r p a. let q = a.2 in cc), λ s read. tt)

pub decided_sheet : (names : SheetNames) → IsDecided (sheet_chore names).course
decided_sheet names = λ table. ((λ i j p q. cc), (λ q r a b. one_table names.best_first table q r a b), (λ i r p a. let q = a.2 in cc), λ i read. decided_after names.session i)
