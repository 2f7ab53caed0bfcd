-- Table and session, with which most commands begin, and the two kinds of commands over them.
use Rattle.std.specs.Prelude.{◌≡◌, ℕ, ◌⊎◌, Bool, false, List, [], ◌∷◌, length, Some, Ok, Err, nat_lt}
use Rattle.ror_table.specs.declared.fault.TableFault.{TableFault}
use Rattle.ror_value.specs.declared.input.Input.{Input}
use Rattle.ror_xmcda.specs.Input.{input_of}
use Rattle.ror_session.specs.declared.session.Line.{Line}
use Rattle.ror_session.specs.declared.session.Session.{Session}
use Rattle.ror_session.specs.declared.session.SessionFault.{SessionFault}
use Rattle.ror_session.specs.Session.{session_of}
use Rattle.ror_bench.specs.declared.report.Accepted.{Accepted}
use Rattle.ror_bench.specs.declared.report.Rejection.{Rejection}
use Rattle.ror_bench.specs.Bench.{Workbench, bench_of}
use Rattle.ror_bench.specs.Replays.{IsReplayedReport}
use Rattle.ror_bench.specs.Reports.{IsAcceptedReport}
use Rattle.ror_words.specs.Words.{InputNames}
use Rattle.ror_frame.specs.Statuses.{accepted_text}
use Rattle.ror_frame.specs.declared.stop.Refusal.{Refusal}
use Rattle.ror_frame.specs.declared.stop.Refusal.TheVariants as refusals
use Rattle.ror_frame.specs.Courses.{Output, Course, finish, fetch, Chore}

-- a workbench over the input's table, at each of whose desks the opening statements stand
abbrev pub bench_for : Input → Session → Workbench
bench_for i s = bench_of i (length s.desks)

-- The text is the report of the lines: a block for each, in order, with answers and repairs that may be given where no number
-- passes most: no number of a certificate does, and each that is called too wide is one that does. Each that isn't too wide has a
-- proof: an answer is true of all compatible value functions, and a repair drops what the repair over these drops.
pub record IsReportOf (most : ℕ) (bench : Workbench) (lines : List Line) (text : List ℕ)
    (accepted : Accepted) : Type 0 where
  pub given : IsReplayedReport most bench lines text accepted
  pub checked : IsAcceptedReport bench lines text accepted

-- ---- what their bytes are read as

-- a table, with the statements that come with it
abbrev pub ReadsTable : Bool → List ℕ → Input → Type 0
ReadsTable best_first bytes i = input_of bytes best_first ≡ Ok i

abbrev pub RefusesTable : Bool → List ℕ → Refusal → Type 0
RefusesTable best_first bytes r = (fault : TableFault) × (r ≡ refusals.BadTable fault)
    × (input_of bytes best_first ≡ Err fault)

abbrev pub ReadsSession : List ℕ → Session → Type 0
ReadsSession bytes s = session_of bytes ≡ Ok s

abbrev pub RefusesSession : List ℕ → Refusal → Type 0
RefusesSession bytes r = (fault : SessionFault) × (r ≡ refusals.BadSession fault)
    × (session_of bytes ≡ Err fault)

-- a session without a line that the command doesn't take, and the refusal of any other: its first fault, or the first such line
abbrev pub ReadsSuited : (List Line → ℕ → Type 0) → List ℕ → Session → Type 0
ReadsSuited IsFirstUnsuited bytes s = ReadsSession bytes s × ((line : ℕ) → IsFirstUnsuited s.lines line → ⊥)

abbrev pub RefusesSuited : (List Line → ℕ → Type 0) → List ℕ → Refusal → Type 0
RefusesSuited IsFirstUnsuited bytes r = RefusesSession bytes r
    ⊎ ((s : Session) × (line : ℕ) × ReadsSession bytes s × IsFirstUnsuited s.lines line × (r ≡ refusals.Unsuited line))

-- ---- what those that check write

-- One line; the files tell whether anything is too wide. Where all of it is written, this holds.
abbrev pub line_output : Bool → List ℕ → Type 0 → Output
line_output wide line Holds = record {
  tells = Some wide;
  Whole = λ w text. (w ≡ wide) × (text ≡ line) × Holds;
  Begun = λ text. text ≡ line;
  keeps_front = false;
}

-- the line of an accepted report, of which this holds
abbrev pub accepted_output : Accepted → Type 0 → Output
accepted_output accepted Holds = line_output (nat_lt 0 accepted.wide) (accepted_text accepted) Holds

-- ---- commands over them

-- table and session are fetched, and then the command goes on
abbrev pub over_inputs : InputNames → (Input → Session → Course) → Course
over_inputs names next = fetch Input names.table (ReadsTable names.best_first) (RefusesTable names.best_first)
    (λ table i. fetch Session names.session ReadsSession RefusesSession (λ session s. next i s))

-- as above, of sessions without an unsuited line
abbrev pub over_suited : (List Line → ℕ → Type 0) → InputNames → (Input → Session → Course) → Course
over_suited IsFirstUnsuited names next = fetch Input names.table (ReadsTable names.best_first) (RefusesTable names.best_first)
    (λ table i. fetch Session names.session (ReadsSuited IsFirstUnsuited) (RefusesSuited IsFirstUnsuited) (λ session s. next i s))

-- what comes of the bytes of a report: so many answers are proved, or it is rejected; and an output then
abbrev pub over_report : List ℕ → (List ℕ → Accepted → Type 0) → (List ℕ → Rejection → Type 0)
    → (List ℕ → Accepted → Output) → Course
over_report report Proves Rejects output = fetch Accepted report Proves
    (λ bytes r. (rejection : Rejection) × (r ≡ refusals.Rejected rejection) × Rejects bytes rejection)
    (λ bytes x. finish (output bytes x))

-- a command that writes an output
abbrev pub writing_chore : InputNames → (Input → Session → Output) → Chore
writing_chore names output = record {
  files = names.table ∷ names.session ∷ [];
  course = over_inputs names (λ i s. finish (output i s));
}

-- a command that fetches one more file, whose bytes are proved, in so many answers, or rejected, and writes an output then
abbrev pub judging_chore : InputNames → List ℕ → (Input → Session → List ℕ → Accepted → Type 0)
    → (Input → Session → List ℕ → Rejection → Type 0) → (Input → Session → List ℕ → Accepted → Output) → Chore
judging_chore names report Proves Rejects output = record {
  files = names.table ∷ names.session ∷ report ∷ [];
  course = over_inputs names (λ i s. over_report report (Proves i s) (Rejects i s) (output i s));
}

-- the same two, of sessions without an unsuited line
abbrev pub suited_writing_chore : (List Line → ℕ → Type 0) → InputNames → (Input → Session → Output) → Chore
suited_writing_chore IsFirstUnsuited names output = record {
  files = names.table ∷ names.session ∷ [];
  course = over_suited IsFirstUnsuited names (λ i s. finish (output i s));
}

abbrev pub suited_judging_chore : (List Line → ℕ → Type 0) → InputNames → List ℕ
    → (Input → Session → List ℕ → Accepted → Type 0) → (Input → Session → List ℕ → Rejection → Type 0)
    → (Input → Session → List ℕ → Accepted → Output) → Chore
suited_judging_chore IsFirstUnsuited names report Proves Rejects output = record {
  files = names.table ∷ names.session ∷ report ∷ [];
  course = over_suited IsFirstUnsuited names (λ i s. over_report report (Proves i s) (Rejects i s) (output i s));
}
