-- What a page does: it is written of a report that is proved for a session over a table, and says nothing of any other.
use Rattle.std.specs.Prelude.{◌≡◌, ℕ, false, List, [], ◌∷◌, Some}
use Rattle.ror_value.specs.declared.input.Input.{Input}
use Rattle.ror_session.specs.declared.session.Session.{Session}
use Rattle.ror_bench.specs.declared.kept.KeptLine.{KeptLine}
use Rattle.ror_bench.specs.declared.report.Accepted.{Accepted}
use Rattle.ror_bench.specs.Reports.{IsAcceptedReport}
use Rattle.ror_show_words.specs.declared.table.Page.{Page}
use Rattle.ror_show_words.specs.Words.{PageWords}
use Rattle.ror_frame.specs.Courses.{Output, Course, finish, fetch, Chore}
use Rattle.ror_frame.specs.Inputs.{bench_for, ReadsTable, RefusesTable, ReadsSession, RefusesSession}
use Rattle.ror_work.specs.Checking.{RefusesReport}
use Rattle.ror_show_ground.specs.Grounds.{Ground, ground_in}
use Rattle.ror_show_pages.specs.Pages.{ReportPage, page_of, keeps, IsPage}
use Rattle.ror_show_pages.specs.Reads.{ReadsKept}
use Rattle.ror_show_pages.specs.Shown.{IsShown}

-- a page in a form, and behind it names of the table's file
abbrev pub IsShownPage : ReportPage → PageWords → List ℕ → Ground → List ℕ → Type 0
IsShownPage p words file g text = (page : List ℕ) × IsPage p words g page × IsShown words.form file page text

-- That is written, and nothing of it is too wide. Where all of it is, this holds.
abbrev pub page_output : ReportPage → PageWords → List ℕ → Ground → Type 0 → Output
page_output p words file g Holds = record {
  tells = Some false;
  Whole = λ wide text. (wide ≡ false) × IsShownPage p words file g text × Holds;
  Begun = IsShownPage p words file g;
  keeps_front = false;
}

-- Where the page is written, every answer of the report that isn't too wide is true of all compatible value functions.
abbrev pub report_output : ReportPage → PageWords → List ℕ → Input → Session → List ℕ → List KeptLine → Output
report_output p words file i s bytes kept = page_output p words file (ground_in i s kept)
    ((accepted : Accepted) × IsAcceptedReport (bench_for i s) s.lines bytes accepted)

-- the report is fetched, and refused where a check rejects it
abbrev pub report_course : ReportPage → PageWords → List ℕ → Input → Session → Course
report_course p words file i s = fetch (List KeptLine) words.report (ReadsKept (keeps p words.line words.desk s) i s)
    (RefusesReport i s) (λ bytes kept. finish (report_output p words file i s bytes kept))

-- once the table was read, the session is fetched, and then the report
abbrev pub session_course : ReportPage → PageWords → List ℕ → Input → Course
session_course p words file i = fetch Session words.session ReadsSession RefusesSession
    (λ session s. report_course p words file i s)

abbrev pub show_chore : ReportPage → PageWords → Chore
show_chore p words = record {
  files = words.table ∷ words.session ∷ words.report ∷ [];
  course = fetch Input words.table (ReadsTable words.best_first) (RefusesTable words.best_first)
      (λ file i. session_course p words file i);
}

abbrev pub page_chore : Page → PageWords → Chore
page_chore page words = show_chore (page_of page words.form) words
