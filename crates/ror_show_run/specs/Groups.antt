-- What the page of a group does: it is written of a group's report that is proved for a session over a table, and says nothing of any other.
use Rattle.std.specs.Prelude.{◌≡◌, ℕ, false, List, [], ◌∷◌, Some}
use Rattle.ror_statement.specs.declared.statement.Statement.{Statement}
use Rattle.ror_value.specs.declared.input.Input.{Input}
use Rattle.ror_session.specs.declared.session.Session.{Session}
use Rattle.ror_bench.specs.declared.report.Accepted.{Accepted}
use Rattle.ror_closing.specs.Closing.{AreClosingLists, IsFirstUnsuited}
use Rattle.ror_group.specs.declared.entry.Entry.{Entry}
use Rattle.ror_frame.specs.Courses.{Output, Course, finish, fetch, Chore}
use Rattle.ror_frame.specs.Inputs.{bench_for, ReadsTable, RefusesTable, ReadsSuited, RefusesSuited}
use Rattle.ror_work_group.specs.Group.{KeepsGroup, RefusesGroup, IsAcceptedGroup}
use Rattle.ror_show_words.specs.declared.words.Form.{Form}
use Rattle.ror_show_words.specs.declared.words.Form.TheVariants.{Text, Csv, Dot}
use Rattle.ror_show_words.specs.Words.{PageWords}
use Rattle.ror_show_find_group.specs.declared.page.GroupFound.{GroupFound}
use Rattle.ror_show_find_group.specs.Grounds.{GroupGround, IsJudgedGroup}
use Rattle.ror_show_find_group.specs.Findings.{IsGroupFound}
use Rattle.ror_show_text_group.specs.Text.{group_text}
use Rattle.ror_show_text_group.specs.Csv.{csv_text}
use Rattle.ror_show_text_group.specs.Dot.{dot_text}
use Rattle.ror_show_pages.specs.Shown.{IsShown}

-- what is found in a form
abbrev pub group_in : Form → GroupGround → GroupFound → List ℕ
group_in Text g found = group_text g.table g.desks found
group_in Csv g found = csv_text g.table g.desks found
group_in Dot g found = dot_text g.table found
group_in _ g found = []

abbrev pub IsGroupPage : Form → GroupGround → List ℕ → Type 0
IsGroupPage form g text = (found : GroupFound) × IsGroupFound g found × (text ≡ group_in form g found)

-- the desks of a session with what stands at each, and entries of these
abbrev pub judges_over : Input → Session → List (List Statement) → List Entry → GroupGround
judges_over i s lists entries = record { table = i.table; desks = s.desks; lists = lists; entries = entries }

-- a page in the form of the words, and behind it names of the table's file
abbrev pub PageOf : PageWords → List ℕ → GroupGround → List ℕ → Type 0
PageOf words file g text = (page : List ℕ) × IsGroupPage words.form g page × IsShown words.form file page text

-- A page of these entries, which are proved over what stands at each desk at the end, and behind it names of the table's file.
pub record IsGroupShown (words : PageWords) (file : List ℕ) (i : Input) (s : Session) (entries : List Entry) (text : List ℕ) : Type 0 where
  pub lists : List (List Statement)
  pub closing : AreClosingLists (bench_for i s) s.lines lists
  pub judged : IsJudgedGroup (judges_over i s lists entries)
  pub page : PageOf words file (judges_over i s lists entries) text

-- That is written, and nothing of it is too wide. Where all of it is, this holds.
abbrev pub group_output : PageWords → List ℕ → Input → Session → List Entry → Type 0 → Output
group_output words file i s entries Holds = record {
  tells = Some false;
  Whole = λ wide text. (wide ≡ false) × IsGroupShown words file i s entries text × Holds;
  Begun = IsGroupShown words file i s entries;
  keeps_front = false;
}

-- Where the page is written, every answer of the report that isn't too wide is true of all value functions that agree with its desk's list.
abbrev pub report_output : PageWords → List ℕ → Input → Session → List ℕ → List Entry → Output
report_output words file i s bytes entries =
    group_output words file i s entries ((accepted : Accepted) × IsAcceptedGroup i s bytes accepted)

-- the report is fetched, and refused where a check of it rejects it
abbrev pub report_course : PageWords → List ℕ → Input → Session → Course
report_course words file i s = fetch (List Entry) words.report (KeepsGroup i s) (RefusesGroup i s)
    (λ bytes entries. finish (report_output words file i s bytes entries))

-- once the table was read, a session is fetched that doesn't repair, and then the report
abbrev pub session_course : PageWords → List ℕ → Input → Course
session_course words file i = fetch Session words.session (ReadsSuited IsFirstUnsuited) (RefusesSuited IsFirstUnsuited)
    (λ session s. report_course words file i s)

abbrev pub group_page_chore : PageWords → Chore
group_page_chore words = record {
  files = words.table ∷ words.session ∷ words.report ∷ [];
  course = fetch Input words.table (ReadsTable words.best_first) (RefusesTable words.best_first)
      (λ file i. session_course words file i);
}
