-- What the sheet does: it is written of the table that was read, and says nothing of any other.
use Rattle.std.specs.Prelude.{◌≡◌, ℕ, Bool, false, List, ◌∷◌, Option, Some, None, option_to_list}
use Rattle.ror_value.specs.declared.input.Input.{Input}
use Rattle.ror_session.specs.declared.session.Session.{Session}
use Rattle.ror_show_sheet.specs.Beside.{IsSheet}
use Rattle.ror_frame.specs.Courses.{Output, Course, finish, fetch, Chore}
use Rattle.ror_frame.specs.Inputs.{ReadsTable, RefusesTable, ReadsSession, RefusesSession}

-- the names of the files, and whether the ranks of the table's categories begin with the best one
pub record SheetNames : Type 0 where
  pub table : List ℕ
  pub session : Option (List ℕ)
  pub best_first : Bool

-- no sheet has anything that is too wide
abbrev pub sheet_output : Input → Output
sheet_output i = record {
  tells = Some false;
  Whole = λ wide text. (wide ≡ false) × IsSheet i text;
  Begun = IsSheet i;
  keeps_front = false;
}

-- a session is fetched before its sheet is written
abbrev pub session_course : List ℕ → Input → Course
session_course name i = fetch Session name ReadsSession RefusesSession (λ bytes s. finish (sheet_output i))

-- where one is named
abbrev pub course_after : Option (List ℕ) → Input → Course
course_after None i = finish (sheet_output i)
course_after (Some name) i = session_course name i

-- the table is fetched, and the session where one is named
abbrev pub sheet_chore : SheetNames → Chore
sheet_chore names = record {
  files = names.table ∷ option_to_list names.session;
  course = fetch Input names.table (ReadsTable names.best_first) (RefusesTable names.best_first)
      (λ bytes i. course_after names.session i);
}
