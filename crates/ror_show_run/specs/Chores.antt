-- What each page does, and the line of a status.
use Rattle.std.specs.Prelude.{ℕ, List}
use Rattle.ror_frame.specs.declared.status.Status.{Status}
use Rattle.ror_frame.specs.declared.status.Status.TheVariants as statuses
use Rattle.ror_frame.specs.Courses.{Chore}
use Rattle.ror_frame.specs.Statuses.{status_text}
use Rattle.ror_show_words.specs.Commands.{usage_text}
use Rattle.ror_show_words.specs.Words.{SheetWords, Asked, OfReport, OfGroup, OfFiles, OfCheck, OfSpreadsheet}
use Rattle.ror_show_check.specs.Checking.{check_why_chore}
use Rattle.ror_show_import.specs.Importing.{import_chore}
use Rattle.ror_show_run.specs.Courses.{page_chore}
use Rattle.ror_show_run.specs.Groups.{group_page_chore}
use Rattle.ror_show_run.specs.Sheets.{SheetNames, sheet_chore}

abbrev pub names_in : SheetWords → SheetNames
names_in words = record { table = words.table; session = words.session; best_first = words.best_first }

abbrev pub chore_of : Asked → Chore
chore_of (OfReport page words) = page_chore page words
chore_of (OfGroup words) = group_page_chore words
chore_of (OfFiles words) = sheet_chore (names_in words)
chore_of (OfCheck words) = check_why_chore words
chore_of (OfSpreadsheet words) = import_chore words

-- the line of a status, which is that of any program but where the words ask for nothing
abbrev pub status_line : Status → List ℕ
status_line statuses.Usage = usage_text
status_line status = status_text status
