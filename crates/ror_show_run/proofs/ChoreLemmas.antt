-- What holds of each page: its files lead to one thing.
use Rattle.ror_show_words.specs.Words.{Asked, OfReport, OfGroup, OfFiles, OfCheck, OfSpreadsheet}
use Rattle.ror_frame.proofs.CourseLemmas.{IsDecided}
use Rattle.ror_show_run.specs.Chores.{chore_of, names_in}
use Rattle.ror_show_pages.specs.Pages.{page_of}
use Rattle.ror_show_check.proofs.Checking.{decided_check_why}
use Rattle.ror_show_import.proofs.Importing.{decided_import}
use Rattle.ror_show_run.proofs.Groups.{decided_group_page}
use Rattle.ror_show_run.proofs.Sheets.{decided_sheet}
use Rattle.ror_show_run.proofs.Showing.{decided_page}

pub decided_chore : (asked : Asked) → IsDecided (chore_of asked).course
decided_chore (OfReport page words) = decided_page (page_of page words.form) words
decided_chore (OfGroup words) = decided_group_page words
decided_chore (OfFiles words) = decided_sheet (names_in words)
decided_chore (OfCheck words) = decided_check_why words
decided_chore (OfSpreadsheet words) = decided_import words
