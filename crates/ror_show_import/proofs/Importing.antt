-- The bytes of a spreadsheet lead to one thing.
use Rattle.std.proofs.Common.{◌≡◌, ℕ, ◌<◌, List, length, Err, refl}
use Rattle.std.proofs.lemmas.Bool.{lt-ltb}
use Rattle.ror_text.specs.declared.lines.TheConstants.{MOST_TEXT_BYTES}
use Rattle.ror_table.specs.declared.fault.TableKind.TheVariants as kinds
use Rattle.ror_frame.specs.declared.stop.Refusal.{Refusal}
use Rattle.ror_frame.specs.declared.stop.Refusal.TheVariants as refusals
use Rattle.ror_frame.specs.Courses.{IsTooLong}
use Rattle.ror_frame.proofs.CourseLemmas.{IsDecided}
use Rattle.ror_show_cells.specs.declared.fault.SheetKind.TheVariants.{TooLong}
use Rattle.ror_show_cells.specs.Faults.{whole_fault}
use Rattle.ror_show_spreadsheet.specs.Import.{imported_of}
use Rattle.ror_show_spreadsheet.specs.Options.{Named}
use Rattle.ror_show_cells.specs.Sheet.{sheet_of}
use Rattle.ror_show_words.specs.Words.{ImportWords}
use Rattle.ror_show_import.specs.Importing.{RefusesSpreadsheet, import_chore}

long : (o : Named) (bytes : List ℕ) → MOST_TEXT_BYTES < length bytes → imported_of o bytes ≡ Err (whole_fault TooLong)
unfolding imported_of sheet_of
long o bytes more = rw (lt-ltb MOST_TEXT_BYTES (length bytes) more) refl

pub long_sheet : (o : Named) (bytes : List ℕ) (r : Refusal) → IsTooLong MOST_TEXT_BYTES (refusals.BadTable (record { kind = kinds.TooLong; line = 0 })) bytes r → RefusesSpreadsheet o bytes r
long_sheet o bytes r why = (whole_fault TooLong, why.0, long o bytes why.1)

one_refusal : (o : Named) (bytes : List ℕ) (q r : Refusal) → RefusesSpreadsheet o bytes q → RefusesSpreadsheet o bytes r → q ≡ r
one_refusal o bytes q r a b = let m = a.1 in let n = b.1 in let x = a.2 in let y = b.2 in let same : a.0 ≡ b.0 = cc in cc

pub decided_import : (words : ImportWords) → IsDecided (import_chore words).course
decided_import words = λ bytes. ((λ x y p q. cc), (λ q r a b. one_refusal _ bytes q r a b), (λ x r p a. let q = a.2 in cc), λ x read. tt)
