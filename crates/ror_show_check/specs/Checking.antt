-- What a check of certificates does: it accepts those that are proved for a session's report over a table, and rejects any other text.
use Rattle.std.specs.Prelude.{◌≡◌, ℕ, false, List, [], ◌∷◌, ◌++◌, length, Option, Some, None, Err, codes, decimal}
use Rattle.std.specs.List.{AllByRecursion}
use Rattle.ror_table.specs.Table.{DecisionTable}
use Rattle.ror_value.specs.declared.input.Input.{Input}
use Rattle.ror_session.specs.declared.session.Session.{Session}
use Rattle.ror_bench.specs.declared.kept.Keep.{Keep}
use Rattle.ror_bench.specs.declared.kept.KeptLine.{KeptLine}
use Rattle.ror_bench.specs.declared.report.Reason.TheVariants.{TooLong}
use Rattle.ror_bench.specs.declared.report.Rejection.{Rejection}
use Rattle.ror_bench.specs.declared.report.ReportError.{ReportError}
use Rattle.ror_bench.specs.declared.report.ReportError.TheVariants as report_errors
use Rattle.ror_show_forms.specs.declared.certificate.Certificate.{Certificate}
use Rattle.ror_show_forms.specs.CertificateText.{IsCertificatesText}
use Rattle.ror_show_forms.specs.Listing.{certificates_of}
use Rattle.ror_show_forms.specs.Answered.{IsProvedCertificate, IsFirstUnproved}
use Rattle.ror_show_words.specs.declared.table.Page.TheVariants.{Reasons}
use Rattle.ror_show_words.specs.declared.words.Form.TheVariants.{Certificates}
use Rattle.ror_show_words.specs.Words.{CheckWords}
use Rattle.ror_words.specs.Words.{InputNames}
use Rattle.ror_frame.specs.declared.stop.Refusal.{Refusal}
use Rattle.ror_frame.specs.declared.stop.Refusal.TheVariants as refusals
use Rattle.ror_frame.specs.declared.stop.Stop.{Stop}
use Rattle.ror_frame.specs.declared.stop.Stop.TheVariants as stops
use Rattle.ror_frame.specs.Courses.{Output, Course, finish, fetch, Chore}
use Rattle.ror_frame.specs.Inputs.{line_output, over_inputs}
use Rattle.ror_work.specs.Checking.{RejectsReport}
use Rattle.ror_show_pages.specs.Reads.{ReadsKept}
use Rattle.ror_show_pages.specs.Pages.{page_of, keeps}
use Rattle.ror_show_check.specs.Reading.{text_of}
use Rattle.ror_show_check.specs.Truth.{AreTrueOf}

-- all lines that ask are meant, at each desk
abbrev pub all_lines : Session → List Keep
all_lines s = keeps (page_of Reasons Certificates) None None s

-- ---- over kept lines

-- The text is that of so many certificates, and each is proved: it names one of these lines and an answer to it, and its reduct is
-- proved of that answer over what stood at the line.
pub record ProvesOver (t : DecisionTable) (kept : List KeptLine) (text : Option (List ℕ)) (count : ℕ) : Type 0 where
  pub bytes : List ℕ
  pub given : text ≡ Some bytes
  pub certificates : List Certificate
  pub is_text : IsCertificatesText t bytes certificates
  pub proved : AllByRecursion (IsProvedCertificate t kept) certificates
  pub counted : count ≡ length certificates

-- it is too long, or no text of certificates, or the first one that isn't proved is refused
pub data RejectsOver (t : DecisionTable) (kept : List KeptLine) (text : Option (List ℕ)) (rejection : Rejection) : Type 0 where
  too_long : text ≡ None → rejection ≡ record { block = 0; reason = TooLong } → RejectsOver t kept text rejection
  misread : (bytes : List ℕ) → text ≡ Some bytes → certificates_of t bytes ≡ Err rejection
      → RejectsOver t kept text rejection
  unproved : (bytes : List ℕ) (certificates : List Certificate) → text ≡ Some bytes
      → IsCertificatesText t bytes certificates → IsFirstUnproved t kept certificates rejection
      → RejectsOver t kept text rejection

-- ---- with a report

-- the report is proved for table and session, and the certificates are over its lines that ask
pub record ProvesCertificates (i : Input) (s : Session) (text : Option (List ℕ)) (report : List ℕ) (count : ℕ) : Type 0 where
  pub kept : List KeptLine
  pub reads : ReadsKept (all_lines s) i s report kept
  pub proves : ProvesOver i.table kept text count

-- the report is rejected, as by a check of it; or it is proved, and the certificates are rejected over its lines that ask
pub data RefusesEither (i : Input) (s : Session) (text : Option (List ℕ)) (report : List ℕ) (r : Refusal) : Type 0 where
  of_report : (rejection : Rejection) → r ≡ refusals.Rejected rejection → RejectsReport i s report rejection
      → RefusesEither i s text report r
  of_certificates : (rejection : Rejection) (kept : List KeptLine) → r ≡ refusals.Uncertified rejection
      → ReadsKept (all_lines s) i s report kept → RejectsOver i.table kept text rejection → RefusesEither i s text report r

-- the stop of certificates that are rejected
abbrev pub stop_at_certificates : ReportError → Stop
stop_at_certificates (report_errors.Rejected rejection) = stops.At (refusals.Uncertified rejection)
stop_at_certificates report_errors.Memory = stops.Memory

-- ---- the course

-- `accepted N`
abbrev pub accepted_line : ℕ → List ℕ
accepted_line count = codes "accepted " ++ (decimal count ++ 10 ∷ [])

-- where the line is written, each certificate is true: of so many
abbrev pub accepted_output : Input → Session → Option (List ℕ) → List ℕ → ℕ → Output
accepted_output i s text report count = line_output false (accepted_line count) (AreTrueOf i s text report count)

-- The report is fetched last, as what is said of the certificates goes by it. Whether it is rejected is said first.
abbrev pub report_course : CheckWords → Input → Session → Option (List ℕ) → Course
report_course words i s text = fetch ℕ words.report (ProvesCertificates i s text) (RefusesEither i s text)
    (λ report count. finish (accepted_output i s text report count))

-- the bytes of certificates are fetched before that, of whatever length
abbrev pub text_course : CheckWords → Input → Session → Course
text_course words i s = fetch (Option (List ℕ)) words.certificates (λ bytes text. text ≡ text_of bytes) (λ bytes r. ⊥)
    (λ bytes text. report_course words i s text)

abbrev pub names_in : CheckWords → InputNames
names_in words = record { table = words.table; session = words.session; best_first = words.best_first }

abbrev pub check_why_chore : CheckWords → Chore
check_why_chore words = record {
  files = words.table ∷ words.session ∷ words.certificates ∷ words.report ∷ [];
  course = over_inputs (names_in words) (text_course words);
}
