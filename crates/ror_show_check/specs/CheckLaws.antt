-- Laws of the check of certificates.
use Rattle.std.specs.Prelude.{◌≡◌, ℕ, List, Option, Some, IfSome, length, ◌≤◌}
use Rattle.ror_table.specs.Table.{IsTable}
use Rattle.ror_value.specs.declared.input.Input.{Input}
use Rattle.ror_value.specs.Over.{IsLawfulIn}
use Rattle.ror_session.specs.declared.session.Session.{Session}
use Rattle.ror_session.specs.Sound.{IsSound}
use Rattle.ror_bench.specs.declared.kept.KeptLine.{KeptLine}
use Rattle.ror_bench.specs.declared.report.TheConstants.{MOST_REPORT_BYTES}
use Rattle.ror_show_words.specs.declared.table.Page.TheVariants.{Reasons}
use Rattle.ror_show_words.specs.declared.words.Form.TheVariants.{Certificates}
use Rattle.ror_frame.specs.declared.stop.Refusal.{Refusal}
use Rattle.ror_show_ground.specs.Grounds.{ground_in}
use Rattle.ror_show_forms.specs.CertificatePages.{certificates_in}
use Rattle.ror_show_pages.specs.Bodies.{IsCertificatesPage}
use Rattle.ror_show_check.specs.Checking.{ProvesCertificates, RefusesEither}
use Rattle.ror_show_pages.specs.Reads.{ReadsKept}
use Rattle.ror_show_pages.specs.Pages.{page_of, keeps}
use Rattle.ror_show_check.specs.Truth.{AreTrueOf}

-- what is accepted over a lawful input is true
abbrev pub AcceptedAreTrue : Type 0
AcceptedAreTrue = (i : Input) (s : Session) (text : Option (List ℕ)) (report : List ℕ) (count : ℕ)
    → IsLawfulIn i.table i.opening → ProvesCertificates i s text report count → AreTrueOf i s text report count

-- the text isn't longer than any that is read
abbrev pub IsShort : Option (List ℕ) → Type 0
IsShort text = IfSome text (λ bytes. length bytes ≤ MOST_REPORT_BYTES)

-- a report and certificates are accepted with one count, and refused for one thing
pub record OneEnding : Type 0 where
  pub count : (i : Input) (s : Session) (text : Option (List ℕ)) (report : List ℕ) (m n : ℕ) → IsTable i.table
      → IsShort text → ProvesCertificates i s text report m → ProvesCertificates i s text report n → m ≡ n
  pub refusal : (i : Input) (s : Session) (text : Option (List ℕ)) (report : List ℕ) (q r : Refusal)
      → IsTable i.table → IsShort text → RefusesEither i s text report q → RefusesEither i s text report r → q ≡ r

-- and never both
abbrev pub AcceptedAreNotRefused : Type 0
AcceptedAreNotRefused = (i : Input) (s : Session) (text : Option (List ℕ)) (report : List ℕ) (count : ℕ)
    (r : Refusal) → IsTable i.table → IsShort text → ProvesCertificates i s text report count
    → RefusesEither i s text report r → ⊥

-- What is written of the lines of a report that are meant is accepted with this report, where it isn't too long: of as many certificates
-- as there are.
abbrev pub WrittenAreAccepted : Type 0
WrittenAreAccepted = (line : Option ℕ) (desk : Option (List ℕ)) (i : Input) (s : Session) (report : List ℕ) (kept : List KeptLine)
    (text : List ℕ) → IsTable i.table → IsLawfulIn i.table i.opening → IsSound s
    → ReadsKept (keeps (page_of Reasons Certificates) line desk s) i s report kept
    → (page : IsCertificatesPage (ground_in i s kept) text) → length text ≤ MOST_REPORT_BYTES
    → ProvesCertificates i s (Some text) report (length (certificates_in (ground_in i s kept) page.0))
