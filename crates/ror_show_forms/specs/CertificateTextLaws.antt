-- The laws of certificates and their texts.
use Rattle.std.specs.Prelude.{◌≡◌, ◌↔◌, ℕ, ◌+◌, ◌<◌, ◌^◌, false, List, ◌++◌, length, Ok, Err, codes}
use Rattle.std.specs.Str.{IsUtf8}
use Rattle.ror_text.specs.Cursor.{Cursor}
use Rattle.ror_table.specs.Table.{DecisionTable, IsTable}
use Rattle.ror_proof.specs.declared.read.ProofFault.{ProofFault}
use Rattle.ror_proof.specs.Reading.{begins_part}
use Rattle.ror_show_forms.specs.declared.certificate.Certificate.{Certificate}
use Rattle.ror_show_forms.specs.CertificateText.{certificate_text, IsPrintableCertificate, IsCertificatesText}
use Rattle.ror_show_forms.specs.Reading.{certificate_at}
use Rattle.ror_show_forms.specs.Faults.{IsFaultOfCertificate}

-- from the cursor on stands the text of a certificate that has one, and no part of its last answer follows
pub record IsCertificateText (t : DecisionTable) (c : Cursor) (x : Certificate) (after : Cursor) : Type 0 where
  pub text : c.rest ≡ certificate_text t x ++ after.rest
  pub place : after.place ≡ c.place + length (certificate_text t x)
  pub printable : IsPrintableCertificate t x
  pub no_further_part : begins_part after.rest ≡ false

-- a certificate is read exactly where its text stands
abbrev pub CertificatesAreTheirTexts : Type 0
CertificatesAreTheirTexts = (t : DecisionTable) (c : Cursor) (x : Certificate) (after : Cursor) → IsTable t
    → (certificate_at t c ≡ Ok (x, after)) ↔ IsCertificateText t c x after

-- each text begins with the word `reduct`
abbrev pub CertificatesBeginWithReduct : Type 0
CertificatesBeginWithReduct = (t : DecisionTable) (x : Certificate)
    → (more : List ℕ) × (certificate_text t x ≡ codes "reduct " ++ more)

abbrev pub CertificatesAreUtf8 : Type 0
CertificatesAreUtf8 = (t : DecisionTable) (x : Certificate) → IsTable t → IsPrintableCertificate t x
    → IsUtf8 (certificate_text t x)

-- bytes are the text of one list of certificates
abbrev pub TextsHaveOneList : Type 0
TextsHaveOneList = (t : DecisionTable) (bytes : List ℕ) (xs ys : List Certificate) → IsTable t
    → IsCertificatesText t bytes xs → IsCertificatesText t bytes ys → xs ≡ ys

-- and UTF-8, where the number of certificates is a number of reports
abbrev pub TextsAreUtf8 : Type 0
TextsAreUtf8 = (t : DecisionTable) (bytes : List ℕ) (xs : List Certificate) → IsTable t
    → IsCertificatesText t bytes xs → length xs < 2 ^ 32 → IsUtf8 bytes

-- the fault that is given is that of the first faulty word of the first faulty line
abbrev pub CertificatesFailFirst : Type 0
CertificatesFailFirst = (t : DecisionTable) (c : Cursor) (fault : ProofFault) → IsTable t
    → (certificate_at t c ≡ Err fault) ↔ IsFaultOfCertificate t c fault
