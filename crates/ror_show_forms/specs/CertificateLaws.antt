-- Laws of certificates over kept lines.
use Rattle.std.specs.Prelude.{◌≡◌, ◌↔◌, ℕ, ◌+◌, ◌<◌, ◌≤◌, ◌^◌, ◌-◌, List, [], ◌∷◌, length, Some, Ok}
use Rattle.std.specs.List.{AllByRecursion}
use Rattle.ror_statement.specs.declared.statement.Numbered.{Numbered}
use Rattle.ror_statement.specs.Statements.{numbers_in}
use Rattle.ror_table.specs.Table.{DecisionTable, IsTable}
use Rattle.ror_reason.specs.Reducts.{IsReduct}
use Rattle.ror_show_forms.specs.declared.certificate.Certificate.{Certificate}
use Rattle.ror_show_forms.specs.CertificatePages.{certificates_in, certificates_page}
use Rattle.ror_show_forms.specs.CertificateText.{IsCertificatesText, AreInOrder}
use Rattle.ror_bench.specs.declared.kept.KeptLine.{KeptLine}
use Rattle.ror_bench.specs.declared.report.Rejection.{Rejection}
use Rattle.ror_show_ground.specs.Ready.{IsReady}
use Rattle.ror_show_forms.specs.Listing.{certificates_of}
use Rattle.ror_show_forms.specs.Answered.{kept_line, IsProvedCertificate, IsFirstUnproved}
use Rattle.ror_show_ground.specs.Grounds.{Ground, IsJudged}
use Rattle.ror_show_find_reasons.specs.Lines.{AreLinesFound}
use Rattle.ror_show_find_reasons.specs.declared.lines.Meant.TheVariants.{Carried}
use Rattle.ror_show_find_reasons.specs.declared.lines.LineFound.{LineFound}

-- bytes are read as certificates exactly where they are the text of these
abbrev pub TextsAreRead : Type 0
TextsAreRead = (t : DecisionTable) (bytes : List ℕ) (xs : List Certificate) → IsTable t → length bytes < 2 ^ 32 - 1
    → (certificates_of t bytes ≡ Ok xs) ↔ IsCertificatesText t bytes xs

-- what is proved is a reduct of the answer that the certificate names, over what stood at its line
abbrev pub ProvedAreReducts : Type 0
ProvedAreReducts = (t : DecisionTable) (kept : List KeptLine) (x : Certificate) → AllByRecursion (IsReady t) kept
    → (p : IsProvedCertificate t kept x)
    → IsReduct t p.list p.answer.question p.proved.conclusion x.reduct.numbers

-- certificates are rejected for one thing, and not where all are proved
abbrev pub OneFirstUnproved : Type 0
OneFirstUnproved = (t : DecisionTable) (kept : List KeptLine) (xs : List Certificate) (one other : Rejection)
    → IsFirstUnproved t kept xs one → IsFirstUnproved t kept xs other → one ≡ other

abbrev pub ProvedAreNotRejected : Type 0
ProvedAreNotRejected = (t : DecisionTable) (kept : List KeptLine) (xs : List Certificate) (rejection : Rejection)
    → AllByRecursion (IsProvedCertificate t kept) xs → IsFirstUnproved t kept xs rejection → ⊥

-- each line has a greater number than the one before it, and the first at least this
abbrev pub RiseFrom : ℕ → List KeptLine → Type 0
RiseFrom low [] = Unit {0}
RiseFrom low (x ∷ xs) = (low ≤ x.block.line) × RiseFrom (x.block.line + 1) xs

-- Over lines whose numbers rise, the certificates of what is found stand in order, and each is proved.
abbrev pub FoundAreProved : Type 0
FoundAreProved = (g : Ground) (fs : List LineFound) → IsJudged g → RiseFrom 0 g.kept → AreLinesFound Carried g fs
    → AreInOrder (certificates_in g fs) × AllByRecursion (IsProvedCertificate g.table g.kept) (certificates_in g fs)

-- ---- what is written is accepted

-- the numbers of what stood at a line, and its own, are below 2^32
pub record HasSmallNumbers (x : KeptLine) : Type 0 where
  pub line : x.block.line < 2 ^ 32
  pub standing : (list : List Numbered) → x.standing ≡ Some list → AllByRecursion (λ n. n < 2 ^ 32) (numbers_in list)

-- each of these lines is the one of its number among more
abbrev pub AreAmong : List KeptLine → List KeptLine → Type 0
AreAmong more kept = AllByRecursion (λ x. kept_line more x.block.line ≡ Some x) kept

-- The text of what is found, where it isn't too long, is read as these certificates, and each is proved over more lines among which the
-- kept ones are.
abbrev pub WrittenAreAccepted : Type 0
WrittenAreAccepted = (g : Ground) (more : List KeptLine) (fs : List LineFound) → IsTable g.table → IsJudged g
    → AllByRecursion HasSmallNumbers g.kept → RiseFrom 0 g.kept → AreAmong more g.kept → AreLinesFound Carried g fs
    → length (certificates_page g fs) < 2 ^ 32 - 1
    → (certificates_of g.table (certificates_page g fs) ≡ Ok (certificates_in g fs))
    × AllByRecursion (IsProvedCertificate g.table more) (certificates_in g fs)
