-- The check of certificates: what is accepted is proved, what is rejected is for one thing, and files lead to one ending.
use Rattle.std.proofs.Common.{◌≡◌, ◌⊎◌, inl, inr, ℕ, ◌<◌, ◌≤◌, leb, true, false, List, length, Option, Some, None, Result, Ok, Err, refl, sym, ap, subst, ◌∙◌, arith}
use Rattle.std.proofs.lemmas.Bool.Decides.{leb_tells}
use Rattle.std.specs.Prelude.{IfSome}
use Rattle.std.specs.List.{AllByRecursion}
use Rattle.ror_table.specs.Table.{DecisionTable, IsTable}
use Rattle.ror_value.specs.declared.input.Input.{Input}
use Rattle.ror_xmcda.proofs.TableLemmas.{input_table}
use Rattle.ror_session.specs.declared.session.Session.{Session}
use Rattle.ror_bench.specs.declared.kept.KeptLine.{KeptLine}
use Rattle.ror_bench.specs.declared.report.Rejection.{Rejection}
use Rattle.ror_bench.specs.declared.report.Reason.TheVariants.{TooLong}
use Rattle.ror_bench.specs.declared.report.ReportError.{ReportError}
use Rattle.ror_bench.specs.declared.report.ReportError.TheVariants as report_errors
use Rattle.ror_bench.specs.declared.report.TheConstants.{MOST_REPORT_BYTES}
use Rattle.ror_bench.specs.Reports.{IfRejected, HoldsNoMemory}
use Rattle.ror_show_forms.specs.declared.certificate.Certificate.{Certificate}
use Rattle.ror_show_forms.specs.CertificateText.{IsCertificatesText}
use Rattle.ror_show_forms.proofs.ListLemmas.{one_list}
use Rattle.ror_show_forms.specs.Listing.{certificates_of, rejection_of}
use Rattle.ror_show_forms.specs.Answered.{IsProvedCertificate, IsFirstUnproved}
use Rattle.ror_show_forms.proofs.ListTexts.{text_of_read, read_of_text}
use Rattle.ror_show_forms.proofs.OneFault.{one_first_unproved, proved_not_rejected}
use Rattle.ror_show_words.specs.Words.{CheckWords}
use Rattle.ror_frame.specs.declared.stop.Refusal.{Refusal}
use Rattle.ror_frame.specs.declared.stop.Refusal.TheVariants as refusals
use Rattle.ror_frame.specs.declared.stop.Stop.{Stop}
use Rattle.ror_frame.specs.declared.stop.Stop.TheVariants as stops
use Rattle.ror_frame.specs.Stops.{last}
use Rattle.ror_frame.specs.Courses.{IsTooLong, ReadAs}
use Rattle.ror_frame.specs.Inputs.{bench_for}
use Rattle.ror_frame.proofs.CourseLemmas.{IsDecided}
use Rattle.ror_frame.proofs.InputLemmas.{decided_inputs}
use Rattle.ror_work.specs.Checking.{RejectsReport, RefusesReport}
use Rattle.ror_work.proofs.Judging.{long_report, rejection_or_proof, one_refusal}
use Rattle.ror_show_check.specs.CheckLaws.{IsShort}
use Rattle.ror_show_check.specs.Checking.{all_lines, ProvesOver, RejectsOver, too_long, misread, unproved, ProvesCertificates, of_report, of_certificates, RefusesEither, stop_at_certificates, names_in, text_course, check_why_chore}
use Rattle.ror_show_pages.specs.Reads.{ReadsKept}
use Rattle.ror_show_check.specs.Reading.{text_of}
use Rattle.ror_show_pages.proofs.OnePage.{one_kept}

-- ---- over kept lines

one_some : {A : Type 0} (o : Option A) (x y : A) → o ≡ Some x → o ≡ Some y → x ≡ y
one_some {A} o x y e f = (let both = sym e ∙ f in cc)

none_some : {A : Type 0} (o : Option A) (x : A) → o ≡ None → o ≡ Some x → ⊥
none_some {A} o x e f = absurd (let both = sym e ∙ f in cc)

ok_err : {A F : Type 0} (r : Result A F) (x : A) (f : F) → r ≡ Ok x → r ≡ Err f → ⊥
ok_err {A} {F} r x f e g = absurd (let both = sym e ∙ g in cc)

one_err : {A F : Type 0} (r : Result A F) (f g : F) → r ≡ Err f → r ≡ Err g → f ≡ g
one_err {A} {F} r f g e h = (let both = sym e ∙ h in cc)

short_of : (text : Option (List ℕ)) (bytes : List ℕ) → IsShort text → text ≡ Some bytes → length bytes ≤ MOST_REPORT_BYTES
short_of text bytes short is = subst IsShort is short

module _ (t : DecisionTable) (kept : List KeptLine) (text : Option (List ℕ)) (table : IsTable t) (short : IsShort text) where
  -- what is a text of certificates is read
  reads_so : (bytes : List ℕ) (xs : List Certificate) → text ≡ Some bytes → IsCertificatesText t bytes xs → certificates_of t bytes ≡ Ok xs
  reads_so bytes xs given is = let few = short_of text bytes short given in read_of_text t bytes xs table (omega (arith, few)) is

  same_text : (bytes other : List ℕ) (xs ys : List Certificate) → text ≡ Some bytes → text ≡ Some other → IsCertificatesText t bytes xs → IsCertificatesText t other ys → ys ≡ xs
  same_text bytes other xs ys given given' is is' =
      let same = one_some text other bytes given' given in
      one_list t bytes ys xs table (subst (λ (b : List ℕ). IsCertificatesText t b ys) same is') is

  pub one_count : (m n : ℕ) → ProvesOver t kept text m → ProvesOver t kept text n → m ≡ n
  one_count m n p q =
      let same = same_text p.bytes q.bytes p.certificates q.certificates p.given q.given p.is_text q.is_text in
      p.counted ∙ ap (λ (xs : List Certificate). length xs) (sym same) ∙ sym q.counted

  misread_only : (bytes other : List ℕ) (xs : List Certificate) (r : Rejection) → text ≡ Some bytes → text ≡ Some other → certificates_of t bytes ≡ Err r → IsCertificatesText t other xs → ⊥
  misread_only bytes other xs r given given' err is =
      let same = one_some text other bytes given' given in
      ok_err (certificates_of t bytes) xs r (reads_so bytes xs given (subst (λ (b : List ℕ). IsCertificatesText t b xs) same is)) err

  pub one_over : (p r : Rejection) → RejectsOver t kept text p → RejectsOver t kept text r → p ≡ r
  one_over p r (too_long none is) (too_long none' is') = is ∙ sym is'
  one_over p r (too_long none is) (misread bytes given err) = absurd (none_some text bytes none given)
  one_over p r (too_long none is) (unproved bytes xs given is_text first) = absurd (none_some text bytes none given)
  one_over p r (misread bytes given err) (too_long none is) = absurd (none_some text bytes none given)
  one_over p r (misread bytes given err) (misread other given' err') =
      let same = one_some text other bytes given' given in
      one_err (certificates_of t bytes) p r err (subst (λ (b : List ℕ). certificates_of t b ≡ Err r) same err')
  one_over p r (misread bytes given err) (unproved other xs given' is_text first) = absurd (misread_only bytes other xs p given given' err is_text)
  one_over p r (unproved bytes xs given is_text first) (too_long none is) = absurd (none_some text bytes none given)
  one_over p r (unproved bytes xs given is_text first) (misread other given' err) = absurd (misread_only other bytes xs r given' given err is_text)
  one_over p r (unproved bytes xs given is_text first) (unproved other ys given' is_text' first') =
      let same = same_text bytes other xs ys given given' is_text is_text' in
      one_first_unproved t kept xs p r first (subst (λ (zs : List Certificate). IsFirstUnproved t kept zs r) same first')

  pub not_both : (n : ℕ) (r : Rejection) → ProvesOver t kept text n → RejectsOver t kept text r → ⊥
  not_both n r p (too_long none is) = none_some text p.bytes none p.given
  not_both n r p (misread bytes given err) = misread_only bytes p.bytes p.certificates r given p.given err p.is_text
  not_both n r p (unproved bytes xs given is_text first) =
      let same = same_text bytes p.bytes xs p.certificates given p.given is_text p.is_text in
      proved_not_rejected t kept xs r (subst (AllByRecursion (IsProvedCertificate t kept)) same p.proved) first

-- ---- with a report

module _ (i : Input) (s : Session) (text : Option (List ℕ)) (report : List ℕ) (table : IsTable i.table) (short : IsShort text) where
  same_kept : (kept other : List KeptLine) → ReadsKept (all_lines s) i s report kept → ReadsKept (all_lines s) i s report other → other ≡ kept
  same_kept kept other reads reads' = one_kept (all_lines s) i s report other kept table reads' reads

  pub one_accepted : (m n : ℕ) → ProvesCertificates i s text report m → ProvesCertificates i s text report n → m ≡ n
  one_accepted m n p q =
      let same = same_kept p.kept q.kept p.reads q.reads in
      one_count i.table p.kept text table short m n p.proves (subst (λ (ks : List KeptLine). ProvesOver i.table ks text n) same q.proves)

  not_of_report : (kept : List KeptLine) (r : Rejection) → ReadsKept (all_lines s) i s report kept → RejectsReport i s report r → ⊥
  not_of_report kept r reads rejects = rejection_or_proof (bench_for i s) s.lines report r reads.accepted table rejects reads.within reads.report

  pub one_refused : (q r : Refusal) → RefusesEither i s text report q → RefusesEither i s text report r → q ≡ r
  one_refused q r (of_report p is a) (of_report o other b) = one_refusal i s report q r (p, is, a) (o, other, b)
  one_refused q r (of_report p is a) (of_certificates o kept other reads b) = absurd (not_of_report kept p reads a)
  one_refused q r (of_certificates p kept is reads a) (of_report o other b) = absurd (not_of_report kept o reads b)
  one_refused q r (of_certificates p kept is reads a) (of_certificates o more other again b) =
      let same = same_kept kept more reads again in
      let one = one_over i.table kept text table short p o a (subst (λ (ks : List KeptLine). RejectsOver i.table ks text o) same b) in
      is ∙ ap refusals.Uncertified one ∙ sym other

  pub not_refused : (n : ℕ) (r : Refusal) → ProvesCertificates i s text report n → RefusesEither i s text report r → ⊥
  not_refused n r p (of_report o is b) = not_of_report p.kept o p.reads b
  not_refused n r p (of_certificates o other is reads b) =
      let same = same_kept p.kept other p.reads reads in
      not_both i.table p.kept text table short n o p.proves (subst (λ (ks : List KeptLine). RejectsOver i.table ks text o) same b)

-- a text that was fetched isn't too long
pub fetched_short : (bytes : List ℕ) (text : Option (List ℕ)) → text ≡ text_of bytes → IsShort text
fetched_short bytes text is = subst IsShort (sym is) (by (leb_tells (length bytes) MOST_REPORT_BYTES))
  where
    by : ((leb (length bytes) MOST_REPORT_BYTES ≡ true) × (length bytes ≤ MOST_REPORT_BYTES)) ⊎ ((leb (length bytes) MOST_REPORT_BYTES ≡ false) × (MOST_REPORT_BYTES < length bytes)) → IsShort (text_of bytes)
    by (inl short) = rw short.0 short.1
    by (inr long) = rw long.0 tt

-- files lead to one count, or to one refusal
pub decided_check_why : (words : CheckWords) → IsDecided (check_why_chore words).course
decided_check_why words = decided_inputs (names_in words) (text_course words) (λ table i s read bytes.
    let is_table = input_table table words.best_first i read in (
      (λ x y p q. p ∙ sym q),
      (λ q r a b. absurd a),
      (λ x r p a. a),
      λ text is report.
          let short = fetched_short bytes text is in
          ((λ m n p q. one_accepted i s text report is_table short m n p q), (λ q r a b. one_refused i s text report is_table short q r a b), (λ n r p a. not_refused i s text report is_table short n r p a), λ n p. tt),
    ))

-- ---- steps of the check

pub too_long_report : (i : Input) (s : Session) (text : Option (List ℕ)) (bytes : List ℕ) (r : Refusal) → IsTooLong MOST_REPORT_BYTES (refusals.Rejected (record { block = 0; reason = TooLong })) bytes r → RefusesEither i s text bytes r
too_long_report i s text bytes r long = let refused = long_report i s bytes r long in of_report refused.0 refused.1 refused.2

-- a report that is refused is so with any certificates
pub refused_too : {A : Type 0} (Reads : List ℕ → A → Type 0) (i : Input) (s : Session) (text : Option (List ℕ)) (bytes : List ℕ) (kept : Result A Stop) (e : Stop) → kept ≡ Err e → ReadAs last Reads (RefusesReport i s) bytes kept → ReadAs last (ProvesCertificates i s text) (RefusesEither i s text) bytes (Err e)
refused_too {A} Reads i s text bytes kept e is read = by e (subst (ReadAs last Reads (RefusesReport i s) bytes) is read)
  where
    by : (e : Stop) → ReadAs last Reads (RefusesReport i s) bytes (Err e) → ReadAs last (ProvesCertificates i s text) (RefusesEither i s text) bytes (Err e)
    by (stops.At r) had = (had.0, had.1, of_report had.2.0 had.2.1 had.2.2)
    by stops.ReadFault had = absurd had
    by stops.WriteFault had = absurd had
    by stops.Memory had = tt

-- what is rejected over its lines is refused
pub rejected_over : (i : Input) (s : Session) (text : Option (List ℕ)) (bytes : List ℕ) (kept : List KeptLine) (error : ReportError) → ReadsKept (all_lines s) i s bytes kept → IfRejected (RejectsOver i.table kept text) error → HoldsNoMemory error → ReadAs last (ProvesCertificates i s text) (RefusesEither i s text) bytes (Err (stop_at_certificates error))
rejected_over i s text bytes kept (report_errors.Rejected rejection) reads why pure = (refl, pure, of_certificates rejection kept refl reads why)
rejected_over i s text bytes kept report_errors.Memory reads why pure = tt

pub proved_over : (i : Input) (s : Session) (text : Option (List ℕ)) (bytes : List ℕ) (kept : List KeptLine) (count : ℕ) → ReadsKept (all_lines s) i s bytes kept → ProvesOver i.table kept text count → ProvesCertificates i s text bytes count
proved_over i s text bytes kept count reads proves = record { kept = kept; reads = reads; proves = proves }

-- ---- what comes of the text over kept lines

module _ (t : DecisionTable) (kept : List KeptLine) (bytes : List ℕ) where
  pub misread_over : (error : ReportError) → IfSome (rejection_of error) (λ r. certificates_of t bytes ≡ Err r) → IfRejected (RejectsOver t kept (Some bytes)) error
  misread_over (report_errors.Rejected rejection) err = misread bytes refl err
  misread_over report_errors.Memory err = tt

  pub unproved_over : (xs : List Certificate) (error : ReportError) → certificates_of t bytes ≡ Ok xs → IfRejected (IsFirstUnproved t kept xs) error → IfRejected (RejectsOver t kept (Some bytes)) error
  unproved_over xs (report_errors.Rejected rejection) read first = unproved bytes xs refl (text_of_read t bytes xs read) first
  unproved_over xs report_errors.Memory read first = tt

  pub all_proved : (xs : List Certificate) (count : ℕ) → certificates_of t bytes ≡ Ok xs → AllByRecursion (IsProvedCertificate t kept) xs → count ≡ length xs → ProvesOver t kept (Some bytes) count
  all_proved xs count read proved counted = record { bytes = bytes; given = refl; certificates = xs; is_text = text_of_read t bytes xs read; proved = proved; counted = counted }
