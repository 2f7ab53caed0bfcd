-- What is left of a report behind an entry, and that what is rejected is not proved.
use Rattle.std.proofs.Common.{◌≡◌, ℕ, ◌+◌, ◌<◌, true, List, [], ◌∷◌, ◌++◌, length, drop, Ok, refl, sym, ap, ◌∙◌, subst, append_assoc, arith}
use Rattle.std.specs.List.{AllByRecursion, flat_map}
use Rattle.ror_text.specs.Cursor.{Cursor, cursor_at}
use Rattle.ror_report.specs.Reading.{begins_end}
use Rattle.ror_report.specs.Text.{end_text}
use Rattle.ror_bench.specs.declared.report.Accepted.{Accepted}
use Rattle.ror_bench.specs.declared.report.Rejection.{Rejection}
use Rattle.ror_bench.specs.declared.report.Reason.{Reason}
use Rattle.ror_bench.specs.Steps.{with_passed}
use Rattle.ror_bench.proofs.ReportProofs.{sums, same_accepted, end_begins_end, end_read, one_read}
use Rattle.ror_entries.specs.Kind.{Kind, IsKind}
use Rattle.ror_entries.specs.Reports.{EachAt, accepted_of, IsProvedEntries, RejectsNext, RejectsEnd, IsRejectedFrom, IsRejectedEntries, end_misread, ends_early, entry_misread, refused, miscounted, one_too_many, at_entry, at_end, later}
use Rattle.ror_entries.specs.Steps.{IsRest}

-- ---- numbers

-- the numbers of an entry and of those after it
accepted_more : {E : Type 0} (kind : Kind E) (e : E) (es : List E) (x : Accepted) → x ≡ accepted_of kind es → with_passed x (kind.passed e) ≡ accepted_of kind (e ∷ es)
accepted_more kind e es x is =
    let here : with_passed x (kind.passed e) ≡ with_passed (accepted_of kind es) (kind.passed e) = ap (λ (y : Accepted). with_passed y (kind.passed e)) is in
    here ∙ same_accepted (with_passed (accepted_of kind es) (kind.passed e)) (accepted_of kind (e ∷ es))
    (let s = sums (λ x. (kind.passed x).answers) e es in omega (arith, s))
    (let s = sums (λ x. (kind.passed x).wide) e es in omega (arith, s))

-- ---- what is left

module _ {E : Type 0} (kind : Kind E) (lawful : IsKind kind) where
  -- an entry that is proved at its place, and what is left behind it
  pub rest_with : (place : ℕ) (bytes after : List ℕ) (e : E) (x : Accepted) → bytes ≡ kind.text e ++ after → kind.IsPrintable e → kind.IsProved place e → IsRest kind (place + 1) after x → IsRest kind place bytes (with_passed x (kind.passed e))
  rest_with place bytes after e x text printable proved rest = record {
    entries = e ∷ rest.entries;
    all_due = let due = rest.all_due in omega arith;
    text = text ∙ ap (λ (l : List ℕ). kind.text e ++ l) rest.text ∙ sym (append_assoc (kind.text e) (flat_map kind.text rest.entries) (end_text kind.count));
    printable = (printable, rest.printable);
    proved = (proved, rest.proved);
    counted = accepted_more kind e rest.entries x rest.counted;
  }

  -- what is left may follow an entry
  pub rest_follows : (n : ℕ) (e : E) (es : List E) → kind.IsPrintable e → AllByRecursion kind.IsPrintable es → kind.MayFollow e (flat_map kind.text es ++ end_text n)
  rest_follows n e [] has printable = lawful.end_follows e n has
  rest_follows n e (next ∷ es) has printable =
      subst (kind.MayFollow e) (sym (append_assoc (kind.text next) (flat_map kind.text es) (end_text n))) (lawful.entry_follows e next (flat_map kind.text es ++ end_text n) has printable.0)

  -- the first entry of what is left
  pub record HasFirst (place : ℕ) (bytes : List ℕ) : Type 0 where
    pub entry : E
    pub after : List ℕ
    pub accepted : Accepted
    pub text : bytes ≡ kind.text entry ++ after
    pub follows : kind.MayFollow entry after
    pub printable : kind.IsPrintable entry
    pub proved : kind.IsProved place entry
    pub rest : IsRest kind (place + 1) after accepted

  first_of_entries : (place : ℕ) (bytes : List ℕ) (es : List E) → place < kind.count → place + length es ≡ kind.count → bytes ≡ flat_map kind.text es ++ end_text kind.count → AllByRecursion kind.IsPrintable es → EachAt kind.IsProved place es → HasFirst place bytes
  first_of_entries place bytes [] within due text printable proved = absurd (omega arith)
  first_of_entries place bytes (e ∷ es) within due text printable proved = record {
    entry = e;
    after = flat_map kind.text es ++ end_text kind.count;
    accepted = accepted_of kind es;
    text = text ∙ append_assoc (kind.text e) (flat_map kind.text es) (end_text kind.count);
    follows = rest_follows kind.count e es printable.0 printable.1;
    printable = printable.0;
    proved = proved.0;
    rest = record { entries = es; all_due = omega arith; text = refl; printable = printable.1; proved = proved.1; counted = refl };
  }

  first_of_rest : (place : ℕ) (bytes : List ℕ) (x : Accepted) → place < kind.count → IsRest kind place bytes x → HasFirst place bytes
  first_of_rest place bytes x within rest = first_of_entries place bytes rest.entries within rest.all_due rest.text rest.printable rest.proved

  -- where no entry is due any more, the last line is
  last_of_entries : (place : ℕ) (bytes : List ℕ) (es : List E) → place ≡ kind.count → place + length es ≡ kind.count → bytes ≡ flat_map kind.text es ++ end_text kind.count → bytes ≡ end_text kind.count
  last_of_entries place bytes [] over due text = text
  last_of_entries place bytes (e ∷ es) over due text = absurd (omega arith)

  pub no_rest : (place : ℕ) (bytes : List ℕ) → place ≡ kind.count → bytes ≡ end_text kind.count → IsRest kind place bytes (record { answers = 0; wide = 0 })
  no_rest place bytes over text = record { entries = []; all_due = omega arith; text = text; printable = tt; proved = tt; counted = refl }

  -- ---- what is rejected is not proved

  -- the entry that a rest begins with is the one that is read
  first_read : (place : ℕ) (bytes : List ℕ) (from : ℕ) → (first : HasFirst place (drop from bytes)) → kind.reads (cursor_at bytes from) ≡ Ok (first.entry, record { place = from + length (kind.text first.entry); rest = first.after })
  first_read place bytes from first =
      let after : Cursor = record { place = from + length (kind.text first.entry); rest = first.after } in
      (lawful.read_iff_text (cursor_at bytes from) first.entry after).1 (record { text = first.text; place = refl; printable = first.printable; follows = first.follows })

  no_end_first : (place : ℕ) (bytes : List ℕ) → HasFirst place bytes → begins_end bytes ≡ true → ⊥
  no_end_first place bytes first begins =
      absurd (let none = lawful.begins_no_end first.entry first.after first.printable in let is = ap begins_end first.text in let both = sym begins ∙ is ∙ none in cc)

  next_not_first : (bytes : List ℕ) (place from : ℕ) (reason : Reason) → HasFirst place (drop from bytes) → RejectsNext kind bytes place from reason → ⊥
  next_not_first bytes place from reason first (end_misread fault begins read is) = no_end_first place (drop from bytes) first begins
  next_not_first bytes place from reason first (ends_early n begins read is) = no_end_first place (drop from bytes) first begins
  next_not_first bytes place from reason first (entry_misread fault no_end read is) =
      absurd (let both = sym read ∙ first_read place bytes from first in cc)
  next_not_first bytes place from reason first (refused e after no_end read refuses) =
      let same = one_read (kind.reads (cursor_at bytes from)) (e, cursor_at bytes after) (first.entry, record { place = from + length (kind.text first.entry); rest = first.after }) read (first_read place bytes from first) in
      let entry : first.entry ≡ e = ap (λ (p : E × Cursor). p.0) same in
      lawful.proved_not_refused place e reason (subst (kind.IsProved place) entry first.proved) refuses

  end_not_last : (bytes : List ℕ) (from : ℕ) (reason : Reason) → drop from bytes ≡ end_text kind.count → RejectsEnd kind bytes from reason → ⊥
  end_not_last bytes from reason text (end_misread fault begins read is) = absurd (let both = sym read ∙ end_read bytes from kind.count lawful.few text in cc)
  end_not_last bytes from reason text (miscounted n begins read other is) = other (let both = sym read ∙ end_read bytes from kind.count lawful.few text in cc)
  end_not_last bytes from reason text (entry_misread fault no_end read is) = absurd (let both = sym no_end ∙ end_begins_end (drop from bytes) kind.count text in cc)
  end_not_last bytes from reason text (one_too_many e after no_end read is) = absurd (let both = sym no_end ∙ end_begins_end (drop from bytes) kind.count text in cc)

  from_not_rest : (bytes : List ℕ) (rejection : Rejection) (place from : ℕ) → IsRejectedFrom kind bytes rejection place from → (x : Accepted) → IsRest kind place (drop from bytes) x → ⊥
  from_not_rest bytes rejection _ _ (at_entry place from within number rejects) x rest =
      next_not_first bytes place from rejection.reason (first_of_rest place (drop from bytes) x within rest) rejects
  from_not_rest bytes rejection _ _ (at_end place from over number rejects) x rest =
      end_not_last bytes from rejection.reason (last_of_entries place (drop from bytes) rest.entries over rest.all_due rest.text) rejects
  from_not_rest bytes rejection _ _ (later place from e after within no_end read proved more) x rest =
      let first = first_of_rest place (drop from bytes) x within rest in
      let same = one_read (kind.reads (cursor_at bytes from)) (e, cursor_at bytes after) (first.entry, record { place = from + length (kind.text first.entry); rest = first.after }) read (first_read place bytes from first) in
      let left : first.after ≡ drop after bytes = ap (λ (p : E × Cursor). p.1.rest) same in
      from_not_rest bytes rejection (place + 1) after more first.accepted (subst (λ (l : List ℕ). IsRest kind (place + 1) l first.accepted) left first.rest)

  -- all entries are left at first
  all_left : (bytes : List ℕ) (x : Accepted) → IsProvedEntries kind bytes x → IsRest kind 0 bytes x
  all_left bytes x report = record {
    entries = report.entries;
    all_due = let due = report.all_due in omega arith;
    text = report.text ∙ ap (λ n. flat_map kind.text report.entries ++ end_text n) report.all_due;
    printable = report.printable;
    proved = report.proved;
    counted = report.counted;
  }

  pub proved_all : (bytes : List ℕ) (x : Accepted) → IsRest kind 0 bytes x → IsProvedEntries kind bytes x
  proved_all bytes x rest =
      let due : length rest.entries ≡ kind.count = let due = rest.all_due in omega arith in
      record {
        entries = rest.entries;
        all_due = due;
        text = rest.text ∙ ap (λ n. flat_map kind.text rest.entries ++ end_text n) (sym due);
        printable = rest.printable;
        proved = rest.proved;
        counted = rest.counted;
      }

  pub rejected_not_proved : (bytes : List ℕ) (start : ℕ) (rejection : Rejection) (x : Accepted) → IsRejectedEntries kind bytes start rejection → IsProvedEntries kind (drop start bytes) x → ⊥
  rejected_not_proved bytes start rejection x rejects report = from_not_rest bytes rejection 0 start rejects x (all_left (drop start bytes) x report)
