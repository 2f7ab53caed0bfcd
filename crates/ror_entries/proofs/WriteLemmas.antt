-- Entries that are written one after another: what is written when one more is, and where it stops.
use Rattle.std.proofs.Common.{append-nil, ◌≡◌, ℕ, ◌+◌, ◌<◌, ◌≤◌, Bool, false, ◌||◌, List, [], ◌∷◌, ◌++◌, length, Option, Ok, Err, refl, sym, ap, ◌∙◌, subst, length-append, arith}
use Rattle.std.specs.Prelude.{nat_lt}
use Rattle.std.specs.List.{AllByRecursion, flat_map, sum_by}
use Rattle.std.proofs.lemmas.List.Concat.{flat_map-append}
use Rattle.std.proofs.lemmas.List.Sums.{sum_by-append}
use Rattle.ror_text.proofs.Everywhere.{all-append}
use Rattle.ror_report.specs.Text.{end_text}
use Rattle.ror_io.specs.Counts.{Rose}
use Rattle.ror_io.specs.Writing.{Grew, GrewShort}
use Rattle.ror_io.proofs.Writes.{Grew-none, Grew-append, GrewShort-after}
use Rattle.ror_entries.specs.Kind.{Kind}
use Rattle.ror_entries.specs.Laws.{GivenAreProved}
use Rattle.ror_entries.specs.Reports.{EachAt, accepted_of}
use Rattle.ror_entries.specs.Writing.{IsFirstText, IsWholeText, some_entries, all_entries, WritesEntries, MakesEntries, WritesText}
use Rattle.ror_bench.proofs.WideLemmas.{some_of_either}
use Rattle.ror_entries.proofs.EachLemmas.{each_by}
use Rattle.ror_entries.specs.declared.write.EntriesStop.{EntriesStop}
use Rattle.ror_entries.specs.declared.write.EntriesStop.TheVariants as stops

-- one more entry at the place behind the others
pub each_more : {E : Type 0} (P : ℕ → E → Type 0) (place : ℕ) (xs : List E) (x : E) → EachAt P place xs → P (place + length xs) x → EachAt P place (xs ++ x ∷ [])
each_more P place [] x all one = (subst (λ n. P n x) (omega arith) one, tt)
each_more P place (y ∷ ys) x all one =
    let here : place + length (y ∷ ys) ≡ (place + 1) + length ys = omega arith in
    (all.0, each_more P (place + 1) ys x all.1 (subst (λ n. P n x) here one))

-- whether anything is too wide, with one more entry
wide_more : {E : Type 0} (kind : Kind E) (xs : List E) (x : E) → nat_lt 0 (accepted_of kind (xs ++ x ∷ [])).wide ≡ (nat_lt 0 (accepted_of kind xs).wide || nat_lt 0 (kind.passed x).wide)
wide_more {E} kind xs x =
    let f : E → ℕ = λ e. (kind.passed e).wide in
    let one : sum_by f (x ∷ []) ≡ f x = omega arith in
    ap (nat_lt 0) (sum_by-append f xs (x ∷ []) ∙ ap (λ n. sum_by f xs + n) one) ∙ some_of_either (sum_by f xs) (f x)

-- the entries of the first places are made and written, and this is whether anything of them is too wide
pub record AreWritten {E : Type 0} (kind : Kind E) (Given : ℕ → E → Type 0) (number before now : ℕ) (old new : Option (List ℕ)) (wide : Bool) : Type 0 where
  pub entries : List E
  pub numbered : length entries ≡ number
  pub printable : AllByRecursion kind.IsPrintable entries
  pub given : EachAt Given 0 entries
  pub wide_is : wide ≡ nat_lt 0 (accepted_of kind entries).wide
  pub faults : now ≡ before
  pub grew : Grew old new (flat_map kind.text entries)

module _ {E : Type 0} (kind : Kind E) (Given : ℕ → E → Type 0) where
  pub none_written : (before : ℕ) (old : Option (List ℕ)) → AreWritten kind Given 0 before before old old false
  none_written before old = record { entries = []; numbered = refl; printable = tt; given = tt; wide_is = refl; faults = refl; grew = Grew-none old }

  pub text_more : (xs : List E) (x : E) → flat_map kind.text (xs ++ x ∷ []) ≡ flat_map kind.text xs ++ kind.text x
  text_more xs x = flat_map-append kind.text xs (x ∷ []) ∙ ap (λ (l : List ℕ). flat_map kind.text xs ++ l) (append-nil (kind.text x))

  given_more : (number before now : ℕ) (old new : Option (List ℕ)) (wide : Bool) (x : E) → (were : AreWritten kind Given number before now old new wide) → Given number x → EachAt Given 0 (were.entries ++ x ∷ [])
  given_more number before now old new wide x were given =
      each_more Given 0 were.entries x were.given (subst (λ n. Given n x) (let n = were.numbered in omega arith) given)

  -- one entry more
  pub one_written : (number before between now : ℕ) (old middle new : Option (List ℕ)) (wide : Bool) (x : E) → AreWritten kind Given number before between old middle wide → kind.IsPrintable x → Given number x → now ≡ between → Grew middle new (kind.text x) → AreWritten kind Given (number + 1) before now old new (wide || nat_lt 0 (kind.passed x).wide)
  one_written number before between now old middle new wide x were printable given faults grew = record {
    entries = were.entries ++ x ∷ [];
    numbered = let n = were.numbered in omega (arith, length-append were.entries (x ∷ []));
    printable = all-append kind.IsPrintable were.entries (x ∷ []) were.printable (printable, tt);
    given = given_more number before between old middle wide x were given;
    wide_is = ap (λ b. b || nat_lt 0 (kind.passed x).wide) were.wide_is ∙ sym (wide_more kind were.entries x);
    faults = faults ∙ were.faults;
    grew = subst (Grew old new) (sym (text_more were.entries x)) (Grew-append old middle new (flat_map kind.text were.entries) (kind.text x) were.grew grew);
  }

  -- the entries of the first places, where more are due or none
  first_entries : (number before now : ℕ) (old new : Option (List ℕ)) (wide : Bool) → number ≤ kind.count → (were : AreWritten kind Given number before now old new wide) → IsFirstText kind Given (flat_map kind.text were.entries) were.entries
  first_entries number before now old new wide few were = record {
    made = record { within = let n = were.numbered in omega arith; printable = were.printable; given = were.given };
    text_is = refl;
  }

  -- no further entry was made
  pub entry_unmade : (number before now : ℕ) (old new : Option (List ℕ)) (wide : Bool) → number ≤ kind.count → AreWritten kind Given number before now old new wide → MakesEntries kind Given before now old new (Err stops.Memory)
  entry_unmade number before now old new wide few were =
      (were.faults, flat_map kind.text were.entries, were.entries, first_entries number before now old new wide few were, were.grew)

  -- one entry more was made, and was not written, whole or at all
  pub entry_stopped : (number before between now : ℕ) (old middle new : Option (List ℕ)) (wide : Bool) (x : E) (stop : EntriesStop) → number < kind.count → AreWritten kind Given number before between old middle wide → kind.IsPrintable x → Given number x → WritesText {A = Unit {0}} (kind.text x) between now middle new (Err stop) → MakesEntries kind Given before now old new (Err stop)
  entry_stopped number before between now old middle new wide x stops.Memory within were printable given stopped =
      (stopped.0 ∙ were.faults, flat_map kind.text were.entries, were.entries, first_entries number before between old middle wide (omega arith) were, subst (λ (w : Option (List ℕ)). Grew old w (flat_map kind.text were.entries)) (sym stopped.1) were.grew)
  entry_stopped number before between now old middle new wide x stops.Write within were printable given stopped =
      let xs = were.entries ++ x ∷ [] in (
        subst (λ n. n ≤ now) were.faults stopped.0,
        subst (λ n. Rose n now) were.faults stopped.1,
        flat_map kind.text xs,
        xs,
        record {
          made = record {
            within = let n = were.numbered in omega (arith, length-append were.entries (x ∷ []));
            printable = all-append kind.IsPrintable were.entries (x ∷ []) were.printable (printable, tt);
            given = given_more number before between old middle wide x were given;
          };
          text_is = refl;
        },
        subst (GrewShort old new) (sym (text_more were.entries x)) (GrewShort-after old middle new (flat_map kind.text were.entries) (kind.text x) were.grew stopped.2),
      )

  -- the entries of all places were written
  pub all_made : (number before now : ℕ) (old new : Option (List ℕ)) (wide : Bool) → number ≡ kind.count → AreWritten kind Given number before now old new wide → MakesEntries kind Given before now old new (Ok wide)
  all_made number before now old new wide over were =
      (were.faults, flat_map kind.text were.entries, were.entries, first_entries number before now old new wide (omega arith) were, were.numbered ∙ over, were.wide_is, were.grew)

  -- ---- the last line

  -- the entries were not all written
  pub entries_stopped : (before now : ℕ) (old new : Option (List ℕ)) (stop : EntriesStop) → MakesEntries kind Given before now old new (Err stop) → WritesEntries kind Given before now old new (Err stop)
  entries_stopped before now old new stops.Memory makes = makes
  entries_stopped before now old new stops.Write makes = (makes.0, makes.1, makes.2, some_entries makes.3 makes.4, makes.5)

  -- the last line was not made
  pub end_unmade : (before now : ℕ) (old new : Option (List ℕ)) (wide : Bool) → MakesEntries kind Given before now old new (Ok wide) → WritesEntries kind Given before now old new (Err stops.Memory)
  end_unmade before now old new wide makes = (makes.0, makes.1, makes.2, makes.3, makes.6)

  whole : (text : List ℕ) (xs : List E) → IsFirstText kind Given text xs → length xs ≡ kind.count → IsWholeText kind Given (text ++ end_text kind.count) xs
  whole text xs first due = record {
    made = first.made;
    all_due = due;
    text_is = ap (λ (l : List ℕ). l ++ end_text kind.count) first.text_is ∙ ap (λ n. flat_map kind.text xs ++ end_text n) (sym due);
  }

  -- it was not written
  pub end_cut : (before between now : ℕ) (old middle new : Option (List ℕ)) (wide : Bool) → MakesEntries kind Given before between old middle (Ok wide) → between ≤ now → Rose between now → GrewShort middle new (end_text kind.count) → WritesEntries kind Given before now old new (Err stops.Write)
  end_cut before between now old middle new wide makes up rose short = (
    subst (λ n. n ≤ now) makes.0 up,
    subst (λ n. Rose n now) makes.0 rose,
    makes.1 ++ end_text kind.count,
    all_entries makes.2 (whole makes.1 makes.2 makes.3 makes.4),
    GrewShort-after old middle new makes.1 (end_text kind.count) makes.6 short,
  )

  -- all was written
  pub all_written : (before between now : ℕ) (old middle new : Option (List ℕ)) (wide : Bool) → MakesEntries kind Given before between old middle (Ok wide) → now ≡ between → Grew middle new (end_text kind.count) → WritesEntries kind Given before now old new (Ok wide)
  all_written before between now old middle new wide makes kept ended =
      (kept ∙ makes.0, makes.1 ++ end_text kind.count, makes.2, whole makes.1 makes.2 makes.3 makes.4, makes.5, Grew-append old middle new makes.1 (end_text kind.count) makes.6 ended)

  -- ---- what is written is proved

  pub given_are_proved : GivenAreProved kind Given
  given_are_proved by text xs whole = record {
    entries = xs;
    all_due = whole.all_due;
    text = whole.text_is;
    printable = whole.made.printable;
    proved = each_by Given kind.IsProved by 0 xs whole.made.given;
    counted = refl;
  }
