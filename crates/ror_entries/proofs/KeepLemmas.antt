-- Entries that are checked one after another and kept: what one more leaves, and where the last line stands.
use Rattle.std.proofs.Common.{◌≡◌, ℕ, ◌+◌, ◌<◌, List, [], ◌∷◌, ◌++◌, length, drop, refl, sym, ap, ◌∙◌, subst, append_assoc, length-append, arith}
use Rattle.std.specs.List.{AllByRecursion, flat_map}
use Rattle.ror_text.specs.Cursor.{cursor_at}
use Rattle.ror_text.proofs.Everywhere.{all-append}
use Rattle.ror_report.specs.Text.{end_text}
use Rattle.ror_bench.specs.declared.bench.Passed.{Passed}
use Rattle.ror_bench.specs.declared.report.Rejection.{Rejection}
use Rattle.ror_bench.specs.declared.report.ReportError.{ReportError}
use Rattle.ror_bench.specs.declared.report.ReportError.TheVariants as errors
use Rattle.ror_bench.specs.Reports.{IfRejected}
use Rattle.ror_entries.specs.Kind.{Kind, IsKind, IsSameKind}
use Rattle.ror_entries.specs.Reports.{EachAt, accepted_of, AreProvedEntries, IsProvedEntries, RejectsNext, RejectsEnd, IsRejectedFrom, IsRejectedEntries, at_entry, at_end, later}
use Rattle.ror_entries.specs.Steps.{IsEntryAt}
use Rattle.ror_entries.proofs.SameLemmas.{rejects_next_same, rejects_end_same}
use Rattle.ror_entries.proofs.SpellingLemmas.{one_spelling}
use Rattle.ror_entries.proofs.WriteLemmas.{each_more, text_more}

-- what was kept of the first places is the text before a byte, and what is at fault from there on is the first fault
pub record IsKeptWay {E : Type 0} (kind : Kind E) (bytes : List ℕ) (start place from : ℕ) (kept : List E) : Type 0 where
  pub numbered : length kept ≡ place
  pub text : drop start bytes ≡ flat_map kind.text kept ++ drop from bytes
  pub printable : AllByRecursion kind.IsPrintable kept
  pub proved : EachAt kind.IsProved 0 kept
  pub rejects : (rejection : Rejection) → IsRejectedFrom kind bytes rejection place from → IsRejectedEntries kind bytes start rejection

pub kept_begins : {E : Type 0} (kind : Kind E) (bytes : List ℕ) (start : ℕ) → IsKeptWay kind bytes start 0 start []
kept_begins kind bytes start = record { numbered = refl; text = refl; printable = tt; proved = tt; rejects = λ rejection from. from }

module _ {E : Type 0} (kind : Kind E) (lawful : IsKind kind) (bytes : List ℕ) (start place from : ℕ) where
  pub kept_goes_on : (kept : List E) (x : E) (passed : Passed) (after : ℕ) → place < kind.count → IsKeptWay kind bytes start place from kept → IsEntryAt kind bytes place from x passed after → IsKeptWay kind bytes start (place + 1) after (kept ++ x ∷ [])
  kept_goes_on kept x passed after due way at =
      let is = (lawful.read_iff_text (cursor_at bytes from) x (cursor_at bytes after)).0 at.read in
      let front = flat_map kind.text kept in
      record {
        numbered = let n = way.numbered in omega (arith, length-append kept (x ∷ []));
        text = way.text ∙ ap (λ (l : List ℕ). front ++ l) is.text ∙ sym (append_assoc front (kind.text x) (drop after bytes)) ∙ ap (λ (l : List ℕ). l ++ drop after bytes) (sym (text_more kind (λ n e. Unit {0}) kept x));
        printable = all-append kind.IsPrintable kept (x ∷ []) way.printable (is.printable, tt);
        proved = each_more kind.IsProved 0 kept x way.proved (subst (λ n. kind.IsProved n x) (let n = way.numbered in omega arith) at.proved);
        rejects = λ rejection rest. way.rejects rejection (later place from x after due at.no_end at.read at.proved rest);
      }

  pub kept_ends : (kept : List E) → place ≡ kind.count → IsKeptWay kind bytes start place from kept → drop from bytes ≡ end_text kind.count → AreProvedEntries kind (drop start bytes) kept
  kept_ends kept over way last = record {
    all_due = way.numbered ∙ over;
    text = way.text ∙ ap (λ (l : List ℕ). flat_map kind.text kept ++ l) last ∙ ap (λ n. flat_map kind.text kept ++ end_text n) (sym (way.numbered ∙ over));
    printable = way.printable;
    proved = way.proved;
  }

-- the judge's kind is the one of the start, also where what it holds has changed
module _ {E : Type 0} (here kind : Kind E) (same : IsSameKind here kind) (bytes : List ℕ) (start place from : ℕ) (kept : List E) (way : IsKeptWay kind bytes start place from kept) where
  pub kept_breaks : (e : ReportError) → place < kind.count → IfRejected (λ rejection. (rejection.block ≡ place + 1) × RejectsNext here bytes place from rejection.reason) e → IfRejected (IsRejectedEntries kind bytes start) e
  kept_breaks (errors.Rejected rejection) due h = way.rejects rejection (at_entry place from due h.0 (rejects_next_same here kind same bytes place from rejection.reason h.1))
  kept_breaks errors.Memory due h = tt

  pub kept_breaks_at_end : (e : ReportError) → place ≡ kind.count → IfRejected (λ rejection. (rejection.block ≡ place + 1) × RejectsEnd here bytes from rejection.reason) e → IfRejected (IsRejectedEntries kind bytes start) e
  kept_breaks_at_end (errors.Rejected rejection) over h = way.rejects rejection (at_end place from over h.0 (rejects_end_same here kind same bytes from rejection.reason h.1))
  kept_breaks_at_end errors.Memory over h = tt

-- ---- what is kept

-- is proved, in so many answers
pub kept_is_proved : {E : Type 0} (kind : Kind E) (bytes : List ℕ) (entries : List E) → AreProvedEntries kind bytes entries → IsProvedEntries kind bytes (accepted_of kind entries)
kept_is_proved kind bytes entries are = record { entries = entries; all_due = are.all_due; text = are.text; printable = are.printable; proved = are.proved; counted = refl }

-- and of bytes one list
pub one_kept : {E : Type 0} (kind : Kind E) → IsKind kind → (bytes : List ℕ) (xs ys : List E) → AreProvedEntries kind bytes xs → AreProvedEntries kind bytes ys → xs ≡ ys
one_kept kind lawful bytes xs ys a b = one_spelling kind lawful xs ys a.printable b.printable (sym a.text ∙ b.text)
