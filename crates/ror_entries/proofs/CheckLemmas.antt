-- The check of entries: what each step of it leaves, and the errors that its faults are.
use Rattle.std.proofs.Common.{inl, inr, ◌≡◌, ◌≢◌, ℕ, ◌+◌, ◌<◌, true, false, List, drop, Ok, Err, refl, subst, arith}
use Rattle.std.specs.Prelude.{IfSome}
use Rattle.ror_text.specs.Cursor.{cursor_at}
use Rattle.ror_proof.specs.declared.read.ProofFault.{ProofFault}
use Rattle.ror_proof.specs.declared.read.ProofFault.TheVariants as forms
use Rattle.ror_proof.specs.Reading.{proof_fault}
use Rattle.ror_report.specs.Reading.{begins_end, end_at}
use Rattle.ror_report.specs.Text.{end_text}
use Rattle.ror_bench.specs.declared.bench.Passed.{Passed}
use Rattle.ror_bench.specs.declared.report.Accepted.{Accepted}
use Rattle.ror_bench.specs.declared.report.Rejection.{Rejection}
use Rattle.ror_bench.specs.declared.report.Reason.{Reason}
use Rattle.ror_bench.specs.declared.report.ReportError.{ReportError}
use Rattle.ror_bench.specs.declared.report.ReportError.TheVariants as errors
use Rattle.ror_bench.specs.Reports.{IfRejected}
use Rattle.ror_bench.specs.Steps.{IsEarlyEnd, with_passed, misread_error}
use Rattle.ror_bench.proofs.ReportProofs.{same_accepted, both_ways, rejects_by, AtBlock}
use Rattle.ror_entries.specs.declared.check.EntryFault.{EntryFault}
use Rattle.ror_entries.specs.declared.check.EntryFault.TheVariants as faults
use Rattle.ror_entries.specs.Kind.{Kind, IsKind, IsSameKind}
use Rattle.ror_entries.specs.Reports.{IsProvedEntries, IsAcceptedEntries, RejectsNext, RejectsEnd, IsRejectedFrom, IsRejectedEntries, end_misread, ends_early, entry_misread, refused, one_too_many, at_entry, at_end, later}
use Rattle.ror_entries.specs.Steps.{IfRefused, IsNextEntry, IsLateEntry, IsRest, refused_error}
use Rattle.ror_entries.proofs.EachLemmas.{proved_is_accepted}
use Rattle.ror_entries.proofs.SameLemmas.{rejects_next_same, rejects_end_same}
use Rattle.ror_entries.proofs.RestLemmas.{rest_with, no_rest, proved_all, rejected_not_proved}

-- ---- the loop over the places

-- what is read from a byte on completes the report, and what is at fault from there on is its first fault
pub record IsWay {E : Type 0} (kind : Kind E) (bytes : List ℕ) (start place from : ℕ) (accepted : Accepted) : Type 0 where
  pub completes : (x : Accepted) → IsRest kind place (drop from bytes) x → IsProvedEntries kind (drop start bytes) (record { answers = accepted.answers + x.answers; wide = accepted.wide + x.wide })
  pub rejects : (rejection : Rejection) → IsRejectedFrom kind bytes rejection place from → IsRejectedEntries kind bytes start rejection

from_nothing : (x : Accepted) → x ≡ record { answers = 0 + x.answers; wide = 0 + x.wide }
from_nothing x = same_accepted x (record { answers = 0 + x.answers; wide = 0 + x.wide }) (omega arith) (omega arith)

module _ {E : Type 0} (kind : Kind E) (lawful : IsKind kind) where
  pub way_begins : (bytes : List ℕ) (start : ℕ) → IsWay kind bytes start 0 start (record { answers = 0; wide = 0 })
  way_begins bytes start = record {
    completes = λ x rest. subst (IsProvedEntries kind (drop start bytes)) (from_nothing x) (proved_all kind lawful (drop start bytes) x rest);
    rejects = λ rejection from. from;
  }

  pub way_goes_on : (bytes : List ℕ) (start place from : ℕ) (accepted : Accepted) (passed : Passed) (after : ℕ) → place < kind.count → IsWay kind bytes start place from accepted → IsNextEntry kind bytes place from passed after → IsWay kind bytes start (place + 1) after (record { answers = accepted.answers + passed.answers; wide = accepted.wide + passed.wide })
  way_goes_on bytes start place from accepted passed after within way next =
      let is = (lawful.read_iff_text (cursor_at bytes from) next.entry (cursor_at bytes after)).0 next.read in
      record {
        completes = λ x rest.
            let whole = way.completes (with_passed x (kind.passed next.entry)) (rest_with kind lawful place (drop from bytes) (drop after bytes) next.entry x is.text is.printable next.proved rest) in
            subst (IsProvedEntries kind (drop start bytes)) (both_ways accepted x (kind.passed next.entry) passed next.counted) whole;
        rejects = λ rejection rest. way.rejects rejection (later place from next.entry after within next.no_end next.read next.proved rest);
      }

  pub way_ends : (bytes : List ℕ) (start place from : ℕ) (accepted : Accepted) → place ≡ kind.count → IsWay kind bytes start place from accepted → drop from bytes ≡ end_text kind.count → IsAcceptedEntries kind (drop start bytes) accepted
  way_ends bytes start place from accepted over way text =
      proved_is_accepted kind lawful (drop start bytes) accepted (subst (IsProvedEntries kind (drop start bytes)) (same_accepted (record { answers = accepted.answers + 0; wide = accepted.wide + 0 }) accepted (omega arith) (omega arith)) (way.completes (record { answers = 0; wide = 0 }) (no_rest kind lawful place (drop from bytes) over text)))

  -- what is read is an entry that has a text
  pub read_printable : (bytes : List ℕ) (from : ℕ) (e : E) (after : ℕ) → kind.reads (cursor_at bytes from) ≡ Ok (e, cursor_at bytes after) → kind.IsPrintable e
  read_printable bytes from e after read = ((lawful.read_iff_text (cursor_at bytes from) e (cursor_at bytes after)).0 read).printable

  pub none_proved : (bytes : List ℕ) (start : ℕ) (e : ReportError) → IfRejected (IsRejectedEntries kind bytes start) e → e ≢ errors.Memory → (x : Accepted) → IsProvedEntries kind (drop start bytes) x → ⊥
  none_proved bytes start (errors.Rejected rejection) rejects ne x report = rejected_not_proved kind lawful bytes start rejection x rejects report
  none_proved bytes start errors.Memory rejects ne x report = ne refl

-- ---- the errors of a check

-- the judge's kind is the one of the start, also where what it holds has changed
module _ {E : Type 0} (here kind : Kind E) (same : IsSameKind here kind) (bytes : List ℕ) where
  pub next_breaks : (start place from : ℕ) (accepted : Accepted) (e : ReportError) → place < kind.count → IsWay kind bytes start place from accepted → IfRejected (λ rejection. (rejection.block ≡ place + 1) × RejectsNext here bytes place from rejection.reason) e → IfRejected (IsRejectedEntries kind bytes start) e
  next_breaks start place from accepted e within way h =
      rejects_by (AtBlock (place + 1) (RejectsNext here bytes place from)) (IsRejectedEntries kind bytes start) e (λ rejection k. way.rejects rejection (at_entry place from within k.0 (rejects_next_same here kind same bytes place from rejection.reason k.1))) h

  pub end_breaks : (start place from : ℕ) (accepted : Accepted) (e : ReportError) → place ≡ kind.count → IsWay kind bytes start place from accepted → IfRejected (λ rejection. (rejection.block ≡ place + 1) × RejectsEnd here bytes from rejection.reason) e → IfRejected (IsRejectedEntries kind bytes start) e
  end_breaks start place from accepted e over way h =
      rejects_by (AtBlock (place + 1) (RejectsEnd here bytes from)) (IsRejectedEntries kind bytes start) e (λ rejection k. way.rejects rejection (at_end place from over k.0 (rejects_end_same here kind same bytes from rejection.reason k.1))) h

module _ {E : Type 0} (kind : Kind E) (bytes : List ℕ) where
  pub early_rejects : (place from block : ℕ) (e : ReportError) → begins_end (drop from bytes) ≡ true → IfRejected (AtBlock block (IsEarlyEnd bytes from)) e → IfRejected (AtBlock block (RejectsNext kind bytes place from)) e
  early_rejects place from block e begins h = rejects_by (AtBlock block (IsEarlyEnd bytes from)) (AtBlock block (RejectsNext kind bytes place from)) e (λ rejection k. (k.0, by rejection.reason k.1)) h
    where
      by : (reason : Reason) → IsEarlyEnd bytes from reason → RejectsNext kind bytes place from reason
      by reason (inl ends) = ends_early ends.0 begins ends.1 ends.2
      by reason (inr misread) = end_misread misread.0 begins misread.1 misread.2

  pub late_rejects : (from block : ℕ) (e : ReportError) → begins_end (drop from bytes) ≡ false → IfRejected (AtBlock block (IsLateEntry kind bytes from)) e → IfRejected (AtBlock block (RejectsEnd kind bytes from)) e
  late_rejects from block e no_end h = rejects_by (AtBlock block (IsLateEntry kind bytes from)) (AtBlock block (RejectsEnd kind bytes from)) e (λ rejection k. (k.0, by rejection.reason k.1)) h
    where
      by : (reason : Reason) → IsLateEntry kind bytes from reason → RejectsEnd kind bytes from reason
      by reason (inl many) = one_too_many many.0 many.1 no_end many.2 many.3
      by reason (inr misread) = entry_misread misread.0 no_end misread.1 misread.2

  pub refused_rejects : (place from block after : ℕ) (x : E) (fault : EntryFault) → begins_end (drop from bytes) ≡ false → kind.reads (cursor_at bytes from) ≡ Ok (x, cursor_at bytes after) → IfRefused (kind.Refuses place x) fault → IfRejected (AtBlock block (RejectsNext kind bytes place from)) (refused_error block fault)
  refused_rejects place from block after x (faults.Refused reason) no_end read refuses = (refl, refused x after no_end read refuses)
  refused_rejects place from block after x faults.Memory no_end read refuses = tt

  pub misread_rejects : (place from block : ℕ) (fault : ProofFault) → begins_end (drop from bytes) ≡ false → IfSome (proof_fault fault) (λ f. kind.reads (cursor_at bytes from) ≡ Err f) → IfRejected (AtBlock block (RejectsNext kind bytes place from)) (misread_error bytes block fault)
  misread_rejects place from block (forms.BadLine at) no_end bad = (refl, entry_misread (forms.BadLine at) no_end bad refl)
  misread_rejects place from block (forms.BadNumber at) no_end bad = (refl, entry_misread (forms.BadNumber at) no_end bad refl)
  misread_rejects place from block forms.Memory no_end bad = tt

  pub end_rejects : (from block : ℕ) (fault : ProofFault) → begins_end (drop from bytes) ≡ true → IfSome (proof_fault fault) (λ f. end_at (cursor_at bytes from) ≡ Err f) → IfRejected (AtBlock block (RejectsEnd kind bytes from)) (misread_error bytes block fault)
  end_rejects from block (forms.BadLine at) begins bad = (refl, end_misread (forms.BadLine at) begins bad refl)
  end_rejects from block (forms.BadNumber at) begins bad = (refl, end_misread (forms.BadNumber at) begins bad refl)
  end_rejects from block forms.Memory begins bad = tt
