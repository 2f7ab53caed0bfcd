-- Two kinds that are the same: what is said of one is said of the other.
use Rattle.std.proofs.Common.{◌≡◌, ℕ, ◌+◌, List, ◌++◌, length, refl, sym, ap, ◌∙◌, subst, arith}
use Rattle.std.specs.Prelude.{◌↔◌, Result}
use Rattle.ror_text.specs.Cursor.{Cursor, cursor_at}
use Rattle.ror_proof.specs.declared.read.ProofFault.{ProofFault}
use Rattle.std.specs.Str.{IsUtf8}
use Rattle.ror_bench.specs.declared.bench.Passed.{Passed}
use Rattle.ror_bench.specs.declared.report.Reason.{Reason}
use Rattle.ror_entries.specs.Kind.{Kind, IsKind, IsEntryText, WriteTheSame, IsSameKind}
use Rattle.ror_entries.specs.Reports.{RejectsNext, RejectsEnd, end_misread, ends_early, entry_misread, refused, miscounted, one_too_many}
use Rattle.ror_entries.specs.Steps.{IfRefused, IsEntryAt, IsNextEntry}
use Rattle.ror_entries.specs.declared.check.EntryFault.{EntryFault}
use Rattle.ror_entries.specs.declared.check.EntryFault.TheVariants as faults

iff_itself : (A : Type 0) → A ↔ A
iff_itself A = (λ x. x, λ x. x)

iff_back : {A B : Type 0} → A ↔ B → B ↔ A
iff_back ab = (ab.1, ab.0)

iff_through : {A B C : Type 0} → A ↔ B → B ↔ C → A ↔ C
iff_through ab bc = (λ a. bc.0 (ab.0 a), λ c. ab.1 (bc.1 c))

pub writes_itself : {E : Type 0} (kind : Kind E) → WriteTheSame kind kind
writes_itself kind = record { count = refl; text = refl; passed = refl; printable = λ x. iff_itself (kind.IsPrintable x) }

pub writes_through : {E : Type 0} (one other third : Kind E) → WriteTheSame one other → WriteTheSame other third → WriteTheSame one third
writes_through one other third a b = record {
  count = a.count ∙ b.count;
  text = a.text ∙ b.text;
  passed = a.passed ∙ b.passed;
  printable = λ x. iff_through (a.printable x) (b.printable x);
}

pub same_itself : {E : Type 0} (kind : Kind E) → IsSameKind kind kind
same_itself kind = record {
  writes = writes_itself kind;
  reads = refl;
  may_follow = λ x rest. iff_itself (kind.MayFollow x rest);
  proved = λ place x. iff_itself (kind.IsProved place x);
  refuses = λ place x reason. iff_itself (kind.Refuses place x reason);
  is_true = λ place x. iff_itself (kind.IsTrue place x);
}

pub same_through : {E : Type 0} (one other third : Kind E) → IsSameKind one other → IsSameKind other third → IsSameKind one third
same_through one other third a b = record {
  writes = writes_through one other third a.writes b.writes;
  reads = a.reads ∙ b.reads;
  may_follow = λ x rest. iff_through (a.may_follow x rest) (b.may_follow x rest);
  proved = λ place x. iff_through (a.proved place x) (b.proved place x);
  refuses = λ place x reason. iff_through (a.refuses place x reason) (b.refuses place x reason);
  is_true = λ place x. iff_through (a.is_true place x) (b.is_true place x);
}

module _ {E : Type 0} (one other : Kind E) (same : IsSameKind one other) where
  text_same : (x : E) → one.text x ≡ other.text x
  text_same x = ap (λ (f : E → List ℕ). f x) same.writes.text

  reads_same : (c : Cursor) → one.reads c ≡ other.reads c
  reads_same c = ap (λ (f : Cursor → Result (E × Cursor) ProofFault). f c) same.reads

  entry_text : (c : Cursor) (x : E) (after : Cursor) → IsEntryText one c x after ↔ IsEntryText other c x after
  entry_text c x after = (
    λ is. record {
      text = is.text ∙ ap (λ (l : List ℕ). l ++ after.rest) (text_same x);
      place = is.place ∙ ap (λ (l : List ℕ). c.place + length l) (text_same x);
      printable = (same.writes.printable x).0 is.printable;
      follows = (same.may_follow x after.rest).0 is.follows;
    },
    λ is. record {
      text = is.text ∙ ap (λ (l : List ℕ). l ++ after.rest) (sym (text_same x));
      place = is.place ∙ ap (λ (l : List ℕ). c.place + length l) (sym (text_same x));
      printable = (same.writes.printable x).1 is.printable;
      follows = (same.may_follow x after.rest).1 is.follows;
    },
  )

  -- one keeps the laws that the other keeps
  pub kind_same : IsKind other → IsKind one
  kind_same lawful = record {
    few = let few = lawful.few in let count = same.writes.count in omega arith;
    read_iff_text = λ c x after. (
      λ read. (entry_text c x after).1 ((lawful.read_iff_text c x after).0 (sym (reads_same c) ∙ read)),
      λ is. reads_same c ∙ (lawful.read_iff_text c x after).1 ((entry_text c x after).0 is),
    );
    begins_no_end = λ x rest printable. rw (text_same x) (lawful.begins_no_end x rest ((same.writes.printable x).0 printable));
    entry_follows = λ x next rest has printable. (same.may_follow x (one.text next ++ rest)).1 (rw (text_same next) (lawful.entry_follows x next rest ((same.writes.printable x).0 has) ((same.writes.printable next).0 printable)));
    end_follows = λ x n has. (same.may_follow x _).1 (lawful.end_follows x n ((same.writes.printable x).0 has));
    utf8 = λ x printable. subst IsUtf8 (sym (text_same x)) (lawful.utf8 x ((same.writes.printable x).0 printable));
    proved_not_refused = λ place x reason proved refuses. lawful.proved_not_refused place x reason ((same.proved place x).0 proved) ((same.refuses place x reason).0 refuses);
    proved_is_true = λ place x proved. (same.is_true place x).1 (lawful.proved_is_true place x ((same.proved place x).0 proved));
  }

  -- what the one accepts or rejects, the other does
  pub next_same : (bytes : List ℕ) (place from : ℕ) (passed : Passed) (after : ℕ) → IsNextEntry one bytes place from passed after → IsNextEntry other bytes place from passed after
  next_same bytes place from passed after next = record {
    entry = next.entry;
    no_end = next.no_end;
    read = sym (reads_same (cursor_at bytes from)) ∙ next.read;
    proved = (same.proved place next.entry).0 next.proved;
    counted = next.counted ∙ ap (λ (f : E → Passed). f next.entry) same.writes.passed;
  }

  pub entry_same : (bytes : List ℕ) (place from : ℕ) (entry : E) (passed : Passed) (after : ℕ) → IsEntryAt one bytes place from entry passed after → IsEntryAt other bytes place from entry passed after
  entry_same bytes place from entry passed after at = record {
    no_end = at.no_end;
    read = sym (reads_same (cursor_at bytes from)) ∙ at.read;
    proved = (same.proved place entry).0 at.proved;
    counted = at.counted ∙ ap (λ (f : E → Passed). f entry) same.writes.passed;
  }

  pub rejects_next_same : (bytes : List ℕ) (place from : ℕ) (reason : Reason) → RejectsNext one bytes place from reason → RejectsNext other bytes place from reason
  rejects_next_same bytes place from reason (end_misread fault begins read is) = end_misread fault begins read is
  rejects_next_same bytes place from reason (ends_early n begins read is) = ends_early n begins read is
  rejects_next_same bytes place from reason (entry_misread fault no_end read is) = entry_misread fault no_end (sym (reads_same (cursor_at bytes from)) ∙ read) is
  rejects_next_same bytes place from reason (refused x after no_end read refuses) = refused x after no_end (sym (reads_same (cursor_at bytes from)) ∙ read) ((same.refuses place x reason).0 refuses)

  pub rejects_end_same : (bytes : List ℕ) (from : ℕ) (reason : Reason) → RejectsEnd one bytes from reason → RejectsEnd other bytes from reason
  rejects_end_same bytes from reason (end_misread fault begins read is) = end_misread fault begins read is
  rejects_end_same bytes from reason (miscounted n begins read ne is) = miscounted n begins read (λ e. ne (e ∙ sym same.writes.count)) is
  rejects_end_same bytes from reason (entry_misread fault no_end read is) = entry_misread fault no_end (sym (reads_same (cursor_at bytes from)) ∙ read) is
  rejects_end_same bytes from reason (one_too_many x after no_end read is) = one_too_many x after no_end (sym (reads_same (cursor_at bytes from)) ∙ read) is

  pub refused_same : (place : ℕ) (x : E) (fault : EntryFault) → IfRefused (one.Refuses place x) fault → IfRefused (other.Refuses place x) fault
  refused_same place x (faults.Refused reason) h = (same.refuses place x reason).0 h
  refused_same place x faults.Memory h = tt
