-- What a check of a group's report comes to, by its steps.
use Rattle.std.proofs.Common.{◌≡◌, ℕ, ◌≤◌, true, List, [], ◌∷◌, length, None, Ok, Err, refl, sym, subst, arith}
use Rattle.std.specs.Prelude.{IfSome, nat_le}
use Rattle.std.specs.List.{AllByRecursion}
use Rattle.std.specs.Str.{IsUtf8}
use Rattle.ror_text.specs.Cursor.{Cursor}
use Rattle.ror_statement.specs.declared.statement.Statement.{Statement}
use Rattle.ror_table.specs.Table.{DecisionTable, IsTable}
use Rattle.ror_value.specs.declared.input.Input.{Input}
use Rattle.ror_value.specs.Over.{IsLawfulIn}
use Rattle.ror_session.specs.Grammar.{IsClean}
use Rattle.ror_session.specs.declared.limits.TheConstants.{MOST_DESK_NAME_BYTES}
use Rattle.ror_session.specs.declared.session.Session.{Session}
use Rattle.ror_proof.specs.declared.read.ProofFault.TheVariants as lines
use Rattle.ror_bench.specs.declared.report.Accepted.{Accepted}
use Rattle.ror_bench.specs.declared.report.Reason.TheVariants as reasons
use Rattle.ror_bench.specs.declared.report.ReportError.{ReportError}
use Rattle.ror_bench.specs.declared.report.ReportError.TheVariants as report_errors
use Rattle.ror_bench.specs.declared.report.TheConstants.{MOST_REPORT_BYTES}
use Rattle.ror_bench.specs.Reports.{IfRejected, HoldsNoMemory}
use Rattle.ror_closing.specs.Closing.{AreClosingLists}
use Rattle.ror_group.specs.declared.entry.Entry.{Entry}
use Rattle.ror_group.specs.declared.head.HeadFault.{HeadFault}
use Rattle.ror_group.specs.declared.head.HeadFault.TheVariants as heads
use Rattle.ror_group.specs.Head.{is_visible_name, head_fault, whole_head_at}
use Rattle.ror_entries.specs.declared.check.EntryFault.{EntryFault}
use Rattle.ror_entries.specs.declared.check.EntryFault.TheVariants as entry_faults
use Rattle.ror_entries.specs.Steps.{IfRefused}
use Rattle.ror_entries.specs.Reports.{accepted_of, AreProvedEntries, IsProvedEntries, IsRejectedEntries}
use Rattle.ror_entries.proofs.KeepLemmas.{kept_is_proved}
use Rattle.ror_entries.proofs.EachLemmas.{proved_is_accepted}
use Rattle.ror_frame.specs.declared.stop.Refusal.{Refusal}
use Rattle.ror_frame.specs.declared.stop.Refusal.TheVariants as refusals
use Rattle.ror_frame.specs.declared.stop.Stop.{Stop}
use Rattle.ror_frame.specs.declared.stop.Stop.TheVariants as stops
use Rattle.ror_frame.specs.Stops.{last, stop_at_report}
use Rattle.ror_frame.specs.Courses.{IsTooLong, ReadAs}
use Rattle.ror_frame.specs.Inputs.{bench_for}
use Rattle.ror_frame.proofs.Desks.{clean_control}
use Rattle.ror_work_group.specs.Entries.{group_kind, IsOnPairAt, RefusesEntry, at_fault}
use Rattle.ror_work_group.specs.Steps.{RefusesPair}
use Rattle.ror_work_group.specs.Group.{ProvesGroup, KeepsGroup, IsAcceptedGroup, too_long, not_utf8, in_head, in_entries, RefusesGroup, head_reason}
use Rattle.ror_group.proofs.HeadLemmas.{whole_is_text}
use Rattle.ror_work_group.proofs.GroupCourses.{kind_of_lists}

-- ---- an entry

pub refused_on : (t : DecisionTable) (lists : List (List Statement)) (place : ℕ) (x : Entry) (e : EntryFault) → IsOnPairAt t place x → IfRefused (RefusesPair t lists x) e → IfRefused (RefusesEntry t lists place x) e
refused_on t lists place x (entry_faults.Refused reason) on h = at_fault h.fault on h.first h.is
refused_on t lists place x entry_faults.Memory on h = tt

-- ---- the bytes

pub long_group : (i : Input) (s : Session) (bytes : List ℕ) (r : Refusal) → IsTooLong MOST_REPORT_BYTES (refusals.Rejected (record { block = 0; reason = reasons.TooLong })) bytes r → RefusesGroup i s bytes r
long_group i s bytes r long = (record { block = 0; reason = reasons.TooLong }, long.0, too_long long.1 refl)

-- a stop says nothing of what would have been read
pub any_read : {A B : Type 0} (P : List ℕ → A → Type 0) (Q : List ℕ → B → Type 0) (Refuses : List ℕ → Refusal → Type 0) (bytes : List ℕ) (stop : Stop) → ReadAs last P Refuses bytes (Err stop) → ReadAs last Q Refuses bytes (Err stop)
any_read P Q Refuses bytes (stops.At r) had = had
any_read P Q Refuses bytes stops.ReadFault had = had
any_read P Q Refuses bytes stops.WriteFault had = had
any_read P Q Refuses bytes stops.Memory had = had

module _ {A : Type 0} (P : List ℕ → A → Type 0) (i : Input) (s : Session) (bytes : List ℕ) (few : length bytes ≤ MOST_REPORT_BYTES) where
  pub no_text : ¬ (IsUtf8 bytes) → ReadAs last P (RefusesGroup i s) bytes (Err (stops.At (refusals.Rejected (record { block = 0; reason = reasons.NotUtf8 }))))
  no_text bad = (refl, tt, (record { block = 0; reason = reasons.NotUtf8 }, refl, not_utf8 few bad refl))

  head_refused : (f : HeadFault) (stop : Stop) → stop ≡ stops.At (refusals.Rejected (record { block = 0; reason = head_reason bytes f })) → ReadAs last P (RefusesGroup i s) bytes (Err (stops.At (refusals.Rejected (record { block = 0; reason = head_reason bytes f })))) → ReadAs last P (RefusesGroup i s) bytes (Err stop)
  head_refused f stop is had = subst (λ (x : Stop). ReadAs last P (RefusesGroup i s) bytes (Err x)) (sym is) had

  pub refused_head : (fault : HeadFault) (stop : Stop) → IsUtf8 bytes → IfSome (head_fault fault) (λ f. whole_head_at s.desks bytes ≡ Err f) → IfSome (head_fault fault) (λ f. stop ≡ stops.At (refusals.Rejected (record { block = 0; reason = head_reason bytes f }))) → (head_fault fault ≡ None → stop ≡ stops.Memory) → ReadAs last P (RefusesGroup i s) bytes (Err stop)
  refused_head (heads.Line (lines.BadLine p)) stop utf8 read is none = head_refused (heads.Line (lines.BadLine p)) stop is (refl, tt, (record { block = 0; reason = head_reason bytes (heads.Line (lines.BadLine p)) }, refl, in_head few utf8 (heads.Line (lines.BadLine p)) read refl))
  refused_head (heads.Line (lines.BadNumber p)) stop utf8 read is none = head_refused (heads.Line (lines.BadNumber p)) stop is (refl, tt, (record { block = 0; reason = head_reason bytes (heads.Line (lines.BadNumber p)) }, refl, in_head few utf8 (heads.Line (lines.BadNumber p)) read refl))
  refused_head (heads.Line lines.Memory) stop utf8 read is none = subst (λ (x : Stop). ReadAs last P (RefusesGroup i s) bytes (Err x)) (sym (none refl)) tt
  refused_head heads.WrongBlock stop utf8 read is none = head_refused heads.WrongBlock stop is (refl, tt, (record { block = 0; reason = head_reason bytes heads.WrongBlock }, refl, in_head few utf8 heads.WrongBlock read refl))

  pub entries_refused : (after : Cursor) (lists : List (List Statement)) (utf8 : IsUtf8 bytes) (read : whole_head_at s.desks bytes ≡ Ok after) (closing : AreClosingLists (bench_for i s) s.lines lists) (e : ReportError) → IfRejected (IsRejectedEntries (group_kind i.table lists) bytes after.place) e → HoldsNoMemory e → ReadAs last P (RefusesGroup i s) bytes (Err (stop_at_report e))
  entries_refused after lists utf8 read closing (report_errors.Rejected r) why pure = (refl, pure, (r, refl, in_entries few utf8 after read lists closing why))
  entries_refused after lists utf8 read closing report_errors.Memory why pure = tt

module _ (i : Input) (s : Session) (bytes : List ℕ) (few : length bytes ≤ MOST_REPORT_BYTES) (after : Cursor) (lists : List (List Statement)) (read : whole_head_at s.desks bytes ≡ Ok after) (closing : AreClosingLists (bench_for i s) s.lines lists) where
  pub entries_proved : (x : Accepted) → IsProvedEntries (group_kind i.table lists) after.rest x → ProvesGroup i s bytes x
  entries_proved x proved = (few, record { after = after; head = (whole_is_text s.desks bytes after read).0; lists = lists; closing = closing; body = proved })

  pub entries_kept : (entries : List Entry) → AreProvedEntries (group_kind i.table lists) after.rest entries → KeepsGroup i s bytes entries
  entries_kept entries proved = (few, record { after = after; head = (whole_is_text s.desks bytes after read).0; lists = lists; closing = closing; body = proved })

-- what is kept is proved, in as many answers as it has
pub kept_proved : (i : Input) (s : Session) (bytes : List ℕ) (entries : List Entry) → (kept : KeepsGroup i s bytes entries) → ProvesGroup i s bytes (accepted_of (group_kind i.table kept.1.lists) entries)
kept_proved i s bytes entries kept =
    let k = kept.1 in
    (kept.0, record { after = k.after; head = k.head; lists = k.lists; closing = k.closing; body = kept_is_proved (group_kind i.table k.lists) k.after.rest entries k.body })

-- what is proved over a lawful input is true
pub accepted_too : (i : Input) (s : Session) (bytes : List ℕ) (x : Accepted) → IsTable i.table → IsLawfulIn i.table i.opening → ProvesGroup i s bytes x → IsAcceptedGroup i s bytes x
accepted_too i s bytes x table lawful p =
    let a = p.1 in
    let kind = kind_of_lists i s table lawful a.lists a.closing in
    record {
      after = a.after;
      head = a.head;
      lists = a.lists;
      closing = a.closing;
      body = proved_is_accepted (group_kind i.table a.lists) kind a.after.rest x a.body;
    }

-- ---- names of desks

name_visible : (name : List ℕ) → length name ≤ MOST_DESK_NAME_BYTES → IsClean name → is_visible_name name ≡ true
name_visible name short clean =
    let none = clean_control name clean in
    let small : nat_le (length name) MOST_DESK_NAME_BYTES ≡ true = grind (arith, short) in
    rw (small, none) refl

pub names_visible : (names : List (List ℕ)) → AllByRecursion (λ name. length name ≤ MOST_DESK_NAME_BYTES) names → AllByRecursion IsClean names → AllByRecursion (λ name. is_visible_name name ≡ true) names
names_visible [] short clean = tt
names_visible (name ∷ names) short clean = (name_visible name short.0 clean.0, names_visible names short.1 clean.1)
