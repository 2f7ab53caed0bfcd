-- Reports with a first line: one count, one first fault, and what was written of them.
use Rattle.std.proofs.Common.{◌≡◌, ℕ, ◌≤◌, Bool, true, false, List, [], ◌∷◌, ◌++◌, length, drop, Option, Result, Ok, Err, refl, sym, ap, ◌∙◌, subst, length-append, arith}
use Rattle.std.specs.Prelude.{nat_eq}
use Rattle.std.specs.List.{starts_with}
use Rattle.std.specs.Str.{IsUtf8, is_utf8}
use Rattle.std.proofs.lemmas.Bool.Decides.{Decides-eqb}
use Rattle.std.proofs.lemmas.Slice.Eq.{starts_is}
use Rattle.std.proofs.lemmas.Str.{IsUtf8-append, IsUtf8-from_is_utf8, is_utf8-from_IsUtf8}
use Rattle.ror_io.specs.Counts.{Rose}
use Rattle.ror_io.specs.Writing.{Grew, GrewShort}
use Rattle.ror_io.proofs.Writes.{Grew-append, GrewShort-more, GrewShort-after}
use Rattle.ror_bench.specs.declared.report.Accepted.{Accepted}
use Rattle.ror_bench.specs.declared.report.Rejection.{Rejection}
use Rattle.ror_bench.specs.declared.report.Reason.TheVariants as reasons
use Rattle.ror_bench.specs.declared.report.ReportError.{ReportError}
use Rattle.ror_bench.specs.declared.report.ReportError.TheVariants as errors
use Rattle.ror_bench.specs.Reports.{IfRejected}
use Rattle.ror_bench.proofs.UniqueLemmas.{true_not_false}
use Rattle.ror_entries.specs.declared.write.EntriesStop.{EntriesStop}
use Rattle.ror_entries.specs.declared.write.EntriesStop.TheVariants as stops
use Rattle.ror_entries.specs.Kind.{Kind, IsKind, HasOneReason}
use Rattle.ror_entries.specs.Reports.{IsProvedEntries, IsAcceptedEntries, IsRejectedEntries}
use Rattle.ror_entries.specs.Writing.{IsBegunText, some_entries, WritesEntries}
use Rattle.ror_entries.specs.Headed.{IsProvedHeaded, IsAcceptedHeaded, IsRejectedHeaded, not_utf8, other_head, in_entries, WritesHeaded}
use Rattle.ror_entries.proofs.EachLemmas.{proved_is_accepted}
use Rattle.ror_entries.proofs.RestLemmas.{rejected_not_proved}
use Rattle.ror_entries.proofs.SpellingLemmas.{one_count, one_rejection, entries_are_utf8}

-- ---- the head

dropped : (head body : List ℕ) → drop (length head) (head ++ body) ≡ body
dropped [] body = refl
dropped (b ∷ bs) body = dropped bs body

pub behind : (head bytes body : List ℕ) → bytes ≡ head ++ body → drop (length head) bytes ≡ body
behind head bytes body is = ap (drop (length head)) is ∙ dropped head body

-- where bytes start with the head the rest stands behind it
pub started : (head bytes : List ℕ) → starts_with nat_eq bytes head ≡ true → bytes ≡ head ++ drop (length head) bytes
started head bytes starts = (starts_is Decides-eqb bytes head (starts_with nat_eq bytes head) refl).0 starts

starts : (head bytes body : List ℕ) → bytes ≡ head ++ body → starts_with nat_eq bytes head ≡ true
starts head bytes body is = (starts_is Decides-eqb bytes head (starts_with nat_eq bytes head) refl).1 body is

pub head_within : (head bytes : List ℕ) → starts_with nat_eq bytes head ≡ true → length head ≤ length bytes
head_within head bytes starts =
    let long = ap length (started head bytes starts) in
    omega (arith, long, length-append head (drop (length head) bytes))

-- ---- what is proved, and what is rejected

module _ {E : Type 0} (head : List ℕ) (kind : Kind E) (lawful : IsKind kind) (head_utf8 : IsUtf8 head) (bytes : List ℕ) where
  pub one_headed_count : (x y : Accepted) → IsProvedHeaded head kind bytes x → IsProvedHeaded head kind bytes y → x ≡ y
  one_headed_count x y p q =
      let same : q.0 ≡ p.0 = sym (behind head bytes q.0 q.1) ∙ behind head bytes p.0 p.1 in
      one_count kind lawful p.0 x y p.2 (subst (λ (l : List ℕ). IsProvedEntries kind l y) same q.2)

  proved_utf8 : (x : Accepted) → IsProvedHeaded head kind bytes x → IsUtf8 bytes
  proved_utf8 x p =
      let entries = p.2 in
      let due = entries.all_due in
      let few = lawful.few in
      let body = subst IsUtf8 (sym entries.text) (entries_are_utf8 kind lawful entries.entries entries.printable (omega (arith, due, few))) in
      subst IsUtf8 (sym p.1) (IsUtf8-append head p.0 head_utf8 body)

  -- what is rejected is not proved
  pub rejected_headed_not_proved : (r : Rejection) (x : Accepted) → IsRejectedHeaded head kind bytes r → IsProvedHeaded head kind bytes x → ⊥
  rejected_headed_not_proved r x (not_utf8 bad is) p = bad (proved_utf8 x p)
  rejected_headed_not_proved r x (other_head utf8 other is) p = true_not_false _ (starts head bytes p.0 p.1) other
  rejected_headed_not_proved r x (in_entries utf8 begins rejects) p =
      rejected_not_proved kind lawful bytes (length head) r x rejects (subst (λ (l : List ℕ). IsProvedEntries kind l x) (sym (behind head bytes p.0 p.1)) p.2)

  -- bytes are rejected for one first fault, where each entry is refused for one reason
  pub one_headed_rejection : HasOneReason kind → (q r : Rejection) → IsRejectedHeaded head kind bytes q → IsRejectedHeaded head kind bytes r → q ≡ r
  one_headed_rejection reasons q r (not_utf8 bad is) (not_utf8 worse and) = is ∙ sym and
  one_headed_rejection reasons q r (not_utf8 bad is) (other_head utf8 other and) = absurd (bad utf8)
  one_headed_rejection reasons q r (not_utf8 bad is) (in_entries utf8 begins rejects) = absurd (bad utf8)
  one_headed_rejection reasons q r (other_head utf8 other is) (not_utf8 bad and) = absurd (bad utf8)
  one_headed_rejection reasons q r (other_head utf8 other is) (other_head text another and) = is ∙ sym and
  one_headed_rejection reasons q r (other_head utf8 other is) (in_entries text begins rejects) = absurd (true_not_false _ begins other)
  one_headed_rejection reasons q r (in_entries utf8 begins rejects) (not_utf8 bad and) = absurd (bad utf8)
  one_headed_rejection reasons q r (in_entries utf8 begins rejects) (other_head text other and) = absurd (true_not_false _ begins other)
  one_headed_rejection reasons q r (in_entries utf8 begins rejects) (in_entries text begins_too fails) =
      one_rejection kind lawful reasons bytes (length head) q r rejects fails

-- what is proved is accepted
pub headed_is_accepted : {E : Type 0} (head : List ℕ) (kind : Kind E) → IsKind kind → (bytes : List ℕ) (x : Accepted) → IsProvedHeaded head kind bytes x → IsAcceptedHeaded head kind bytes x
headed_is_accepted head kind lawful bytes x p = (p.0, p.1, proved_is_accepted kind lawful p.0 x p.2)

-- ---- what was written

module _ {E : Type 0} (head : List ℕ) (kind : Kind E) (Given : ℕ → E → Type 0) where
  no_entries : IsBegunText kind Given []
  no_entries = some_entries [] (record { made = record { within = omega arith; printable = tt; given = tt }; text_is = refl })

  -- the head was not
  pub head_cut : (x y : ℕ) (old new : Option (List ℕ)) → x ≤ y → Rose x y → GrewShort old new head → WritesHeaded head kind Given x y old new (Err stops.Write)
  head_cut x y old new up rose short = (up, rose, [], no_entries, GrewShort-more old new head [] short)

  -- it was, and all entries were
  pub all_behind : (x y z : ℕ) (old between new : Option (List ℕ)) (wide : Bool) → y ≡ x → Grew old between head → WritesEntries kind Given y z between new (Ok wide) → WritesHeaded head kind Given x z old new (Ok wide)
  all_behind x y z old between new wide same grew had = (had.0 ∙ same, had.1, had.2, had.3, had.4, Grew-append old between new head had.1 grew had.5)

  -- a write failed
  pub cut_behind : (x y z : ℕ) (old between new : Option (List ℕ)) → y ≡ x → Grew old between head → WritesEntries kind Given y z between new (Err stops.Write) → WritesHeaded head kind Given x z old new (Err stops.Write)
  cut_behind x y z old between new same grew had =
      (subst (λ n. n ≤ z) same had.0, subst (λ n. Rose n z) same had.1, had.2, had.3, GrewShort-after old between new head had.2 grew had.4)

  -- memory ran out
  pub front_behind : (x y z : ℕ) (old between new : Option (List ℕ)) → y ≡ x → Grew old between head → WritesEntries kind Given y z between new (Err stops.Memory) → WritesHeaded head kind Given x z old new (Err stops.Memory)
  front_behind x y z old between new same grew had = (had.0 ∙ same, had.1, some_entries had.2 had.3, Grew-append old between new head had.1 grew had.4)

  -- whichever it was
  pub written_behind : (x y z : ℕ) (old between new : Option (List ℕ)) (result : Result Bool EntriesStop) → y ≡ x → Grew old between head → WritesEntries kind Given y z between new result → WritesHeaded head kind Given x z old new result
  written_behind x y z old between new (Ok wide) same grew had = all_behind x y z old between new wide same grew had
  written_behind x y z old between new (Err stops.Write) same grew had = cut_behind x y z old between new same grew had
  written_behind x y z old between new (Err stops.Memory) same grew had = front_behind x y z old between new same grew had

-- ---- the steps of a check

module _ {E : Type 0} (head : List ℕ) (kind : Kind E) (bytes : List ℕ) where
  pub no_text : is_utf8 bytes ≡ false → IfRejected (IsRejectedHeaded head kind bytes) (errors.Rejected (record { block = 0; reason = reasons.NotUtf8 }))
  no_text off = not_utf8 (λ utf8. true_not_false _ (is_utf8-from_IsUtf8 bytes utf8) off) refl

  pub other_line : is_utf8 bytes ≡ true → starts_with nat_eq bytes head ≡ false → IfRejected (IsRejectedHeaded head kind bytes) (errors.Rejected (record { block = 0; reason = reasons.BadLine 1 }))
  other_line text other = other_head (IsUtf8-from_is_utf8 bytes text) other refl

  pub accepted_behind : (x : Accepted) → starts_with nat_eq bytes head ≡ true → IsAcceptedEntries kind (drop (length head) bytes) x → IsAcceptedHeaded head kind bytes x
  accepted_behind x begins had = (drop (length head) bytes, started head bytes begins, had)

  pub rejected_behind : (e : ReportError) → is_utf8 bytes ≡ true → starts_with nat_eq bytes head ≡ true → IfRejected (IsRejectedEntries kind bytes (length head)) e → IfRejected (IsRejectedHeaded head kind bytes) e
  rejected_behind (errors.Rejected rejection) text begins had = in_entries (IsUtf8-from_is_utf8 bytes text) begins had
  rejected_behind errors.Memory text begins had = tt
