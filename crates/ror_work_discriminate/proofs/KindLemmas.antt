-- The entries of a report of most discriminating functions are a kind, of which each is refused for one reason.
use Rattle.std.proofs.Common.{◌≡◌, ℕ, ◌++◌, zero, suc, false, List, [], ◌∷◌, Some, refl, sym, ap, ◌∙◌, subst, inl, inr, arith}
use Rattle.std.specs.Prelude.{slice_get, codes}
use Rattle.std.specs.List.{AllByRecursion}
use Rattle.std.specs.Str.{IsUtf8}
use Rattle.ror_text.specs.FirstFault.{IsFirst}
use Rattle.ror_text.proofs.FirstFaultLemmas.{first_at}
use Rattle.ror_statement.specs.declared.statement.Statement.{Statement}
use Rattle.ror_table.specs.Table.{DecisionTable, IsTable}
use Rattle.ror_table.specs.Blocks.{tops}
use Rattle.ror_value.specs.Over.{IsLawfulIn}
use Rattle.ror_system.specs.Acceptance.{stage, place}
use Rattle.ror_check.specs.Proof.{base_system}
use Rattle.ror_system.proofs.Reasons.{one_multiplier_reason}
use Rattle.ror_proof.proofs.Utf8Lemmas.{ascii_is_utf8, line_text_is_utf8}
use Rattle.ror_report.specs.Reading.{begins_end}
use Rattle.ror_discriminate.specs.Head.{header_text}
use Rattle.ror_bench.specs.declared.report.Reason.{Reason}
use Rattle.ror_bench.specs.declared.report.Reason.TheVariants as reasons
use Rattle.ror_bench.proofs.UniqueLemmas.{one_some}
use Rattle.ror_discriminate.specs.declared.entry.Entry.{Entry}
use Rattle.ror_discriminate.specs.declared.entry.EntryBody.{EntryBody}
use Rattle.ror_discriminate.specs.declared.entry.EntryBody.TheVariants as bodies
use Rattle.ror_system.specs.declared.accept.Multipliers.{Multipliers}
use Rattle.ror_discriminate.specs.declared.fault.ContradictionFault.{ContradictionFault}
use Rattle.ror_discriminate.specs.declared.fault.ContradictionFault.TheVariants as contradictions
use Rattle.ror_discriminate.specs.Contradictions.{FailsContradiction, IsEarlierContradictionFault, contradiction_stage}
use Rattle.ror_discriminate.proofs.Contradictory.{shown_passes}
use Rattle.ror_discriminate.proofs.OneFault.{one_first_fault}
use Rattle.ror_discriminate.proofs.OptimalTests.{passes}
use Rattle.ror_discriminate.proofs.Margins.{tops_are, most_discriminating}
use Rattle.ror_discriminate.proofs.EntryLemmas.{is_read_iff_text, entry_begins}
use Rattle.ror_discriminate.proofs.EntryUtf8.{entry_text_is_utf8}
use Rattle.ror_entries.specs.Kind.{IsKind, HasOneReason}
use Rattle.ror_work_discriminate.specs.Entries.{contradiction_reason, IsProvedBody, IsTrueBody, RefusesBody, IsProvedEntry, IsTrueEntry, RefusesEntry, other_desk, at_fault, best_kind}
use Rattle.ror_work_discriminate.specs.Steps.{AreDesks}

-- ---- one first fault

module _ (t : DecisionTable) (list : List Statement) where
  same_contradiction : (m : Multipliers) (f g : ContradictionFault) → FailsContradiction t list m f → FailsContradiction t list m g → contradiction_stage f ≡ contradiction_stage g → f ≡ g
  same_contradiction m contradictions.NoStrictRow contradictions.NoStrictRow first second stage = refl
  same_contradiction m contradictions.NoStrictRow g first second stage = absurd (omega arith)
  same_contradiction m (contradictions.Multipliers q) (contradictions.Multipliers r) first second stage = ap contradictions.Multipliers (one_multiplier_reason (base_system t list) m.weak m.strict q r first second)
  same_contradiction m (contradictions.Multipliers q) contradictions.NoStrictRow first second stage = absurd (omega arith)
  same_contradiction m (contradictions.Multipliers q) contradictions.Memory first second stage = absurd second
  same_contradiction m contradictions.Memory g first second stage = absurd first

  one_contradiction : (m : Multipliers) (f g : ContradictionFault) → IsFirst (FailsContradiction t list m) IsEarlierContradictionFault f → IsFirst (FailsContradiction t list m) IsEarlierContradictionFault g → f ≡ g
  one_contradiction m f g first second =
      let at = first_at (FailsContradiction t list m) contradiction_stage (λ fault. 0) f g first second in
      same_contradiction m f g first.fails second.fails at.0

  one_body_reason : (body : EntryBody) (q r : Reason) → RefusesBody t list body q → RefusesBody t list body r → q ≡ r
  one_body_reason (bodies.Best margin total x) q r (inl first) (inl second) = first.2 ∙ ap reasons.Optimal (one_first_fault (base_system t list) (tops t) x first.0 second.0 first.1 second.1) ∙ sym second.2
  one_body_reason (bodies.Best margin total x) q r (inl first) (inr second) = absurd (passes (base_system t list) (tops t) x second.0 first.0 first.1.fails)
  one_body_reason (bodies.Best margin total x) q r (inr first) (inl second) = absurd (passes (base_system t list) (tops t) x first.0 second.0 second.1.fails)
  one_body_reason (bodies.Best margin total x) q r (inr first) (inr second) = first.2 ∙ sym second.2
  one_body_reason bodies.NoStrictRow q r first second = first.1 ∙ sym second.1
  one_body_reason (bodies.Contradiction m) q r first second = first.2 ∙ ap contradiction_reason (one_contradiction m first.0 second.0 first.1 second.1) ∙ sym second.2
  one_body_reason (bodies.BaseWide note) q r first second = absurd first
  one_body_reason (bodies.ClimbWide note) q r first second = absurd first

  -- what is proved is not refused
  proved_body_passes : (body : EntryBody) (r : Reason) → IsProvedBody t list body → RefusesBody t list body r → ⊥
  proved_body_passes (bodies.Best margin total x) r proved (inl fails) = passes (base_system t list) (tops t) x proved.0 fails.0 fails.1.fails
  proved_body_passes (bodies.Best margin total x) r proved (inr other) = other.1 proved.1
  proved_body_passes bodies.NoStrictRow r proved fails = fails.0 proved
  proved_body_passes (bodies.Contradiction m) r proved fails = shown_passes t list m fails.0 proved fails.1.fails
  proved_body_passes (bodies.BaseWide note) r proved fails = fails
  proved_body_passes (bodies.ClimbWide note) r proved fails = fails

  -- and is true
  proved_body_true : IsTable t → IsLawfulIn t list → (body : EntryBody) → IsProvedBody t list body → IsTrueBody t list body
  proved_body_true table lawful (bodies.Best margin total x) proved = (most_discriminating t list x.solution.steps x.multipliers.weak x.multipliers.strict (tops_are t table) lawful proved.0, proved.1)
  proved_body_true table lawful bodies.NoStrictRow proved = proved
  proved_body_true table lawful (bodies.Contradiction m) proved = proved.contradictory
  proved_body_true table lawful (bodies.BaseWide note) proved = tt
  proved_body_true table lawful (bodies.ClimbWide note) proved = tt

-- ---- the first line

pub header_is_utf8 : IsUtf8 header_text
unfolding header_text
header_is_utf8 = line_text_is_utf8 (codes "ror-discriminate" ∷ codes "1" ∷ []) (ascii_is_utf8 (codes "ror-discriminate") refl, (ascii_is_utf8 (codes "1") refl, tt))

-- ---- entries at their places

one_list : (lists : List (List Statement)) (place : ℕ) (a b : List Statement) → slice_get lists place ≡ Some a → slice_get lists place ≡ Some b → b ≡ a
one_list lists place a b e f = one_some (slice_get lists place) b a f e

lawful_there : (t : DecisionTable) (lists : List (List Statement)) (place : ℕ) (list : List Statement) → AllByRecursion (IsLawfulIn t) lists → slice_get lists place ≡ Some list → IsLawfulIn t list
lawful_there t [] place list all there = absurd cc
lawful_there t (l ∷ ls) zero list all there = let same : l ≡ list = cc in subst (IsLawfulIn t) same all.0
lawful_there t (l ∷ ls) (suc place) list all there = lawful_there t ls place list all.1 there

begins_no_end : (more : List ℕ) → begins_end (codes "desk" ++ more) ≡ false
begins_no_end more = refl

module _ (t : DecisionTable) (names : List (List ℕ)) (lists : List (List Statement)) where
  -- an entry is refused at a place for one reason
  pub one_reason : HasOneReason (best_kind t names lists)
  one_reason place x q r (other_desk off is) (other_desk besides and) = is ∙ sym and
  one_reason place x q r (other_desk off is) (at_fault on) = absurd (off on.name_there)
  one_reason place x q r (at_fault on) (other_desk off is) = absurd (off on.name_there)
  one_reason place x q r (at_fault on) (at_fault there) =
      let same = one_list lists place on.list there.list on.list_there there.list_there in
      one_body_reason t on.list x.body q r on.holds (subst (λ (l : List Statement). RefusesBody t l x.body r) same there.holds)

  proved_passes : (place : ℕ) (x : Entry) (reason : Reason) → IsProvedEntry t names lists place x → RefusesEntry t names lists place x reason → ⊥
  proved_passes place x reason proved (other_desk off is) = off proved.name_there
  proved_passes place x reason proved (at_fault on) =
      let same = one_list lists place proved.list on.list proved.list_there on.list_there in
      proved_body_passes t proved.list x.body reason proved.holds (subst (λ (l : List Statement). RefusesBody t l x.body reason) same on.holds)

  module _ (desks : AreDesks t names lists) where
    proved_true : (place : ℕ) (x : Entry) → IsProvedEntry t names lists place x → IsTrueEntry t names lists place x
    proved_true place x proved = record {
      list = proved.list;
      name_there = proved.name_there;
      list_there = proved.list_there;
      holds = proved_body_true t proved.list desks.table (lawful_there t lists place proved.list desks.lawful proved.list_there) x.body proved.holds;
    }

    pub are_kind : IsKind (best_kind t names lists)
    are_kind = record {
      few = let few = desks.few in omega (arith, few);
      read_iff_text = λ c x after.
          let same = is_read_iff_text c x after in
          ((λ read. let text = same.0 read in record { text = text.text; place = text.place; printable = text.printable; follows = tt }), λ text. same.1 (record { text = text.text; place = text.place; printable = text.printable }));
      begins_no_end = λ x rest printable.
          let begins = entry_begins x in
          ap (λ (text : List ℕ). begins_end (text ++ rest)) begins.1 ∙ begins_no_end (begins.0 ++ rest);
      entry_follows = λ x next rest has printable. tt;
      end_follows = λ x n has. tt;
      utf8 = λ x printable. entry_text_is_utf8 x printable;
      proved_not_refused = proved_passes;
      proved_is_true = proved_true;
    }
