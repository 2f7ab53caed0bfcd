-- The entries of a report of ranks are a kind, of which each is refused for one reason.
use Rattle.std.proofs.Common.{◌≡◌, ℕ, ◌++◌, zero, suc, false, List, [], ◌∷◌, Some, refl, sym, ap, ◌∙◌, subst, arith}
use Rattle.std.specs.Prelude.{slice_get, codes}
use Rattle.std.specs.List.{AllByRecursion}
use Rattle.ror_statement.specs.declared.statement.Statement.{Statement}
use Rattle.ror_table.specs.Table.{DecisionTable}
use Rattle.ror_system.proofs.MultiplierTests.{none_fails}
use Rattle.ror_system.proofs.Reasons.{one_multiplier_reason}
use Rattle.ror_value.specs.Over.{IsLawfulIn}
use Rattle.ror_check.specs.Proof.{base_system}
use Rattle.ror_report.specs.Reading.{begins_end}
use Rattle.ror_bench.specs.declared.report.Reason.{Reason}
use Rattle.ror_bench.specs.declared.report.Reason.TheVariants as reasons
use Rattle.ror_bench.proofs.UniqueLemmas.{one_some}
use Rattle.ror_ranks_text.specs.declared.entry.Entry.{Entry}
use Rattle.ror_ranks_text.specs.declared.entry.EntryBody.{EntryBody}
use Rattle.ror_ranks_text.specs.declared.entry.EntryBody.TheVariants as bodies
use Rattle.ror_ranks.proofs.FaultLemmas.{one_ranks_fault, proved_ranks_pass}
use Rattle.ror_ranks.proofs.ConflictTruth.{proved_ranks_true}
use Rattle.ror_ranks.proofs.Contradictions.{refuted_is_contradictory}
use Rattle.ror_ranks_text.proofs.EntryLemmas.{is_read_iff_text, entry_begins}
use Rattle.ror_ranks_text.proofs.EntryUtf8.{entry_text_is_utf8}
use Rattle.ror_entries.specs.Kind.{IsKind, HasOneReason}
use Rattle.ror_work_ranks.specs.Entries.{ranks_reason, IsProvedBody, IsTrueBody, RefusesBody, IsProvedEntry, IsTrueEntry, RefusesEntry, other_desk, at_fault, ranks_kind}
use Rattle.ror_work_ranks.specs.Steps.{AreDesks}

-- ---- one first fault

module _ (t : DecisionTable) (list : List Statement) where
  one_body_reason : (body : EntryBody) (q r : Reason) → RefusesBody t list body q → RefusesBody t list body r → q ≡ r
  one_body_reason (bodies.Ranks xs) q r first second = first.2 ∙ ap ranks_reason (one_ranks_fault t list xs first.0 second.0 first.1 second.1) ∙ sym second.2
  one_body_reason (bodies.Contradiction m) q r first second = first.2 ∙ ap reasons.Contradiction (one_multiplier_reason (base_system t list) m.weak m.strict first.0 second.0 first.1 second.1) ∙ sym second.2
  one_body_reason (bodies.BaseWide note) q r first second = absurd first

  -- what is proved is not refused
  proved_body_passes : (body : EntryBody) (r : Reason) → IsProvedBody t list body → RefusesBody t list body r → ⊥
  proved_body_passes (bodies.Ranks xs) r proved fails = proved_ranks_pass t list xs fails.0 proved fails.1.fails
  proved_body_passes (bodies.Contradiction m) r proved fails = none_fails (base_system t list) m.weak m.strict proved fails.0 fails.1.fails
  proved_body_passes (bodies.BaseWide note) r proved fails = fails

  -- and is true
  proved_body_true : IsLawfulIn t list → (body : EntryBody) → IsProvedBody t list body → IsTrueBody t list body
  proved_body_true lawful (bodies.Ranks xs) proved = proved_ranks_true t list xs lawful proved
  proved_body_true lawful (bodies.Contradiction m) proved = refuted_is_contradictory t list m lawful proved
  proved_body_true lawful (bodies.BaseWide note) proved = tt

-- ---- entries at their places

one_list : (lists : List (List Statement)) (place : ℕ) (a b : List Statement) → slice_get lists place ≡ Some a → slice_get lists place ≡ Some b → b ≡ a
one_list lists place a b e f = one_some (slice_get lists place) b a f e

lawful_there : (t : DecisionTable) (lists : List (List Statement)) (place : ℕ) (list : List Statement) → AllByRecursion (IsLawfulIn t) lists → slice_get lists place ≡ Some list → IsLawfulIn t list
lawful_there t [] place list all there = absurd cc
lawful_there t (l ∷ ls) zero list all there = let same : l ≡ list = cc in subst (IsLawfulIn t) same all.0
lawful_there t (l ∷ ls) (suc place) list all there = lawful_there t ls place list all.1 there

begins_no_end : (more : List ℕ) → begins_end (codes "desk" ++ more) ≡ false
begins_no_end more = refl

module _ (t : DecisionTable) (names : List (List ℕ)) (lists : List (List Statement)) where
  -- an entry is refused at a place for one reason
  pub one_reason : HasOneReason (ranks_kind t names lists)
  one_reason place x q r (other_desk off is) (other_desk besides and) = is ∙ sym and
  one_reason place x q r (other_desk off is) (at_fault on) = absurd (off on.name_there)
  one_reason place x q r (at_fault on) (other_desk off is) = absurd (off on.name_there)
  one_reason place x q r (at_fault on) (at_fault there) =
      let same = one_list lists place on.list there.list on.list_there there.list_there in
      one_body_reason t on.list x.body q r on.holds (subst (λ (l : List Statement). RefusesBody t l x.body r) same there.holds)

  proved_passes : (place : ℕ) (x : Entry) (reason : Reason) → IsProvedEntry t names lists place x → RefusesEntry t names lists place x reason → ⊥
  proved_passes place x reason proved (other_desk off is) = off proved.name_there
  proved_passes place x reason proved (at_fault on) =
      let same = one_list lists place proved.list on.list proved.list_there on.list_there in
      proved_body_passes t proved.list x.body reason proved.holds (subst (λ (l : List Statement). RefusesBody t l x.body reason) same on.holds)

  module _ (desks : AreDesks t names lists) where
    proved_true : (place : ℕ) (x : Entry) → IsProvedEntry t names lists place x → IsTrueEntry t names lists place x
    proved_true place x proved = record {
      list = proved.list;
      name_there = proved.name_there;
      list_there = proved.list_there;
      holds = proved_body_true t proved.list (lawful_there t lists place proved.list desks.lawful proved.list_there) x.body proved.holds;
    }

    pub are_kind : IsKind (ranks_kind t names lists)
    are_kind = record {
      few = let few = desks.few in omega (arith, few);
      read_iff_text = λ c x after.
          let same = is_read_iff_text t c x after desks.table in
          ((λ read. let text = same.0 read in record { text = text.text; place = text.place; printable = text.printable; follows = tt }), λ text. same.1 (record { text = text.text; place = text.place; printable = text.printable }));
      begins_no_end = λ x rest printable.
          let begins = entry_begins t x in
          ap (λ (text : List ℕ). begins_end (text ++ rest)) begins.1 ∙ begins_no_end (begins.0 ++ rest);
      entry_follows = λ x next rest has printable. tt;
      end_follows = λ x n has. tt;
      utf8 = λ x printable. entry_text_is_utf8 t desks.table x printable;
      proved_not_refused = proved_passes;
      proved_is_true = proved_true;
    }
