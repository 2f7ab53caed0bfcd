-- What each step of a search leaves to the next.
use Rattle.std.proofs.Common.{◌≡◌, ℕ, zero, suc, ◌+◌, ◌<◌, List, [], ◌∷◌, ◌++◌, length, map, get_or, Some, refl, sym, ap, subst, ◌∙◌, arith, inl, inr}
use Rattle.std.proofs.lemmas.Bool.{cases_lt}
use Rattle.std.proofs.lemmas.List.{map-append}
use Rattle.std.proofs.lemmas.Option.{slice_get_read}
use Rattle.std.specs.Prelude.{slice_get}
use Rattle.std.specs.List.{AllByRecursion}
use Rattle.ror_text.proofs.ListLemmas.{range_more}
use Rattle.smallvec.specs.SmallVec.{SmallVec}
use Rattle.ror_text.proofs.Everywhere.{all-append, all_at}
use Rattle.ror_statement.specs.declared.question.Conclusion.{Conclusion}
use Rattle.ror_statement.specs.declared.question.Conclusion.TheVariants as conclusions
use Rattle.ror_table.specs.Table.{DecisionTable}
use Rattle.ror_system.specs.System.{LinearSystem, IsSolvable}
use Rattle.ror_system.specs.declared.accept.Multipliers.{Multipliers}
use Rattle.ror_system.proofs.Motzkin.{not_both}
use Rattle.ror_rows.specs.declared.extra.Extra.{Extra}
use Rattle.ror_rows.specs.Rows.{extended_by, extras_of}
use Rattle.ror_proof.specs.declared.answer.Certificate.{Certificate}
use Rattle.ror_proof.specs.declared.answer.Certificate.TheVariants as certificates
use Rattle.ror_proof.specs.declared.answer.Part.{Part}
use Rattle.ror_check.specs.Steps.{AreUsable}
use Rattle.ror_proof.specs.declared.answer.WideText.{WideText}
use Rattle.ror_relation.specs.declared.decision.Decision.{Decision}
use Rattle.ror_given.specs.Notes.{HasNoteAt}
use Rattle.ror_relation.specs.Decisions.{ShowsAsBase, IsDecision, NoneSolvableBelow, IsPartOf, AreRefuted, IsWideSystem}

-- ---- the system at hand

some_same : {X : Type 0} {x y : X} → Some x ≡ Some y → x ≡ y
some_same e = cc

pub system_here : (t : DecisionTable) (base : LinearSystem) (systems : List (SmallVec Extra)) (i : ℕ) (extra : SmallVec Extra) → i < length systems → extra ≡ get_or systems i extra
    → slice_get (map (extended_by t base) (map extras_of systems)) i ≡ Some (extended_by t base (extras_of extra))
system_here t base systems i extra within is =
    at_mapped (extended_by t base) (map extras_of systems) i (extras_of extra) (at_mapped extras_of systems i extra (slice_get_read systems (length systems) i extra refl within is))
  where
    at_mapped : {X Y : Type 0} (f : X → Y) (xs : List X) (i : ℕ) (x : X) → slice_get xs i ≡ Some x → slice_get (map f xs) i ≡ Some (f x)
    at_mapped f [] i x there = absurd cc
    at_mapped f (y ∷ ys) zero x there = ap (λ z. Some (f z)) (some_same there)
    at_mapped f (y ∷ ys) (suc i) x there = at_mapped f ys i x there

pub usable_here : (t : DecisionTable) (systems : List (SmallVec Extra)) (i : ℕ) (extra : SmallVec Extra) → AllByRecursion (AreUsable t) systems → i < length systems → extra ≡ get_or systems i extra → AreUsable t extra
usable_here t systems i extra all within is = all_at (AreUsable t) systems i extra all (slice_get_read systems (length systems) i extra refl within is)

-- what the system at hand comes to is what the one that is meant does
pub decided_as : (most : ℕ) (s meant : LinearSystem) (d found : Decision) → s ≡ meant → d ≡ found → IsDecision most s d → IsDecision most meant found
decided_as most s meant d found is same decided = subst (λ (z : LinearSystem). IsDecision most z found) is (subst (λ (e : Decision). IsDecision most s e) same decided)

-- ---- parts

pub part_here : (most : ℕ) (c : Conclusion) (systems : List LinearSystem) (i : ℕ) (s : LinearSystem) (x : Certificate) → slice_get systems i ≡ Some s → ShowsAsBase most c s x → IsPartOf most c systems (record { at = i + 1; body = x })
part_here most c systems i s x there shows = record {
  shown = record { system = s; before = i; counted = refl; there = there; shown = shows.0 };
  narrow = shows.1;
}

pub wide_here : (most : ℕ) (systems : List LinearSystem) (i : ℕ) (s : LinearSystem) (note : WideText) → slice_get systems i ≡ Some s → HasNoteAt most s note → NoneSolvableBelow systems i → IsWideSystem most systems (i + 1) note
wide_here most systems i s note there noted none = record { before = i; counted = refl; system = s; there = there; noted = noted; none_solvable = none }

none_more : (systems : List LinearSystem) (i : ℕ) (s : LinearSystem) → slice_get systems i ≡ Some s → (IsSolvable s → ⊥) → NoneSolvableBelow systems i → NoneSolvableBelow systems (i + 1)
none_more systems i s there refuted none j s' less at can =
    elim (cases_lt j i) [
      | inl lt ↦ none j s' lt at can
      | inr le ↦
          let is : j ≡ i = omega arith in
          let same : s' ≡ s = some_same (sym at ∙ rw is there) in
          refuted (subst IsSolvable same can)
    ]

pub refuted_more : (most : ℕ) (systems : List LinearSystem) (i : ℕ) (s : LinearSystem) (m : Multipliers) (parts : List Part) → AreRefuted most systems i parts → slice_get systems i ≡ Some s
    → ShowsAsBase most conclusions.Contradiction s (certificates.Multipliers m) → AreRefuted most systems (i + 1) (parts ++ record { at = i + 1; body = certificates.Multipliers m } ∷ [])
refuted_more most systems i s m parts so_far there shows = record {
  numbered =
      let p : Part = record { at = i + 1; body = certificates.Multipliers m } in
      map-append (λ (p : Part). p.at) parts (p ∷ []) ∙ ap (λ (ns : List ℕ). ns ++ (i + 1) ∷ []) so_far.numbered ∙ sym (range_more 1 i (i + 1) (omega arith));
  each = all-append (IsPartOf most conclusions.Contradiction systems) parts _ so_far.each (part_here most conclusions.Contradiction systems i s (certificates.Multipliers m) there shows, tt);
  none_solvable = none_more systems i s there (λ can. not_both s m.weak m.strict shows.0.refute can) so_far.none_solvable;
}
