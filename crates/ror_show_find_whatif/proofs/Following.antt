-- A statement follows from the others where no function agrees with them and its contrary.
use Rattle.std.proofs.Common.{◌≡◌, ℕ, zero, suc, ◌<◌, Bool, true, false, List, [], ◌∷◌, Option, Some, None, refl, sym, ap, subst, ◌∙◌, inl, inr}
use Rattle.std.specs.Prelude.{◌⊎◌, ◌==◌, not, slice_get, ℤ, ◌<ℤ◌}
use Rattle.std.specs.List.{filter}
use Rattle.std.specs.Option.{option_map}
use Rattle.std.proofs.lemmas.Bool.{cases_Bool}
use Rattle.std.proofs.lemmas.Option.{slice_get-map}
use Rattle.ror_statement.specs.declared.comparison.Comparison.{Comparison}
use Rattle.ror_statement.specs.declared.statement.Assignment.{Assignment}
use Rattle.ror_statement.specs.declared.statement.Numbered.{Numbered}
use Rattle.ror_statement.specs.declared.statement.Statement.{Statement}
use Rattle.ror_statement.specs.declared.statement.Statement.TheVariants.{Prefer, AtLeast as At, Same, Stronger, AsStrong, EqualStrength, Class}
use Rattle.ror_statement.specs.Statements.{comparison_of, assignment_of}
use Rattle.ror_table.specs.Table.{DecisionTable}
use Rattle.ror_value.specs.Value.{value}
use Rattle.ror_value.specs.Laws.{MeetsEach}
use Rattle.ror_value.specs.Meaning.{Holds, Meets}
use Rattle.ror_value.proofs.MeetingEach.{meets_each, each_meets}
use Rattle.ror_check.specs.Repair.{is_among, kept_of}
use Rattle.ror_show_find_whatif.specs.Changed.{left_of, contrary_of, placed, instead_of}
use Rattle.ror_show_find_whatif.specs.Laws.{ContradictedFollows}
use Rattle.ror_show_find_whatif.specs.Meaning.{AreContrary}
use Rattle.ror_show_find_whatif.proofs.Contraries.{contraries}

-- ---- what is left stands somewhere

-- an element that passes a test stands somewhere among those that do
pub passes_there : {X : Type 0} (p : X → Bool) (xs : List X) (k : ℕ) (x : X) → slice_get xs k ≡ Some x → p x ≡ true → (i : ℕ) × (slice_get (filter p xs) i ≡ Some x)
passes_there p [] k x there passes = absurd cc
passes_there p (y ∷ ys) zero x there passes =
    let same : y ≡ x = cc in
    let first : p y ≡ true = ap p same ∙ passes in
    rw first (0, there)
passes_there p (y ∷ ys) (suc k) x there passes =
    let rest = passes_there p ys k x there passes in
    elim (cases_Bool (p y)) [
      | inl yes_ ↦ rw yes_ (suc rest.0, rest.1)
      | inr no_ ↦ rw no_ rest
    ]

-- one without the number is left
left_there : (list : List Numbered) (n k : ℕ) (x : Numbered) → slice_get list k ≡ Some x → (x.number == n) ≡ false → (i : ℕ) × (slice_get (left_of (n ∷ []) list) i ≡ Some x.statement)
left_there list n k x there other =
    let kept : not (is_among (n ∷ []) x) ≡ true = rw other refl in
    let at = passes_there (λ (y : Numbered). not (is_among (n ∷ []) y)) list k x there kept in
    (at.0, slice_get-map (λ (y : Numbered). y.statement) (kept_of (n ∷ []) list) at.0 ∙ ap (option_map (λ (y : Numbered). y.statement)) at.1)

-- ---- what stands with the contrary

-- what stands at a place is the contrary, or is left
pub record IsPlaced (n : ℕ) (r : Statement) (list : List Numbered) (k : ℕ) (s : Statement) : Type 0 where
  pub number : Numbered
  pub there : slice_get list k ≡ Some number
  pub is : s ≡ placed n r number

placed_at : (n : ℕ) (r : Statement) (list : List Numbered) (k : ℕ) (s : Statement) → slice_get (instead_of n r list) k ≡ Some s → IsPlaced n r list k s
placed_at n r list k s there = by (slice_get list k) refl
  where
    by : (o : Option Numbered) → slice_get list k ≡ o → IsPlaced n r list k s
    by None none = absurd (let empty : None ≡ Some s = sym (slice_get-map (placed n r) list k ∙ ap (option_map (placed n r)) none) ∙ there in cc)
    by (Some x) some = let same : Some (placed n r x) ≡ Some s = sym (slice_get-map (placed n r) list k ∙ ap (option_map (placed n r)) some) ∙ there in record { number = x; there = some; is = cc }

pub record StandsLeft (n : ℕ) (list : List Numbered) (s : Statement) : Type 0 where
  pub at : ℕ
  pub there : slice_get (left_of (n ∷ []) list) at ≡ Some s

contrary_or_left : (n : ℕ) (r : Statement) (list : List Numbered) (k : ℕ) (s : Statement) → slice_get (instead_of n r list) k ≡ Some s → (s ≡ r) ⊎ StandsLeft n list s
contrary_or_left n r list k s there = by (at.number.number == n) refl
  where
    at : IsPlaced n r list k s
    at = placed_at n r list k s there

    by : (b : Bool) → (at.number.number == n) ≡ b → (s ≡ r) ⊎ StandsLeft n list s
    by true same = inl (at.is ∙ rw same refl)
    by false other =
        let left = left_there list n k at.number at.there other in
        let is : s ≡ at.number.statement = at.is ∙ rw other refl in
        inr (record { at = left.0; there = left.1 ∙ ap Some (sym is) })

-- a contrary assigns nothing
none_assigned : (r v : Statement) (x : Assignment) → v ≡ r → assignment_of v ≡ None → assignment_of r ≡ Some x → ⊥
none_assigned r v x same none assigned = let empty : None ≡ Some x = sym none ∙ ap assignment_of same ∙ assigned in absurd cc

unassigned : (s r : Statement) (x : Assignment) → contrary_of s ≡ Some r → assignment_of r ≡ Some x → ⊥
unassigned (Prefer a b) r x is assigned =
    let same : At b a ≡ r = cc in
    let none : assignment_of (At b a) ≡ None = refl in
    none_assigned r (At b a) x same none assigned
unassigned (At a b) r x is assigned =
    let same : Prefer b a ≡ r = cc in
    let none : assignment_of (Prefer b a) ≡ None = refl in
    none_assigned r (Prefer b a) x same none assigned
unassigned (Stronger p q scope) r x is assigned =
    let same : AsStrong q p scope ≡ r = cc in
    let none : assignment_of (AsStrong q p scope) ≡ None = refl in
    none_assigned r (AsStrong q p scope) x same none assigned
unassigned (AsStrong p q scope) r x is assigned =
    let same : Stronger q p scope ≡ r = cc in
    let none : assignment_of (Stronger q p scope) ≡ None = refl in
    none_assigned r (Stronger q p scope) x same none assigned
unassigned (Same a b) r x is assigned = absurd cc
unassigned (EqualStrength p q scope) r x is assigned = absurd cc
unassigned (Class a lowest highest) r x is assigned = absurd cc

-- a function that meets what is left, and has what the contrary says, meets both together
meets_instead : (t : DecisionTable) (w : List ℤ) (n : ℕ) (u r : Statement) (list : List Numbered) (d : Comparison) → contrary_of u ≡ Some r → comparison_of r ≡ Some d → Meets t w (left_of (n ∷ []) list) → Holds t w d → Meets t w (instead_of n r list)
meets_instead t w n u r list d is compares meets holds = each_meets t w (instead_of n r list) (record { comparisons = compared; classes = classed })
  where
    left : MeetsEach t w (left_of (n ∷ []) list)
    left = meets_each t w (left_of (n ∷ []) list) meets

    compared : (k : ℕ) (s : Statement) (c : Comparison) → slice_get (instead_of n r list) k ≡ Some s → comparison_of s ≡ Some c → Holds t w c
    compared k s c there of = elim (contrary_or_left n r list k s there) [
      | inl same ↦ let equal : d ≡ c = let p = sym compares ∙ ap comparison_of (sym same) ∙ of in cc in subst (Holds t w) equal holds
      | inr stands ↦ left.comparisons stands.at s c stands.there of
    ]

    classed : (j k : ℕ) (s v : Statement) (x y : Assignment) → slice_get (instead_of n r list) j ≡ Some s → slice_get (instead_of n r list) k ≡ Some v → assignment_of s ≡ Some x → assignment_of v ≡ Some y → y.highest < x.lowest → value t w y.alternative <ℤ value t w x.alternative
    classed j k s v x y first second of_first of_second above = elim (contrary_or_left n r list j s first) [
      | inl same ↦ absurd (unassigned u r x is (ap assignment_of (sym same) ∙ of_first))
      | inr stands ↦ elim (contrary_or_left n r list k v second) [
        | inl same ↦ absurd (unassigned u r y is (ap assignment_of (sym same) ∙ of_second))
        | inr behind ↦ left.classes stands.at behind.at s v x y stands.there behind.there of_first of_second above
      ]
    ]

-- what isn't held is denied
holds_or_denies : (t : DecisionTable) (c d : Comparison) (w : List ℤ) → AreContrary t c d → (Holds t w d → ⊥) → Holds t w c
holds_or_denies t c d w contrary denied = (contrary w).1 denied

pub contradicted_follows : ContradictedFollows
contradicted_follows t list k x r c rising there is says none w compatible =
    let to = contraries t x.statement r is in
    let same : to.says ≡ c = let p = sym to.first ∙ says in cc in
    let denied : Holds t w to.denies → ⊥ = λ holds. none w (record { function = compatible.function; meets = meets_instead t w x.number x.statement r list to.denies is to.second compatible.meets holds }) in
    subst (Holds t w) same (holds_or_denies t to.says to.denies w to.contrary denied)
