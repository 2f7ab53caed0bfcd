-- What a first fault and a refusal say, whatever the tests are.
use Rattle.std.proofs.Common.{◌≡◌, ◌≢◌, ◌⊎◌, inl, inr, ℕ, ◌<◌, ◌≤◌, Result, Ok, Err, refl, sym, arith}
use Rattle.std.specs.Prelude.{IfErr}
use Rattle.std.proofs.lemmas.Bool.{cases_lt}
use Rattle.ror_text.specs.FirstFault.{IsFirst, IsRefusedBy, IsEarlier}

-- want of memory says nothing
pub refused_by_memory : {F : Type 0} (Fails : F → Type 0) (Precedes : F → F → Type 0) (memory : F) → IsRefusedBy Fails Precedes memory memory
refused_by_memory Fails Precedes memory ne = absurd (ne refl)

-- what passes each test is not refused
pub refused_not_passed : {F A P : Type 0} (Fails : F → Type 0) (Precedes : F → F → Type 0) (memory : F) (result : Result A F) → ((fault : F) → P → Fails fault → ⊥) → IfErr result (IsRefusedBy Fails Precedes memory) → IfErr result (λ fault. fault ≢ memory → P → ⊥)
refused_not_passed Fails Precedes memory (Ok x) passes refused = tt
refused_not_passed Fails Precedes memory (Err fault) passes refused = λ ne p. passes fault p (refused ne).fails

-- a test of a stage that is no earlier, at a place that is no earlier, is no earlier test
pub not_earlier : {F : Type 0} (stage place : F → ℕ) (other fault : F) → stage fault ≤ stage other → place fault ≤ place other → IsEarlier stage place other fault → ⊥
not_earlier stage place other fault l m (inl less) = omega arith
not_earlier stage place other fault l m (inr same) = let less = same.1 in omega arith

-- first faults have one stage and one place
pub first_at : {F : Type 0} (Fails : F → Type 0) (stage place : F → ℕ) (f g : F) → IsFirst Fails (IsEarlier stage place) f → IsFirst Fails (IsEarlier stage place) g → (stage f ≡ stage g) × (place f ≡ place g)
first_at Fails stage place f g first second = (stages, places (cases_lt (place f) (place g)) (cases_lt (place g) (place f)))
  where
    stages_at : (stage f < stage g) ⊎ (stage g ≤ stage f) → (stage g < stage f) ⊎ (stage f ≤ stage g) → stage f ≡ stage g
    stages_at (inl l) k = absurd (second.none_before f (inl l) first.fails)
    stages_at (inr l) (inl k) = absurd (first.none_before g (inl k) second.fails)
    stages_at (inr l) (inr k) = omega arith

    stages : stage f ≡ stage g
    stages = stages_at (cases_lt (stage f) (stage g)) (cases_lt (stage g) (stage f))

    places : (place f < place g) ⊎ (place g ≤ place f) → (place g < place f) ⊎ (place f ≤ place g) → place f ≡ place g
    places (inl l) k = absurd (second.none_before f (inr (stages, l)) first.fails)
    places (inr l) (inl k) = absurd (first.none_before g (inr (sym stages, k)) second.fails)
    places (inr l) (inr k) = omega arith
