-- The first of the faults that a value has, in a stated order of the tests.
use Rattle.std.specs.Prelude.{◌≡◌, ◌≢◌, ℕ, ◌<◌, ◌⊎◌}

-- the value has this fault, and none that comes before it
pub record IsFirst {F : Type 0} (Fails : F → Type 0) (Precedes : F → F → Type 0) (fault : F) : Type 0 where
  pub fails : Fails fault
  pub none_before : (other : F) → Precedes other fault → Fails other → ⊥

-- the fault is the first that the value has, unless it is want of memory, of which nothing is said
abbrev pub IsRefusedBy : {F : Type 0} → (F → Type 0) → (F → F → Type 0) → F → F → Type 0
IsRefusedBy Fails Precedes memory fault = fault ≢ memory → IsFirst Fails Precedes fault

-- an order of tests by stages, and within a stage by places
abbrev pub IsEarlier : {F : Type 0} → (F → ℕ) → (F → ℕ) → F → F → Type 0
IsEarlier stage place other fault = (stage other < stage fault) ⊎ ((stage other ≡ stage fault) × (place other < place fault))
