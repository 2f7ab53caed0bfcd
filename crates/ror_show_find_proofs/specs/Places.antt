-- Where functions stand among answers: which of them are shown, in order.
use Rattle.std.specs.Prelude.{ℕ, ◌-◌, Bool, true, false, not, ◌==◌, List, [], ◌∷◌, ◌++◌, length, slice_get, Option, Some, None, if◌then◌else◌, ℤ}
use Rattle.std.specs.List.{flat_map, range_with_len}
use Rattle.std.specs.Option.{is_some, option_and_then, option_map_or}
use Rattle.ror_proof.specs.declared.answer.Answer.{Answer}
use Rattle.ror_proof.specs.declared.answer.Part.{Part}
use Rattle.ror_proof.specs.Reading.{base_of}
use Rattle.ror_show_find_proofs.specs.declared.function_places.Place.{Place}
use Rattle.ror_show_find_proofs.specs.Functions.{steps_in, parts_of, same_numbers}

-- ---- the solutions of answers

-- that of the base of the answer at a place, where it has one
abbrev pub base_at : List Answer → ℕ → Option (List ℤ)
base_at xs k = option_and_then (λ x. option_and_then steps_in (base_of x.verdict)) (slice_get xs k)

-- that of the answer before it
abbrev pub base_before : List Answer → ℕ → Option (List ℤ)
base_before xs k = if k == 0 then None else base_at xs (k - 1)

-- the parts of the answer at a place
abbrev pub parts_at : List Answer → ℕ → List Part
parts_at xs k = option_map_or (λ x. parts_of x.verdict) (slice_get xs k) []

-- that of one of them
abbrev pub part_steps : List Answer → ℕ → ℕ → Option (List ℤ)
part_steps xs k j = option_and_then (λ p. steps_in p.body) (slice_get (parts_at xs k) j)

-- that at a place: of the base, or of a part
abbrev pub steps_for : List Answer → ℕ → Option ℕ → Option (List ℤ)
steps_for xs k None = base_at xs k
steps_for xs k (Some j) = part_steps xs k j

abbrev pub steps_at : List Answer → Place → Option (List ℤ)
steps_at xs p = steps_for xs p.answer p.part

-- ---- those that are shown

-- a base is, unless it is that of the answer before
abbrev pub is_new : Option (List ℤ) → Option (List ℤ) → Bool
is_new before None = false
is_new None (Some w) = true
is_new (Some v) (Some w) = not (same_numbers v w)

abbrev pub base_place : List Answer → ℕ → List Place
base_place xs k = if is_new (base_before xs k) (base_at xs k) then record { answer = k; part = None } ∷ [] else []

-- a part is, where it is a solution
abbrev pub part_place : List Answer → ℕ → ℕ → List Place
part_place xs k j = if is_some (part_steps xs k j) then record { answer = k; part = Some j } ∷ [] else []

abbrev pub part_places : List Answer → ℕ → List Place
part_places xs k = flat_map (part_place xs k) (range_with_len 0 (length (parts_at xs k)))

unfoldable pub places_of : List Answer → ℕ → List Place
places_of xs k = base_place xs k ++ part_places xs k

abbrev pub places : List Answer → List Place
places xs = flat_map (places_of xs) (range_with_len 0 (length xs))
