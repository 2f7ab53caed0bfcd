-- Which functions are shown.
use Rattle.std.proofs.Common.{◌≡◌, inl, inr, ℕ, zero, suc, ◌<◌, Bool, true, false, not, List, [], ◌∷◌, length, Option, Some, None, refl, ap, subst, ◌∙◌, arith, ℤ, if◌then◌else◌}
use Rattle.std.specs.Prelude.{Contains, slice_get}
use Rattle.std.specs.Option.{is_some, option_and_then}
use Rattle.std.proofs.lemmas.List.Elements.{Contains-append_left, Contains-append_right, Contains-append_cases}
use Rattle.ror_show_ground.proofs.Tests.{not-true, nothing-in, only-in, one-in, in-pieces, of-pieces}
use Rattle.ror_proof.specs.declared.answer.Answer.{Answer}
use Rattle.ror_proof.specs.declared.answer.Part.{Part}
use Rattle.ror_show_find_proofs.specs.declared.function_places.Place.{Place}
use Rattle.ror_show_find_proofs.specs.Functions.{same_numbers, steps_in}
use Rattle.ror_show_find_proofs.specs.FunctionLaws.{IsNewBase, IsSolutionPart, IsShownFor, EachFunctionIsShown}
use Rattle.ror_show_find_proofs.specs.Places.{base_at, base_before, parts_at, part_steps, is_new, base_place, part_place, part_places, places_of, places}
use Rattle.ror_show_find_proofs.proofs.Accepted.{same_is, is_same_as}

-- ---- one place or none

abbrev one_where : Bool → Place → List Place
one_where b p = if b then p ∷ [] else []

there_where : (b : Bool) (p q : Place) → Contains (one_where b p) q → (b ≡ true) × (p ≡ q)
there_where true p q there = (refl, only-in q p there)
there_where false p q there = absurd (nothing-in q there)

-- ---- bases

new_is : (before base : Option (List ℤ)) → is_new before base ≡ true → IsNewBase before base
new_is before None is = absurd cc
new_is None (Some w) is = record { steps = w; is = refl; other = λ same. absurd cc }
new_is (Some v) (Some w) is =
    let apart : same_numbers v w ≡ false = not-true (same_numbers v w) is in
    record { steps = w; is = refl; other = λ same. (let e : v ≡ w = cc in let alike : same_numbers v w ≡ true = subst (λ (u : List ℤ). same_numbers v u ≡ true) e (is_same_as v) in absurd cc) }

is_new_base : (before base : Option (List ℤ)) → IsNewBase before base → is_new before base ≡ true
is_new_base before None h = absurd (let no : None ≡ Some h.steps = h.is in cc)
is_new_base None (Some w) h = refl
is_new_base (Some v) (Some w) h = by (same_numbers v w) refl
  where
    by : (b : Bool) → same_numbers v w ≡ b → not b ≡ true
    by true e = absurd (h.other (ap Some (same_is v w e) ∙ h.is))
    by false e = refl

-- ---- parts

solution_is : (part : Option (List ℤ)) → is_some part ≡ true → IsSolutionPart part
solution_is None is = absurd cc
solution_is (Some w) is = record { steps = w; is = refl }

is_solution : (part : Option (List ℤ)) → IsSolutionPart part → is_some part ≡ true
is_solution part h = ap is_some h.is

within_parts : (ps : List Part) (j : ℕ) → is_some (option_and_then (λ p. steps_in p.body) (slice_get ps j)) ≡ true → j < length ps
within_parts [] j is = absurd cc
within_parts (p ∷ ps) zero is = omega arith
within_parts (p ∷ ps) (suc j) is = let rest = within_parts ps j is in omega (arith, rest)

-- ---- all of an answer

abbrev IsAt : List Answer → ℕ → Place → Type 0
IsAt xs k p = (p.answer ≡ k) × IsShownFor xs p.answer p.part

of_base : (xs : List Answer) (k : ℕ) (p : Place) → Contains (base_place xs k) p → IsAt xs k p
of_base xs k p there =
    let h = there_where (is_new (base_before xs k) (base_at xs k)) (record { answer = k; part = None }) p there in
    subst (IsAt xs k) h.1 (refl, new_is (base_before xs k) (base_at xs k) h.0)

of_part : (xs : List Answer) (k j : ℕ) (p : Place) → Contains (part_place xs k j) p → IsAt xs k p
of_part xs k j p there =
    let h = there_where (is_some (part_steps xs k j)) (record { answer = k; part = Some j }) p there in
    subst (IsAt xs k) h.1 (refl, solution_is (part_steps xs k j) h.0)

of_answer : (xs : List Answer) (k : ℕ) (p : Place) → Contains (places_of xs k) p → IsAt xs k p
unfolding places_of
of_answer xs k p there = elim (Contains-append_cases (base_place xs k) (part_places xs k) p there) [
  | inl base ↦ of_base xs k p base
  | inr part ↦ (let h = of-pieces (part_place xs k) 0 (length (parts_at xs k)) p part in of_part xs k h.at p h.there)
]

there_if : (b : Bool) (p : Place) → b ≡ true → Contains (one_where b p) p
there_if true p is = one-in p
there_if false p is = absurd cc

in_answer : (xs : List Answer) (k : ℕ) (part : Option ℕ) → IsShownFor xs k part → Contains (places_of xs k) (record { answer = k; part = part })
unfolding places_of
in_answer xs k None h =
    Contains-append_left (base_place xs k) (part_places xs k) (record { answer = k; part = None }) (there_if (is_new (base_before xs k) (base_at xs k)) (record { answer = k; part = None }) (is_new_base (base_before xs k) (base_at xs k) h))
in_answer xs k (Some j) h =
    let some : is_some (part_steps xs k j) ≡ true = is_solution (part_steps xs k j) h in
    let within : j < length (parts_at xs k) = within_parts (parts_at xs k) j some in
    Contains-append_right (base_place xs k) (part_places xs k) (record { answer = k; part = Some j }) (in-pieces (part_place xs k) 0 (length (parts_at xs k)) j (record { answer = k; part = Some j }) (omega arith) (omega (arith, within)) (there_if (is_some (part_steps xs k j)) (record { answer = k; part = Some j }) some))

-- ---- all

to : (xs : List Answer) (p : Place) → Contains (places xs) p → (p.answer < length xs) × IsShownFor xs p.answer p.part
to xs p there =
    let piece = of-pieces (places_of xs) 0 (length xs) p there in
    let here = of_answer xs piece.at p piece.there in
    let is = here.0 in
    let most = piece.most in
    (omega (arith, is, most), here.1)

from : (xs : List Answer) (p : Place) → ((p.answer < length xs) × IsShownFor xs p.answer p.part) → Contains (places xs) p
from xs p h = let within = h.0 in in-pieces (places_of xs) 0 (length xs) p.answer p (omega arith) (omega (arith, within)) (in_answer xs p.answer p.part h.1)

pub each_function_is_shown : EachFunctionIsShown
each_function_is_shown xs p = (to xs p, from xs p)
