-- Lists that are made place by place, and what is found in them.
use Rattle.std.proofs.Common.{◌≡◌, ℕ, zero, suc, ◌+◌, ◌<◌, ◌≤◌, Bool, true, false, List, [], ◌∷◌, ◌++◌, length, take, get_or, Some, refl, sym, ap, subst, ◌∙◌, arith, inl, inr}
use Rattle.std.specs.Prelude.{slice_get, if◌then◌else◌}
use Rattle.std.specs.List.{AllByRecursion, AllZip, find, flat_map}
use Rattle.std.proofs.lemmas.Bool.{cases_Bool}
use Rattle.std.proofs.lemmas.List.{length-append}
use Rattle.ror_report.specs.Text.{answers_of}
use Rattle.ror_bench.specs.declared.kept.KeptLine.{KeptLine}
use Rattle.ror_show_ground.specs.Ready.{answers_in}
use Rattle.ror_show_ground.proofs.Lists.{at_place, zip_next}

-- one element more, where what was made for it was made for whatever stands at its place
pub zip_place : {X Y : Type 0} (R : X → Y → Type 0) (xs : List X) (i : ℕ) (before after : List Y) (y : Y) → i < length xs → AllZip R (take i xs) before → ((x : X) → slice_get xs i ≡ Some x → R x y) → after ≡ before ++ y ∷ [] → AllZip R (take (i + 1) xs) after
zip_place R [] i before after y within so_far here pushed = absurd (omega (arith, within))
zip_place R (d ∷ xs) i before after y within so_far here pushed =
    zip_next R (d ∷ xs) i d before after y within so_far (here (get_or (d ∷ xs) i d) (at_place (d ∷ xs) i d within)) pushed

-- of each that was made
pub each_made : {X Y : Type 0} (R : X → Y → Type 0) (P : Y → Type 0) (xs : List X) (ys : List Y) → ((x : X) (y : Y) → R x y → P y) → AllZip R xs ys → AllByRecursion P ys
each_made R P [] [] brings all = tt
each_made R P [] (y ∷ ys) brings all = absurd all
each_made R P (x ∷ xs) [] brings all = absurd all
each_made R P (x ∷ xs) (y ∷ ys) brings all = (brings x y all.0, each_made R P xs ys brings all.1)

chosen : {X : Type 0} (b : Bool) (u v : X) → b ≡ true → (if b then u else v) ≡ u
chosen {X} true u v is = refl
chosen {X} false u v is = absurd cc

passed_over : {X : Type 0} (b : Bool) (u v : X) → b ≡ false → (if b then u else v) ≡ v
passed_over {X} true u v is = absurd cc
passed_over {X} false u v is = refl

-- what holds of each element holds of the first that passes a test
pub found_has : {X : Type 0} (P : X → Type 0) (test : X → Bool) (xs : List X) (x : X) → AllByRecursion P xs → find test xs ≡ Some x → P x
found_has {X} P test [] x all is = absurd cc
found_has {X} P test (y ∷ ys) x all is = elim (cases_Bool (test y)) [
  | inl passes ↦
      let same : y ≡ x = let p = sym (chosen (test y) (Some y) (find test ys) passes) ∙ is in cc in
      subst P same all.0
  | inr fails ↦ found_has P test ys x all.1 (sym (passed_over (test y) (Some y) (find test ys) fails) ∙ is)
]

-- no line has more answers than all
pub few_of : (kept : List KeptLine) (n : ℕ) (x : KeptLine) → slice_get kept n ≡ Some x → length (answers_of x.block.body) ≤ answers_in kept
few_of [] n x there = absurd cc
few_of (y ∷ ys) zero x there =
    let same : y ≡ x = cc in
    let all = length-append (answers_of y.block.body) (flat_map (λ (z : KeptLine). answers_of z.block.body) ys) in
    let here : length (answers_of y.block.body) ≡ length (answers_of x.block.body) = ap (λ (z : KeptLine). length (answers_of z.block.body)) same in
    omega (arith, all, here)
few_of (y ∷ ys) (suc n) x there =
    let all = length-append (answers_of y.block.body) (flat_map (λ (z : KeptLine). answers_of z.block.body) ys) in
    let rest = few_of ys n x there in
    omega (arith, all, rest)
