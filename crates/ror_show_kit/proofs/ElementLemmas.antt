-- A list with the piece of one element more, and what holds of each of its elements.
use Rattle.std.proofs.Common.{◌≡◌, ℕ, ◌+◌, ◌<◌, ◌++◌, List, [], ◌∷◌, ap, sym, ◌∙◌, arith, append_assoc, length, take, get_or}
use Rattle.std.specs.Prelude.{zero, suc}
use Rattle.std.specs.List.{AllByRecursion, flat_map}
use Rattle.ror_show_kit.proofs.Pieces.{of_elements}

pub one_more : {X Y : Type 0} (f : X → List Y) (xs : List X) (i : ℕ) (d : X) (old before after : List Y) → i < length xs → before ≡ old ++ flat_map f (take i xs) → after ≡ before ++ f (get_or xs i d) → after ≡ old ++ flat_map f (take (i + 1) xs)
one_more {X} {Y} f xs i d old before after within so_far pushed =
    pushed ∙ ap (λ (qs : List Y). qs ++ f (get_or xs i d)) so_far ∙ append_assoc old (flat_map f (take i xs)) (f (get_or xs i d)) ∙ ap (λ (qs : List Y). old ++ qs) (sym (of_elements f xs i d within))

pub one_here : {X : Type 0} (P : X → Type 0) (xs : List X) (i : ℕ) (d : X) → i < length xs → AllByRecursion P xs → P (get_or xs i d)
one_here P [] i d within all = absurd (omega (arith, within))
one_here P (y ∷ ys) zero d within all = all.0
one_here P (y ∷ ys) (suc i) d within all = one_here P ys i d (omega (arith, within)) all.1
