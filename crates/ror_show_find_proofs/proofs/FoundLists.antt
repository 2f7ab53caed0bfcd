-- What holds of each element of a list, with one element more.
use Rattle.std.proofs.Common.{◌≡◌, ℕ, ◌+◌, ◌<◌, List, [], ◌∷◌, ◌++◌, length, map, take, get_or, sym, ap, subst, ◌∙◌}
use Rattle.std.specs.List.{AllByRecursion}
use Rattle.std.proofs.lemmas.List.{map-append, take_more}
use Rattle.ror_text.proofs.Everywhere.{all-append}

pub all_pushed : {X : Type 0} (P : X → Type 0) (before after : List X) (x : X) → AllByRecursion P before → P x → after ≡ before ++ x ∷ [] → AllByRecursion P after
all_pushed P before after x so_far here pushed = subst (AllByRecursion P) (sym pushed) (all-append P before (x ∷ []) so_far (here, tt))

-- what is made of each element, with one element more
pub mapped_next : {X Y : Type 0} (f : X → Y) (xs : List X) (i : ℕ) (d : X) (before after : List Y) (y : Y) → i < length xs → before ≡ map f (take i xs) → y ≡ f (get_or xs i d) → after ≡ before ++ y ∷ [] → after ≡ map f (take (i + 1) xs)
mapped_next {X} {Y} f xs i d before after y within so_far here pushed =
    pushed ∙ ap (λ (made : List Y). made ++ y ∷ []) so_far ∙ ap (λ (z : Y). map f (take i xs) ++ z ∷ []) here
    ∙ sym (ap (map f) (take_more xs i d within) ∙ map-append f (take i xs) (get_or xs i d ∷ []))
