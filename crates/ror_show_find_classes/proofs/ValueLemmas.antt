-- What is made of an element of a list, where there is one at a place.
use Rattle.std.proofs.Common.{◌≡◌, ℕ, ◌++◌, false, List, [], length, Option, Some, None, refl, sym, ap, ◌∙◌, ltb}
use Rattle.std.specs.Prelude.{slice_get}
use Rattle.std.specs.Option.{option_map_or}
use Rattle.std.proofs.lemmas.Bool.{lt-ltb, false≢true}
use Rattle.std.proofs.lemmas.List.{append-nil}
use Rattle.std.proofs.lemmas.Option.{slice_get_within}

pub none_there : {X Y : Type 0} (f : X → List Y) (xs : List X) (k : ℕ) (old : List Y) → false ≡ ltb k (length xs) → old ≡ old ++ option_map_or f (slice_get xs k) []
none_there {X} {Y} f xs k old past = by (slice_get xs k) refl
  where
    by : (o : Option X) → slice_get xs k ≡ o → old ≡ old ++ option_map_or f o []
    by None is = sym (append-nil old)
    by (Some x) is = absurd (false≢true (past ∙ lt-ltb k _ (slice_get_within xs k x is)))

pub one_there : {X Y : Type 0} (f : X → List Y) (xs : List X) (k : ℕ) (x : X) (old new : List Y) → slice_get xs k ≡ Some x → new ≡ old ++ f x → new ≡ old ++ option_map_or f (slice_get xs k) []
one_there {X} f xs k x old new there is = is ∙ ap (λ (o : Option X). old ++ option_map_or f o []) (sym there)
