-- Names, each beside the place at which it came.
use Rattle.std.specs.Prelude.{◌≡◌, ◌==◌, ◌<◌, ℕ, zero, suc, List, [], ◌++◌, length, map, filter, is_some, Bool}
use Rattle.std.specs.Cmp.Lexicographic.{slice_cmp}
use Rattle.std.specs.List.{AllByRecursion, list_any}
use Rattle.std.specs.Map.{lookup}
use Rattle.std.specs.Ordering.{is_eq, nat_cmp}
use Rattle.std.specs.Str.{bytes_eq}

module _ {K : Type 0} (bytes_of : K → List ℕ) where
  -- the names that came at a place
  abbrev pub at_place : List (K × ℕ) → ℕ → List (List ℕ)
  at_place entries place = map (λ (entry : K × ℕ). bytes_of entry.0) (filter (λ (entry : K × ℕ). entry.1 == place) entries)

  -- the names that came at the first places, so many, in order
  abbrev pub at_first_places : List (K × ℕ) → ℕ → List (List ℕ)
  at_first_places entries zero = []
  at_first_places entries (suc place) = at_first_places entries place ++ at_place entries place

  -- the names in the order in which they came
  abbrev pub in_order : List (K × ℕ) → List (List ℕ)
  in_order entries = at_first_places entries (length entries)

  -- whether some name is these bytes, as one is looked up
  abbrev pub is_found : List (K × ℕ) → List ℕ → Bool
  is_found entries name = is_some (lookup (λ key. is_eq (slice_cmp nat_cmp name (bytes_of key))) entries)

  -- each place is one of the first, and the names that are found are those that came
  pub record ArePlaces (entries : List (K × ℕ)) : Type 0 where
    pub below : AllByRecursion (λ (entry : K × ℕ). entry.1 < length entries) entries
    pub found : (name : List ℕ) → is_found entries name ≡ list_any (bytes_eq name) (in_order entries)
