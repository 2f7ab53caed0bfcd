-- Open elements with more text and more elements in them, and what one is when it closes.
use Rattle.std.proofs.Common.{◌≡◌, ℕ, Bool, true, false, List, [], ◌++◌, append_assoc, append-nil, Option, Some, None, refl, sym, ap, ◌∙◌, inl, inr}
use Rattle.std.specs.Prelude.{if◌then◌else◌, option_map}
use Rattle.std.proofs.lemmas.Bool.{cases_Bool}
use Rattle.ror_elements.specs.declared.open.Open.{Open}
use Rattle.ror_elements.specs.Grammar.{Place, place_in, kept_at}
use Rattle.ror_elements.specs.Kept.{is_kept}
use Rattle.ror_elements.specs.Marks.{local_name, trimmed}
use Rattle.ror_elements.specs.Tree.{Tree, node, none, trees_of}
use Rattle.ror_elements.proofs.PlainReader.{around_closed}
use Rattle.ror_elements.proofs.Runs.{with_text}
use Rattle.ror_elements.proofs.ElementRuns.{opened_as}

-- an open element with more text and more elements in it
abbrev pub grown : Open → List ℕ → List Tree → Open
grown top text inside = if top.kept then record top { text = top.text ++ text; children = top.children ++ inside } else top

-- where it stands
abbrev pub place_of : Open → Place
place_of top = if top.kept then Some top.path else None

-- an open element that is kept or not
abbrev marked : Bool → Open → Open
marked kept top = record top { kept = kept }

abbrev filled : Open → List ℕ → List Tree → Open
filled top text inside = record top { text = text; children = inside }

filled_same : (top : Open) (text more : List ℕ) (inside others : List Tree) → text ≡ more → inside ≡ others → filled top text inside ≡ filled top more others
filled_same top text more inside others e f = ap (λ (t : List ℕ). filled top t inside) e ∙ ap (λ (i : List Tree). filled top more i) f

place_if : (kept : Bool) (top : Open) (text : List ℕ) (inside : List Tree) → place_of (grown (marked kept top) text inside) ≡ place_of (marked kept top)
place_if true top text inside = refl
place_if false top text inside = refl

pub grown_place : (top : Open) (text : List ℕ) (inside : List Tree) → place_of (grown top text inside) ≡ place_of top
grown_place top text inside = place_if top.kept top text inside

name_if : (kept : Bool) (top : Open) (text : List ℕ) (inside : List Tree) → (grown (marked kept top) text inside).name ≡ top.name
name_if true top text inside = refl
name_if false top text inside = refl

pub grown_name : (top : Open) (text : List ℕ) (inside : List Tree) → (grown top text inside).name ≡ top.name
grown_name top text inside = name_if top.kept top text inside

twice_if : (kept : Bool) (top : Open) (text more : List ℕ) (inside others : List Tree) → grown (grown (marked kept top) text inside) more others ≡ grown (marked kept top) (text ++ more) (inside ++ others)
twice_if true top text more inside others = filled_same (marked true top) _ _ _ _ (append_assoc top.text text more) (append_assoc top.children inside others)
twice_if false top text more inside others = refl

pub grown_twice : (top : Open) (text more : List ℕ) (inside others : List Tree) → grown (grown top text inside) more others ≡ grown top (text ++ more) (inside ++ others)
grown_twice top text more inside others = twice_if top.kept top text more inside others

text_if : (kept : Bool) (top : Open) (text : List ℕ) → with_text (marked kept top) text ≡ grown (marked kept top) text []
text_if true top text = filled_same (marked true top) _ _ _ _ refl (sym (append-nil top.children))
text_if false top text = refl

pub grown_text : (top : Open) (text : List ℕ) → with_text top text ≡ grown top text []
grown_text top text = text_if top.kept top text

nothing_if : (kept : Bool) (top : Open) → marked kept top ≡ grown (marked kept top) [] []
nothing_if true top = filled_same (marked true top) _ _ _ _ (sym (append-nil top.text)) (sym (append-nil top.children))
nothing_if false top = refl

pub grown_nothing : (top : Open) → top ≡ grown top [] []
grown_nothing top = nothing_if top.kept top

-- ---- an element in another

opened_if : (kept : Bool) (top : Open) (name : List ℕ) (id : Option (List ℕ)) (line : ℕ) → place_of (opened_as (marked kept top) name id line) ≡ place_in (place_of (marked kept top)) (local_name name)
opened_if false top name id line = refl
opened_if true top name id line = elim (cases_Bool (is_kept top.path (local_name name))) [
  | inl is ↦ rw is refl
  | inr other ↦ rw other refl
]

pub opened_place : (top : Open) (name : List ℕ) (id : Option (List ℕ)) (line : ℕ) → place_of (opened_as top name id line) ≡ place_in (place_of top) (local_name name)
opened_place top name id line = opened_if top.kept top name id line

closed_if : (kept : Bool) (top : Open) (name : List ℕ) (id : Option (List ℕ)) (line : ℕ) (text : List ℕ) (inside : List Tree)
    → around_closed (grown (opened_as (marked kept top) name id line) text inside) (marked kept top)
    ≡ grown (marked kept top) [] (kept_at (place_in (place_of (marked kept top)) (local_name name)) (node (local_name name) (option_map trimmed id) (trimmed text) line (trees_of inside)))
closed_if false top name id line text inside = refl
closed_if true top name id line text inside = elim (cases_Bool (is_kept top.path (local_name name))) [
  | inl is ↦ rw is (filled_same (marked true top) _ _ _ _ (sym (append-nil top.text)) refl)
  | inr other ↦ rw other (nothing_if true top)
]

-- an element that closes stands in the one around it, if it is kept
pub closed_in : (top : Open) (name : List ℕ) (id : Option (List ℕ)) (line : ℕ) (text : List ℕ) (inside : List Tree)
    → around_closed (grown (opened_as top name id line) text inside) top
    ≡ grown top [] (kept_at (place_in (place_of top) (local_name name)) (node (local_name name) (option_map trimmed id) (trimmed text) line (trees_of inside)))
closed_in top name id line text inside = closed_if top.kept top name id line text inside

pub closed_empty : (top : Open) (name : List ℕ) (id : Option (List ℕ)) (line : ℕ)
    → around_closed (opened_as top name id line) top
    ≡ grown top [] (kept_at (place_in (place_of top) (local_name name)) (node (local_name name) (option_map trimmed id) [] line none))
unfolding trimmed
closed_empty top name id line = ap (λ (o : Open). around_closed o top) (grown_nothing (opened_as top name id line)) ∙ closed_in top name id line [] []
