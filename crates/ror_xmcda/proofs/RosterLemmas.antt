-- Sets of ids, as the lists of their texts.
use Rattle.std.proofs.Common.{◌≡◌, ℕ, Bool, true, false, not, List, [], ◌∷◌, ◌++◌, map, refl, sym, ap, ◌∙◌, inl, inr}
use Rattle.std.specs.Prelude.{String, position}
use Rattle.std.specs.Global.{Global}
use Rattle.std.specs.List.{list_any, prefix_len, position_or_len}
use Rattle.std.specs.Str.{bytes_eq}
use Rattle.std.specs.String.{string_bytes, string_eq}
use Rattle.std.proofs.lemmas.Bool.{cases_Bool, false_from_ne_true, cond-false}
use Rattle.std.proofs.lemmas.List.{length-map, map_push}
use Rattle.std.proofs.lemmas.Slice.Eq.{bytes_eq-Decides}
use Rattle.indexmap.specs.IndexSet.{insert_key}
use Rattle.ror_text.proofs.LineLemmas.{list_any-map}
use Rattle.ror_table.specs.Draft.{has_id}
use Rattle.ror_table.specs.Table.{place_of}

pub bytes_eq-turned : (x y : List ℕ) → bytes_eq x y ≡ bytes_eq y x
bytes_eq-turned x y = elim (cases_Bool (bytes_eq x y)) [
  | inl same ↦ same ∙ sym ((bytes_eq-Decides y x).1 (sym ((bytes_eq-Decides x y).0 same)))
  | inr apart ↦ apart ∙ sym (false_from_ne_true (bytes_eq y x) (λ same. absurd (let here : bytes_eq x y ≡ true = (bytes_eq-Decides x y).1 (sym ((bytes_eq-Decides y x).0 same)) in cc)))
]

prefix_by : {A B : Type 0} (f : A → B) (p : B → Bool) (q : A → Bool) → ((x : A) → p (f x) ≡ q x) → (xs : List A) → prefix_len p (map f xs) ≡ prefix_len q xs
prefix_by f p q same [] = refl
prefix_by f p q same (x ∷ xs) = rw (same x, prefix_by f p q same xs) refl

pub position_by : {A B : Type 0} (f : A → B) (p : B → Bool) (q : A → Bool) → ((x : A) → p (f x) ≡ q x) → (xs : List A) → position p (map f xs) ≡ position q xs
position_by f p q same xs =
    let n : position_or_len p (map f xs) ≡ position_or_len q xs = prefix_by f (λ y. not (p y)) (λ x. not (q x)) (λ x. ap not (same x)) xs in
    rw (n, length-map) refl

-- the place that a look-up gives
pub keys_place : (keys : List (String Global)) (id : List ℕ) → position (λ k. bytes_eq id (string_bytes k)) keys ≡ place_of (map string_bytes keys) id
keys_place keys id = sym (position_by string_bytes (λ other. bytes_eq other id) (λ k. bytes_eq id (string_bytes k)) (λ k. bytes_eq-turned (string_bytes k) id) keys)

-- a new key goes last
pub keys_added : (keys new : List (String Global)) (key : String Global) (old : List (List ℕ)) (id : List ℕ) → map string_bytes keys ≡ old → has_id old id ≡ false → string_bytes key ≡ id → new ≡ insert_key string_eq keys key
    → map string_bytes new ≡ old ++ id ∷ []
keys_added keys new key old id view absent is inserted =
    let none : list_any (string_eq key) keys ≡ false = sym (list_any-map (bytes_eq (string_bytes key)) string_bytes keys) ∙ ap (λ (ids : List (List ℕ)). has_id ids (string_bytes key)) view ∙ ap (has_id old) is ∙ absent in
    ap (map string_bytes) (inserted ∙ cond-false (list_any (string_eq key) keys) keys (keys ++ key ∷ []) none) ∙ map_push string_bytes keys key ∙ ap (λ (ids : List (List ℕ)). ids ++ string_bytes key ∷ []) view ∙ ap (λ (x : List ℕ). old ++ x ∷ []) is
