-- The ids of a table: where each stands, and that each is an id.
use Rattle.std.proofs.Common.{◌≡◌, ℕ, ◌<◌, ◌≤◌, true, false, ltb, List, [], length, get_or, Option, Some, None, refl, sym, ap, subst, ◌∙◌, arith, inl, inr}
use Rattle.std.specs.Prelude.{◌≢◌, All, Contains}
use Rattle.std.specs.List.{position_or_len}
use Rattle.std.specs.Str.{bytes_eq}
use Rattle.std.proofs.lemmas.Bool.{cases_Bool, ltb-true, ltb-false, lt-ltb, le-ltb, false≢true, cond-true, cond-false}
use Rattle.std.proofs.lemmas.List.{length-map}
use Rattle.std.proofs.lemmas.List.Elements.{All-get_or, Contains-get_or}
use Rattle.std.proofs.lemmas.List.Sums.{position_or_len_is, passes_at_first, fails_before_first}
use Rattle.std.proofs.lemmas.Option.{slice_get_within, get_or_from_slice_get}
use Rattle.std.proofs.lemmas.Slice.Eq.{bytes_eq-Decides}
use Rattle.ror_text.proofs.ListLemmas.{bytes_apart, bytes_same}
use Rattle.ror_text.specs.Ids.{is_id, IsId}
use Rattle.ror_table.specs.Table.{DecisionTable, IsTable, AreDistinct, alternative_ids, alternative_named, criterion_ids, criterion_named, HasPlace, place_of, id_of, criterion_id_of}

-- ---- among ids

no_place : (ids : List (List ℕ)) (id : List ℕ) → ((k : ℕ) → k < length ids → get_or ids k [] ≢ id) → place_of ids id ≡ None
no_place ids id apart =
    let none : position_or_len (λ other. bytes_eq other id) ids ≡ length ids = position_or_len_is (λ other. bytes_eq other id) ids (length ids) [] (omega arith) (λ k l. bytes_apart _ id (apart k l)) (λ l. absurd (omega arith)) in
    let past : ltb (length ids) (length ids) ≡ false = le-ltb _ _ (omega arith) in
    rw (none, past) refl

pub place_at : (ids : List (List ℕ)) (k : ℕ) → AreDistinct ids → k < length ids → place_of ids (get_or ids k []) ≡ Some k
place_at ids k distinct there =
    let at : position_or_len (λ other. bytes_eq other (get_or ids k [])) ids ≡ k = position_or_len_is (λ other. bytes_eq other (get_or ids k [])) ids k [] (omega arith) (λ i l. bytes_apart (get_or ids i []) (get_or ids k []) (distinct i k [] l there)) (λ l. bytes_same (get_or ids k [])) in
    let inside : ltb k (length ids) ≡ true = lt-ltb _ _ there in
    rw (at, inside) refl

-- what has the place of an id is where it stands
pub place_of-has : (ids : List (List ℕ)) (id : List ℕ) (o : Option ℕ) → AreDistinct ids → HasPlace ids id o → o ≡ place_of ids id
place_of-has ids id None distinct lacks =
    sym (no_place ids id (λ k l e. lacks (subst (Contains ids) e (Contains-get_or ids k [] l))))
place_of-has ids id (Some k) distinct has =
    let there : k < length ids = slice_get_within ids k id has in
    sym (place_at ids k distinct there) ∙ ap (place_of ids) (get_or_from_slice_get ids k id [] has)

-- and what is found has that id
pub place_of-sound : (ids : List (List ℕ)) (id : List ℕ) (k : ℕ) → place_of ids id ≡ Some k → (k < length ids) × (id ≡ get_or ids k [])
place_of-sound ids id k e =
    let n : ℕ = position_or_len (λ other. bytes_eq other id) ids in
    elim (cases_Bool (ltb n (length ids))) [
      | inl hit ↦
          let same : Some n ≡ Some k = sym (cond-true _ _ _ hit) ∙ e in
          let is : n ≡ k = cc in
          let inside : n < length ids = ltb-true _ _ hit in
          let passes : bytes_eq (get_or ids n []) id ≡ true = passes_at_first (λ other. bytes_eq other id) ids [] inside in
          (omega arith, sym ((bytes_eq-Decides (get_or ids n []) id).0 passes) ∙ ap (λ i. get_or ids i []) is)
      | inr miss ↦ absurd (let none = sym (cond-false _ _ _ miss) ∙ e in cc)
    ]

-- what is no id has no place
pub no_id_no_place : (ids : List (List ℕ)) (id : List ℕ) → All IsId ids → is_id id ≡ false → place_of ids id ≡ None
no_id_no_place ids id valid not_id =
    no_place ids id (λ k l e. false≢true (sym not_id ∙ subst IsId e (All-get_or IsId ids k [] l valid)))

-- what has a place is there, and what has none is not
pub placed-there : (ids : List (List ℕ)) (id : List ℕ) (k : ℕ) → place_of ids id ≡ Some k → Contains ids id
placed-there ids id k e =
    let sound = place_of-sound ids id k e in
    subst (Contains ids) (sym sound.1) (Contains-get_or ids k [] sound.0)

pub not_placed-absent : (ids : List (List ℕ)) (id : List ℕ) → place_of ids id ≡ None → Contains ids id → ⊥
not_placed-absent ids id e there =
    let n : ℕ = position_or_len (λ other. bytes_eq other id) ids in
    elim (cases_Bool (ltb n (length ids))) [
      | inl hit ↦ absurd (let some = sym (cond-true _ _ _ hit) ∙ e in cc)
      | inr miss ↦
          let past : length ids ≤ n = ltb-false _ _ miss in
          false≢true (sym (fails_before_first (λ other. bytes_eq other id) ids there.0 id (omega (arith, past, there.1))) ∙ (bytes_eq-Decides (get_or ids there.0 id) id).1 there.2)
    ]

-- ---- of criteria

length_criterion_ids : (t : DecisionTable) → length (criterion_ids t) ≡ length t.criteria
length_criterion_ids t = simp length-map

-- a criterion is named by its id
pub criterion_named-id_of : (t : DecisionTable) (i : ℕ) → IsTable t → i < length t.criteria → criterion_named t (criterion_id_of t i) ≡ Some i
criterion_named-id_of t i table within = place_at (criterion_ids t) i table.criterion_ids_distinct (omega (arith, length_criterion_ids t))

-- and what is found has that id
pub criterion_named-sound : (t : DecisionTable) (id : List ℕ) (i : ℕ) → criterion_named t id ≡ Some i → (i < length t.criteria) × (id ≡ criterion_id_of t i)
criterion_named-sound t id i e =
    let sound = place_of-sound (criterion_ids t) id i e in
    (omega (arith, length_criterion_ids t, sound.0), sound.1)

pub criterion_id_of_is_id : (t : DecisionTable) (i : ℕ) → IsTable t → i < length t.criteria → IsId (criterion_id_of t i)
criterion_id_of_is_id t i table within = All-get_or IsId (criterion_ids t) i [] (omega (arith, length_criterion_ids t)) table.criterion_ids_valid

-- ---- of alternatives

-- what is no id is none of the table's
pub no_id_not_named : (t : DecisionTable) (id : List ℕ) → IsTable t → is_id id ≡ false → alternative_named t id ≡ None
no_id_not_named t id table not_id = no_id_no_place (alternative_ids t) id table.alternative_ids_valid not_id

length_ids : (t : DecisionTable) → length (alternative_ids t) ≡ length t.alternatives
length_ids t = simp length-map

-- an alternative is named by its id
pub alternative_named-id_of : (t : DecisionTable) (a : ℕ) → IsTable t → a < length t.alternatives → alternative_named t (id_of t a) ≡ Some a
alternative_named-id_of t a table within = place_at (alternative_ids t) a table.alternative_ids_distinct (omega (arith, length_ids t))

-- what has the id is what the id names
pub alternative_named-from_place : (t : DecisionTable) (id : List ℕ) (o : Option ℕ) → IsTable t → HasPlace (alternative_ids t) id o → o ≡ alternative_named t id
alternative_named-from_place t id o table has = place_of-has (alternative_ids t) id o table.alternative_ids_distinct has

-- and what is found has that id
pub alternative_named-sound : (t : DecisionTable) (id : List ℕ) (a : ℕ) → alternative_named t id ≡ Some a → (a < length t.alternatives) × (id ≡ id_of t a)
alternative_named-sound t id a e =
    let sound = place_of-sound (alternative_ids t) id a e in
    (omega (arith, length_ids t, sound.0), sound.1)

pub id_of_is_id : (t : DecisionTable) (a : ℕ) → IsTable t → a < length t.alternatives → IsId (id_of t a)
id_of_is_id t a table within = All-get_or IsId (alternative_ids t) a [] (omega (arith, length_ids t)) table.alternative_ids_valid
