-- What a draft's maps hold, where an id stands in them, and what adding an entry leaves.
use Rattle.std.proofs.Common.{◌≡◌, ℕ, ◌<◌, Bool, true, false, cond, List, [], ◌∷◌, ◌++◌, length, get_or, map, ltb, Option, Some, None, All, slice_get, is_some, refl, sym, ap, subst, ◌∙◌, arith, inl, inr}
use Rattle.std.specs.Prelude.{◌≢◌}
use Rattle.std.specs.List.{position, position_or_len}
use Rattle.std.specs.Option.{option_map}
use Rattle.std.specs.Map.{keys_of, lookup}
use Rattle.std.specs.Str.{bytes_eq}
use Rattle.std.proofs.lemmas.Bool.{ltb-true, ltb-false, cases_order, false≢true}
use Rattle.std.proofs.lemmas.List.{map_push, length_push, length-map, get_or-map}
use Rattle.std.proofs.lemmas.List.Elements.{All-push}
use Rattle.std.proofs.lemmas.List.Folds.{list_any_at}
use Rattle.std.proofs.lemmas.List.Quantifiers.{all_pairs_push}
use Rattle.std.proofs.lemmas.List.Sums.{passes_at_first, fails_before_first}
use Rattle.std.proofs.lemmas.Map.Made.{is_some-lookup}
use Rattle.std.proofs.lemmas.Option.{slice_get_cases, slice_get-map, get_or_from_slice_get, slice_get_within}
use Rattle.std.proofs.lemmas.Slice.Eq.{bytes_eq-Decides}
use Rattle.std.specs.Prelude.{String}
use Rattle.std.specs.Global.{Global}
use Rattle.std.specs.String.{string_bytes, string_eq}
use Rattle.indexmap.specs.IndexMap.{IndexMap, get, insert_entry}
use Rattle.indexmap.proofs.CallerLemmas.{insert_entry-new}
use Rattle.ror_text.proofs.LineLemmas.{list_any-map}
use Rattle.ror_text.specs.Ids.{IsId}
use Rattle.ror_table.specs.declared.amount.Amount.{Amount}
use Rattle.ror_table.specs.declared.direction.Scale.{Scale}
use Rattle.ror_table.specs.Amounts.{IsAmount}
use Rattle.ror_table.specs.Table.{Criterion, Alternative, DecisionTable, HasPlace, AreDistinct, IsEvaluated, criterion_ids, alternative_ids}
use Rattle.ror_table.specs.Draft.{IsDraft, has_id, add_criterion, add_alternative}

-- a table of these parts
abbrev pub table : List Criterion → List Alternative → ℕ → DecisionTable
table criteria alternatives classes = record { criteria = criteria; alternatives = alternatives; classes = classes }

-- ---- ids

-- the ids of what is made of the entries are the texts of their keys
pub ids_of_keys : {K V R : Type 0} (made : K × V → R) (id : R → List ℕ) (text : K → List ℕ) → ((e : K × V) → id (made e) ≡ text e.0) → (es : List (K × V)) → map id (map made es) ≡ map text (keys_of es)
ids_of_keys made id text same [] = refl
ids_of_keys made id text same (e ∷ es) = rw (same e) (ap (λ ids. text e.0 ∷ ids) (ids_of_keys made id text same es))

bytes_eq-itself : (q : List ℕ) → bytes_eq q q ≡ true
bytes_eq-itself q = (bytes_eq-Decides q q).1 refl

place_by : {K : Type 0} (text : K → List ℕ) (ks : List K) (q : List ℕ) (n : ℕ) (b : Bool) → n ≡ position_or_len (λ k. bytes_eq q (text k)) ks → ltb n (length ks) ≡ b → HasPlace (map text ks) q (cond b (Some n) None)
place_by text ks q n true is within =
    elim (slice_get_cases ks n).1 [
      | inl at ↦
          let P : ℕ → Type 0 = λ m. m < length ks → bytes_eq q (text (get_or ks m at.0)) ≡ true in
          let passes : n < length ks → bytes_eq q (text (get_or ks n at.0)) ≡ true = subst P (sym is) (passes_at_first (λ k. bytes_eq q (text k)) ks at.0) in
          let here : text (get_or ks n at.0) ≡ q = sym ((bytes_eq-Decides q (text (get_or ks n at.0))).0 (passes at.1)) in
          slice_get-map text ks n ∙ ap (option_map text) at.2 ∙ ap Some (ap text (sym at.3) ∙ here)
      | inr out ↦ absurd (omega (arith, ltb-true n (length ks) within))
    ]
place_by text ks q n false is past = λ there.
    let k = there.0 in
    elim (slice_get_cases ks k).1 [
      | inl at ↦
          let fails : bytes_eq q (text (get_or ks k at.0)) ≡ false = fails_before_first (λ x. bytes_eq q (text x)) ks k at.0 (omega (arith, ltb-false n (length ks) past)) in
          let here : q ≡ text (get_or ks k at.0) = sym there.2 ∙ get_or-map text ks k at.0 q at.1 in
          false≢true (sym fails ∙ (bytes_eq-Decides q (text (get_or ks k at.0))).1 here)
      | inr out ↦ absurd (omega (arith, length-map ks text, there.1))
    ]

-- the place that a look-up finds
pub HasPlace-position : {K : Type 0} (text : K → List ℕ) (ks : List K) (q : List ℕ) → HasPlace (map text ks) q (position (λ k. bytes_eq q (text k)) ks)
HasPlace-position text ks q =
    let n = position_or_len (λ k. bytes_eq q (text k)) ks in
    place_by text ks q n (ltb n (length ks)) refl refl

-- whether a look-up finds the id
pub has_id-lookup : {K V : Type 0} (text : K → List ℕ) (es : List (K × V)) (q : List ℕ) → is_some (lookup (λ k. bytes_eq q (text k)) es) ≡ has_id (map text (keys_of es)) q
has_id-lookup text es q = is_some-lookup (λ k. bytes_eq q (text k)) es ∙ sym (list_any-map (bytes_eq q) text (keys_of es))

none_if : {X : Type 0} (o : Option X) → is_some o ≡ false → o ≡ None
none_if None h = refl
none_if (Some x) h = absurd cc

-- a look-up finds nothing where the id isn't there
pub lookup_absent : {K V : Type 0} (text : K → List ℕ) (es : List (K × V)) (q : List ℕ) → has_id (map text (keys_of es)) q ≡ false → lookup (λ k. bytes_eq q (text k)) es ≡ None
lookup_absent text es q absent = none_if (lookup (λ k. bytes_eq q (text k)) es) (has_id-lookup text es q ∙ absent)

-- ---- one more

differs : (ids : List (List ℕ)) (id : List ℕ) → has_id ids id ≡ false → (k : ℕ) (d : List ℕ) → k < length ids → get_or ids k d ≢ id
differs ids id absent k d lt same = false≢true (sym absent ∙ list_any_at (bytes_eq id) ids k d lt ((bytes_eq-Decides id (get_or ids k d)).1 (sym same)))

pub AreDistinct-push : (ids : List (List ℕ)) (id : List ℕ) → AreDistinct ids → has_id ids id ≡ false → AreDistinct (ids ++ id ∷ [])
AreDistinct-push ids id apart absent = all_pairs_push (λ x y. x ≢ y) ids id apart (differs ids id absent)

-- where ids are distinct, an id has one place
pub same_place : (ids : List (List ℕ)) (id : List ℕ) (j k : ℕ) → AreDistinct ids → slice_get ids j ≡ Some id → slice_get ids k ≡ Some id → j ≡ k
same_place ids id j k apart at_j at_k =
    let read_j : get_or ids j [] ≡ id = get_or_from_slice_get ids j id [] at_j in
    let read_k : get_or ids k [] ≡ id = get_or_from_slice_get ids k id [] at_k in
    elim (cases_order j k) [
      | inl same ↦ same
      | inr (inl less) ↦ absurd (apart j k [] less (slice_get_within ids k id at_k) (read_j ∙ sym read_k))
      | inr (inr less) ↦ absurd (apart k j [] less (slice_get_within ids j id at_j) (read_k ∙ sym read_j))
    ]

pub IsDraft-add_criterion : (t : DecisionTable) (id : List ℕ) (scale : Scale) → IsDraft t → t.alternatives ≡ [] → IsId id → has_id (criterion_ids t) id ≡ false → length t.criteria < 64 → IsDraft (add_criterion t id scale)
IsDraft-add_criterion t id scale draft first valid absent room =
    let ids : criterion_ids (add_criterion t id scale) ≡ criterion_ids t ++ id ∷ [] = map_push (λ c. c.id) t.criteria (record { id = id; direction = scale.direction; linear = scale.linear }) in
    record {
      criteria_limit = omega (arith, length_push t.criteria (record { id = id; direction = scale.direction; linear = scale.linear }));
      alternatives_limit = draft.alternatives_limit;
      classes_limit = draft.classes_limit;
      criterion_ids_valid = rw ids (All-push IsId (criterion_ids t) id draft.criterion_ids_valid valid);
      alternative_ids_valid = draft.alternative_ids_valid;
      criterion_ids_distinct = rw ids (AreDistinct-push (criterion_ids t) id draft.criterion_ids_distinct absent);
      alternative_ids_distinct = draft.alternative_ids_distinct;
      evaluated = rw first (λ k d lt. absurd (omega arith));
    }

pub IsDraft-add_alternative : (t : DecisionTable) (id : List ℕ) (performances : List Amount) → IsDraft t → IsId id → has_id (alternative_ids t) id ≡ false → length t.alternatives < 200 → length performances ≡ length t.criteria → All IsAmount performances → IsDraft (add_alternative t id performances)
IsDraft-add_alternative t id performances draft valid absent room width amounts =
    let ids : alternative_ids (add_alternative t id performances) ≡ alternative_ids t ++ id ∷ [] = map_push (λ a. a.id) t.alternatives (record { id = id; performances = performances }) in
    record {
      criteria_limit = draft.criteria_limit;
      alternatives_limit = omega (arith, length_push t.alternatives (record { id = id; performances = performances }));
      classes_limit = draft.classes_limit;
      criterion_ids_valid = draft.criterion_ids_valid;
      alternative_ids_valid = rw ids (All-push IsId (alternative_ids t) id draft.alternative_ids_valid valid);
      criterion_ids_distinct = draft.criterion_ids_distinct;
      alternative_ids_distinct = rw ids (AreDistinct-push (alternative_ids t) id draft.alternative_ids_distinct absent);
      evaluated = All-push (IsEvaluated (length t.criteria)) t.alternatives (record { id = id; performances = performances }) draft.evaluated (record { width = width; amounts = amounts });
    }

-- ---- the maps: what is made of their entries is a list of criteria or alternatives

module _ {V R : Type 0} (made : String Global × V → R) (id : R → List ℕ) (same : (e : String Global × V) → id (made e) ≡ string_bytes e.0) where
  ids_of : (es : List (String Global × V)) (rs : List R) → map made es ≡ rs → map id rs ≡ map string_bytes (keys_of es)
  ids_of es rs are = sym (ap (map id) are) ∙ ids_of_keys made id string_bytes same es

  -- the place of an id that a look-up gives
  pub entries_place : (es : List (String Global × V)) (rs : List R) (q : List ℕ) (r : Option ℕ) → map made es ≡ rs → r ≡ position (λ k. bytes_eq q (string_bytes k)) (keys_of es) → HasPlace (map id rs) q r
  entries_place es rs q r are is = rw (ids_of es rs are, is) (HasPlace-position string_bytes (keys_of es) q)

  -- whether an id is there
  pub entries_known : (es : List (String Global × V)) (rs : List R) (q : List ℕ) (b : Bool) → map made es ≡ rs → b ≡ is_some (lookup (λ k. bytes_eq q (string_bytes k)) es) → b ≡ has_id (map id rs) q
  entries_known es rs q b are is = is ∙ has_id-lookup string_bytes es q ∙ ap (λ ids. has_id ids q) (sym (ids_of es rs are))

  -- a new key goes last
  pub entries_insert : {S : Type 0} (m n : IndexMap (String Global) V S) (k : String Global) (v : V) (rs : List R) → map made m.entries ≡ rs → has_id (map id rs) (string_bytes k) ≡ false
      → n.entries ≡ insert_entry string_eq m.entries k v → map made n.entries ≡ rs ++ made (k, v) ∷ []
  entries_insert m n k v rs are absent is =
      let none : get string_eq m k ≡ None = lookup_absent string_bytes m.entries (string_bytes k) (ap (λ ids. has_id ids (string_bytes k)) (sym (ids_of m.entries rs are)) ∙ absent) in
      ap (map made) (is ∙ insert_entry-new string_eq m k v none) ∙ map_push made m.entries (k, v) ∙ ap (λ xs. xs ++ made (k, v) ∷ []) are

-- a table is its parts
pub criterion_added : (t : DecisionTable) (criteria more : List Criterion) (alternatives : List Alternative) (classes : ℕ) (id : List ℕ) (scale : Scale)
    → table criteria alternatives classes ≡ t → more ≡ t.criteria ++ record { id = id; direction = scale.direction; linear = scale.linear } ∷ [] → table more alternatives classes ≡ add_criterion t id scale
criterion_added t criteria more alternatives classes id scale is added =
    let a : alternatives ≡ t.alternatives = ap (λ (x : DecisionTable). x.alternatives) is in
    let n : classes ≡ t.classes = ap (λ (x : DecisionTable). x.classes) is in
    cc

pub alternative_added : (t : DecisionTable) (criteria : List Criterion) (alternatives more : List Alternative) (classes : ℕ) (id : List ℕ) (performances : List Amount)
    → table criteria alternatives classes ≡ t → more ≡ t.alternatives ++ record { id = id; performances = performances } ∷ [] → table criteria more classes ≡ add_alternative t id performances
alternative_added t criteria alternatives more classes id performances is added =
    let a : criteria ≡ t.criteria = ap (λ (x : DecisionTable). x.criteria) is in
    let n : classes ≡ t.classes = ap (λ (x : DecisionTable). x.classes) is in
    cc
