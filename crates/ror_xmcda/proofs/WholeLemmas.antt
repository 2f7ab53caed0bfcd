-- The table of what is kept, place by place.
use Rattle.std.proofs.Common.{◌≡◌, ℕ, suc, ◌+◌, ◌-◌, ◌<◌, false, List, [], ◌∷◌, ◌++◌, length, Result, Err, refl, sym, ap, ◌∙◌, arith, subst, append-nil, append_assoc}
use Rattle.std.specs.Prelude.{IfSome, slice_index_or}
use Rattle.std.specs.List.{range_with_len, enumerate_from}
use Rattle.std.proofs.lemmas.List.{length-map, map_push}
use Rattle.ror_text.specs.Reading.{◌>>=◌, read_all}
use Rattle.ror_text.proofs.ReadingLemmas.{gives_exit}
use Rattle.ror_table.specs.declared.amount.Amount.{Amount}
use Rattle.ror_table.specs.declared.direction.Direction.{Direction}
use Rattle.ror_table.specs.declared.direction.Direction.TheVariants.{Max}
use Rattle.ror_table.specs.declared.direction.Scale.{Scale}
use Rattle.ror_table.specs.declared.fault.TableError.{TableError}
use Rattle.ror_table.specs.declared.fault.TableFault.{TableFault}
use Rattle.ror_table.specs.Draft.{empty_table, add_criterion, add_alternative}
use Rattle.ror_table.specs.Plain.{table_fault}
use Rattle.ror_table.specs.Table.{DecisionTable, criterion_ids, alternative_ids}
use Rattle.ror_xmcda.specs.declared.criteria.Criteria.{Criteria}
use Rattle.ror_xmcda.specs.Whole.{with_criteria, criteria_table}

-- where the step at a place fails, so does the whole
pub row_exit : (step : List Amount → ℕ → Result (List Amount) TableFault) (row : List Amount) (i n : ℕ) (all : Result (List Amount) TableFault) (e : TableError) → i < n → read_all step row (range_with_len i (n - i)) ≡ all
    → IfSome (table_fault e) (λ g. step row i ≡ Err g) → IfSome (table_fault e) (λ g. all ≡ Err g)
row_exit step row i n all e within is h =
    let next : n - i ≡ suc (n - suc i) = omega arith in
    let split : read_all step row (range_with_len i (n - i)) ≡ (step row i >>= λ more. read_all step more (range_with_len (i + 1) (n - suc i))) = ap (λ (m : ℕ). read_all step row (range_with_len i m)) next in
    subst (λ (r : Result (List Amount) TableFault). IfSome (table_fault e) (λ g. r ≡ Err g)) (sym split ∙ is) (gives_exit table_fault e (step row i) (λ more. read_all step more (range_with_len (i + 1) (n - suc i))) h)

-- ---- ids

pub ids-add_criterion : (t : DecisionTable) (id : List ℕ) (scale : Scale) → criterion_ids (add_criterion t id scale) ≡ criterion_ids t ++ id ∷ []
ids-add_criterion t id scale = map_push (λ c. c.id) t.criteria (record { id = id; direction = scale.direction; linear = scale.linear })

pub ids-add_alternative : (t : DecisionTable) (id : List ℕ) (performances : List Amount) → alternative_ids (add_alternative t id performances) ≡ alternative_ids t ++ id ∷ []
ids-add_alternative t id performances = map_push (λ a. a.id) t.alternatives (record { id = id; performances = performances })

-- ---- the table of the criteria

ids-with_criteria : (ds : List Direction) (t : DecisionTable) (k : ℕ) (ids : List (List ℕ)) → criterion_ids (with_criteria ds t (enumerate_from k ids)) ≡ criterion_ids t ++ ids
ids-with_criteria ds t k [] = sym (append-nil (criterion_ids t))
ids-with_criteria ds t k (id ∷ ids) =
    let d : Scale = record { direction = slice_index_or ds k Max; linear = false } in
    ids-with_criteria ds (add_criterion t id d) (k + 1) ids ∙ ap (λ (l : List (List ℕ)). l ++ ids) (ids-add_criterion t id d) ∙ append_assoc (criterion_ids t) (id ∷ []) ids

alternatives-with_criteria : (ds : List Direction) (t : DecisionTable) (k : ℕ) (ids : List (List ℕ)) → (with_criteria ds t (enumerate_from k ids)).alternatives ≡ t.alternatives
alternatives-with_criteria ds t k [] = refl
alternatives-with_criteria ds t k (id ∷ ids) = alternatives-with_criteria ds (add_criterion t id (record { direction = slice_index_or ds k Max; linear = false })) (k + 1) ids

-- its ids are those that are kept
pub ids-criteria_table : (c : Criteria) → criterion_ids (criteria_table c) ≡ c.ids.kept
unfolding criteria_table
ids-criteria_table c = ids-with_criteria c.directions empty_table 0 c.ids.kept

-- there is one criterion for each id that is kept
pub length-criteria_table : (c : Criteria) → length (criteria_table c).criteria ≡ length c.ids.kept
length-criteria_table c = sym (length-map (criteria_table c).criteria (λ c. c.id)) ∙ ap length (ids-criteria_table c)

-- and no alternative yet
pub alternatives-criteria_table : (c : Criteria) → (criteria_table c).alternatives ≡ []
unfolding criteria_table
alternatives-criteria_table c = alternatives-with_criteria c.directions empty_table 0 c.ids.kept
