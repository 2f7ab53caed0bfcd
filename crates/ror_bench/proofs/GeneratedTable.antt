-- The generated table: each draft on the way to it takes what comes next, and it is a table.
use Rattle.std.proofs.Common.{◌≡◌, ℕ, zero, suc, ◌+◌, ◌*◌, ◌<◌, ◌≤◌, Bool, true, false, not, ◌&&◌, List, [], ◌∷◌, ◌++◌, length, map, pos, All, refl, sym, ap, ◌∙◌, subst, arith, inl, inr}
use Rattle.std.specs.Prelude.{◌⊎◌, codes}
use Rattle.std.proofs.lemmas.List.Elements.{All-from_recursion}
use Rattle.std.specs.List.{range_with_len}
use Rattle.std.proofs.lemmas.List.{length-map}
use Rattle.std.proofs.lemmas.List.FromFn.{length-map-range_with_len, map-range_with_len_more}
use Rattle.std.specs.Str.{is_utf8, chars}
use lib.Utf8.{encode}
use Rattle.std.proofs.lemmas.Bool.{cases_lt}
use Rattle.std.proofs.lemmas.Bool.Decides.{nat_tests}
use Rattle.ror_text.specs.Ids.{is_id, IsId}
use Rattle.std.specs.Prelude.{nat_lt, IfSome, Ok, Err}
use Rattle.ror_text.specs.Reading.{refuse, ◌>>=◌}
use Rattle.ror_table.specs.declared.amount.Amount.{Amount}
use Rattle.ror_table.specs.declared.direction.Direction.{Direction}
use Rattle.ror_table.specs.declared.direction.Direction.TheVariants.{Max, Min}
use Rattle.ror_table.specs.declared.direction.Scale.{Scale}
use Rattle.ror_table.specs.declared.fault.DraftFault.{DraftFault}
use Rattle.ror_table.specs.declared.fault.DraftFault.TheVariants.{BadId, RepeatedId, TooMany, Empty, Memory, WideScale}
use Rattle.ror_table.specs.declared.fault.What.TheVariants.{Steps}
use Rattle.ror_table.specs.Amounts.{IsAmount, whole}
use Rattle.ror_table.specs.Draft.{IsDraft, empty_table, draft_fault, finished, has_id, add_alternative}
use Rattle.ror_table.specs.Table.{Alternative, DecisionTable, IsTable, alternative_ids, is_linear, has_wide_scale, columns, width, performances_on, performance_of, offset}
use Rattle.ror_table.proofs.AmountLemmas.{IsAmount-whole}
use Rattle.ror_table.proofs.BlockLemmas.{scale-of-stepwise}
use Rattle.ror_table.proofs.DraftLemmas.{IsDraft-add_criterion, IsDraft-add_alternative}
use Rattle.ror_table.proofs.IndexLemmas.{IsTable-from_draft, levels_count-le}
use Rattle.ror_table.proofs.RankLemmas.{width-le-steps}
use Rattle.ror_bench.specs.Generated.{next_seed, seed_after, drawn_with, drawn, raise, generated_criteria, generated_id, generated_row, generated_alternative, generated_table}

-- ---- the draws

pub one_draw : (seed draws : ℕ) → seed_after seed (draws + 1) ≡ next_seed (seed_after seed draws)
unfolding seed_after
one_draw seed draws = let e : draws + 1 ≡ suc draws = omega arith in rw e refl

pub no_draws : (seed : ℕ) → seed_after seed 0 ≡ seed
unfolding seed_after
no_draws seed = refl

pub more_draws : (seed m n : ℕ) → seed_after (seed_after seed m) n ≡ seed_after seed (m + n)
unfolding seed_after
more_draws seed m zero = let e : m + zero ≡ m = omega arith in rw e refl
more_draws seed m (suc n) = let e : m + suc n ≡ suc (m + n) = omega arith in rw e (ap next_seed (more_draws seed m n))

pub drawn_below : (seed k n : ℕ) → 0 < n → drawn seed k n < n
unfolding drawn_with
drawn_below seed k n some = omega arith

-- ---- what holds of each number below one, by trying all

unfoldable pub all_below : (ℕ → Bool) → ℕ → Bool
all_below p zero = true
all_below p (suc n) = p n && all_below p n

pub below : (p : ℕ → Bool) (n : ℕ) → all_below p n ≡ true → (k : ℕ) → k < n → p k ≡ true
unfolding all_below
below p zero all k less = absurd (omega arith)
below p (suc n) all k less =
    let both = halves (p n) (all_below p n) all in
    elim (last k n less) [
      | inl same ↦ ap p same ∙ both.0
      | inr before ↦ below p n both.1 k before
    ]
  where
    halves : (a b : Bool) → (a && b) ≡ true → (a ≡ true) × (b ≡ true)
    halves true b both = (refl, both)
    halves false b both = absurd cc

    last : (k n : ℕ) → k < suc n → (k ≡ n) ⊎ (k < n)
    last k n less = elim (cases_lt k n) [ inl before ↦ inr before | inr after ↦ inl (omega arith) ]

-- ---- a row on the way

-- the performances on the first criteria
abbrev pub row_before : ℕ → ℕ → ℕ → List Amount
row_before seed a n = map (λ i. whole (pos (drawn seed i 100 + raise a i))) (range_with_len 0 n)

pub row_more : (seed a n before after here : ℕ) (old new : List Amount) → old ≡ row_before seed a n → before ≡ seed_after seed n → after ≡ next_seed before → here ≡ drawn_with after 100 → new ≡ old ++ whole (pos (here + raise a n)) ∷ [] → new ≡ row_before seed a (n + 1)
row_more seed a n before after here old new was at next draws pushed =
    let then : after ≡ seed_after seed (n + 1) = next ∙ ap next_seed at ∙ sym (one_draw seed n) in
    let value : here ≡ drawn seed n 100 = draws ∙ ap (λ (x : ℕ). drawn_with x 100) then in
    pushed
    ∙ ap (λ (xs : List Amount). xs ++ whole (pos (here + raise a n)) ∷ []) was
    ∙ ap (λ (x : ℕ). row_before seed a n ++ whole (pos (x + raise a n)) ∷ []) value
    ∙ sym (map-range_with_len_more (λ i. whole (pos (drawn seed i 100 + raise a i))) 0 n n (omega arith))

pub seed_more : (seed n before after : ℕ) → before ≡ seed_after seed n → after ≡ next_seed before → after ≡ seed_after seed (n + 1)
seed_more seed n before after at next = next ∙ ap next_seed at ∙ sym (one_draw seed n)

-- ---- the table on the way

-- the table with the first alternatives
abbrev pub table_before : ℕ → ℕ → DecisionTable
table_before seed n = record { criteria = generated_criteria; alternatives = map (generated_alternative seed) (range_with_len 0 n); classes = 0 }

pub table_more : (seed n : ℕ) → add_alternative (table_before seed n) (generated_id n) (generated_row (seed_after seed (4 * n)) n) ≡ table_before seed (n + 1)
table_more seed n = ap (λ (xs : List Alternative). record { criteria = generated_criteria; alternatives = xs; classes = 0 }) (sym (map-range_with_len_more (generated_alternative seed) 0 n n (omega arith)))

pub ids_are : (seed : ℕ) (xs : List ℕ) → map (λ a. a.id) (map (generated_alternative seed) xs) ≡ map generated_id xs
ids_are seed [] = refl
ids_are seed (x ∷ xs) = ap (λ (l : List (List ℕ)). generated_id x ∷ l) (ids_are seed xs)

valid_ids : all_below (λ a. is_id (generated_id a)) 24 ≡ true
unfolding is_id all_below is_utf8 chars encode
valid_ids = refl

pub id_is_valid : (a : ℕ) → a < 24 → IsId (generated_id a)
id_is_valid a less = below (λ a. is_id (generated_id a)) 24 valid_ids a less

free_ids : all_below (λ n. not (has_id (map generated_id (range_with_len 0 n)) (generated_id n))) 24 ≡ true
unfolding all_below
free_ids = refl

pub id_is_free : (seed n : ℕ) → n < 24 → has_id (alternative_ids (table_before seed n)) (generated_id n) ≡ false
id_is_free seed n less = ap (λ (ids : List (List ℕ)). has_id ids (generated_id n)) (ids_are seed (range_with_len 0 n)) ∙ is_not _ (below (λ n. not (has_id (map generated_id (range_with_len 0 n)) (generated_id n))) 24 free_ids n less)
  where
    is_not : (b : Bool) → not b ≡ true → b ≡ false
    is_not true is = absurd cc
    is_not false is = refl

-- an alternative more
pub table_step : (seed a : ℕ) (before after : DecisionTable) (id : List ℕ) (row : List Amount) → before ≡ table_before seed a → id ≡ generated_id a → row ≡ generated_row (seed_after seed (4 * a)) a → after ≡ add_alternative before id row → after ≡ table_before seed (a + 1)
table_step seed a before after id row was id-is row-is added =
    added
    ∙ ap (λ (t : DecisionTable). add_alternative t id row) was
    ∙ ap (λ (x : List ℕ). add_alternative (table_before seed a) x row) id-is
    ∙ ap (λ (x : List Amount). add_alternative (table_before seed a) (generated_id a) x) row-is
    ∙ table_more seed a

pub draws_step : (seed a before after : ℕ) → before ≡ seed_after seed (4 * a) → after ≡ seed_after before 4 → after ≡ seed_after seed (4 * (a + 1))
draws_step seed a before after at next =
    let count : 4 * a + 4 ≡ 4 * (a + 1) = omega arith in
    next ∙ ap (λ (x : ℕ). seed_after x 4) at ∙ more_draws seed (4 * a) 4 ∙ ap (seed_after seed) count

-- ---- it is a table

raise_few : (a i : ℕ) → raise a i ≤ 100
raise_few zero zero = omega arith
raise_few zero (suc i) = omega arith
raise_few (suc a) i = omega arith

amount : (seed a i : ℕ) → IsAmount (whole (pos (drawn seed i 100 + raise a i)))
amount seed a i =
    let below = drawn_below seed i 100 (omega arith) in
    let raised = raise_few a i in
    IsAmount-whole (pos (drawn seed i 100 + raise a i)) (omega arith)

pub row_amounts : (seed a : ℕ) → All IsAmount (generated_row seed a)
row_amounts seed a = All-from_recursion IsAmount (generated_row seed a) (amount seed a 0, (amount seed a 1, (amount seed a 2, (amount seed a 3, tt))))

empty_draft : IsDraft empty_table
empty_draft = record {
  criteria_limit = omega arith;
  alternatives_limit = omega arith;
  classes_limit = omega arith;
  criterion_ids_valid = λ k d within. absurd (omega arith);
  alternative_ids_valid = λ k d within. absurd (omega arith);
  criterion_ids_distinct = λ i j d before within. absurd (omega arith);
  alternative_ids_distinct = λ i j d before within. absurd (omega arith);
  evaluated = λ k d within. absurd (omega arith);
}

stepwise : Direction → Scale
stepwise direction = record { direction = direction; linear = false }

criteria_draft : (seed : ℕ) → IsDraft (table_before seed 0)
unfolding is_id is_utf8 chars encode stepwise
criteria_draft seed =
    let first = IsDraft-add_criterion empty_table (codes "k1") (stepwise Max) empty_draft refl refl refl (omega arith) in
    let second = IsDraft-add_criterion _ (codes "k2") (stepwise Min) first refl refl refl (omega arith) in
    let third = IsDraft-add_criterion _ (codes "k3") (stepwise Max) second refl refl refl (omega arith) in
    IsDraft-add_criterion _ (codes "k4") (stepwise Min) third refl refl refl (omega arith)

pub length-before : (seed n : ℕ) → length (table_before seed n).alternatives ≡ n
length-before seed n = length-map-range_with_len (generated_alternative seed) 0 n

is_draft : (seed n : ℕ) → n ≤ 24 → IsDraft (table_before seed n)
is_draft seed zero few = criteria_draft seed
is_draft seed (suc n) few =
    let count = length-before seed n in
    let before : IsDraft (table_before seed n) = is_draft seed n (omega arith) in
    let more = IsDraft-add_alternative (table_before seed n) (generated_id n) (generated_row (seed_after seed (4 * n)) n) before (id_is_valid n (omega arith)) (id_is_free seed n (omega arith)) (omega arith) refl (row_amounts (seed_after seed (4 * n)) n) in
    let next : n + 1 ≡ suc n = omega arith in
    subst (λ (m : ℕ). IsDraft (table_before seed m)) next (subst IsDraft (table_more seed n) more)

width_few : (t : DecisionTable) (i : ℕ) → width t i ≤ length t.alternatives
width_few t i =
    let steps = width-le-steps t i in
    let levels = levels_count-le (performances_on t i) in
    let count = length-map t.alternatives (λ a. performance_of a i) in
    omega arith

narrow : (seed : ℕ) → columns (table_before seed 24) ≤ 2000
narrow seed = four (table_before seed 24) refl (length-before seed 24)
  where
    four : (t : DecisionTable) → length t.criteria ≡ 4 → length t.alternatives ≡ 24 → columns t ≤ 2000
    four t criteria alternatives =
        let is : columns t ≡ offset t 4 = ap (offset t) criteria in
        let a = width_few t 0 in
        let b = width_few t 1 in
        let c = width_few t 2 in
        let d = width_few t 3 in
        omega arith

stepwise_all : (seed n i : ℕ) → is_linear (table_before seed n) i ≡ false
stepwise_all seed n zero = refl
stepwise_all seed n (suc zero) = refl
stepwise_all seed n (suc (suc zero)) = refl
stepwise_all seed n (suc (suc (suc zero))) = refl
stepwise_all seed n (suc (suc (suc (suc i)))) = refl

no_wide_scale : (seed : ℕ) → has_wide_scale (table_before seed 24) ≡ false
no_wide_scale seed = scale-of-stepwise (table_before seed 24) (stepwise_all seed 24)

pub is_table : (seed : ℕ) → IsTable (table_before seed 24)
is_table seed =
    let count = length-before seed 24 in
    IsTable-from_draft (table_before seed 24) (is_draft seed 24 (omega arith)) (omega arith) (omega arith) (narrow seed) (no_wide_scale seed)

pub is_generated : (seed : ℕ) → table_before seed 24 ≡ generated_table seed
unfolding generated_table
is_generated seed = refl

pub generated_is_table : (seed : ℕ) → IsTable (generated_table seed)
generated_is_table seed = subst IsTable (is_generated seed) (is_table seed)

-- ---- the draft is whole

not_lt : (m n : ℕ) → n ≤ m → nat_lt m n ≡ false
not_lt m n less = grind (arith, nat_tests)

pub finishes : (seed : ℕ) → finished Empty (TooMany Steps) WideScale (table_before seed 24) ≡ Ok (table_before seed 24)
unfolding finished
finishes seed =
    let few : nat_lt 2000 (columns (table_before seed 24)) ≡ false = not_lt 2000 (columns (table_before seed 24)) (narrow seed) in
    ap (λ (b : Bool). refuse (TooMany Steps) b >>= λ _. refuse WideScale (has_wide_scale (table_before seed 24)) >>= λ _. Ok (table_before seed 24)) few
    ∙ ap (λ (b : Bool). refuse WideScale b >>= λ _. Ok (table_before seed 24)) (no_wide_scale seed)

pub one_table : (seed : ℕ) (t : DecisionTable) → finished {F = DraftFault} Empty (TooMany Steps) WideScale (table_before seed 24) ≡ Ok t → t ≡ table_before seed 24
one_table seed t is = let done = finishes seed in cc

-- so want of memory is its one fault
pub only_memory : {X : Type 0} (fault : DraftFault) (x : X) → IfSome (draft_fault fault) (λ f. Ok x ≡ Err f) → fault ≡ Memory
only_memory BadId x is = absurd (let e = is in cc)
only_memory RepeatedId x is = absurd (let e = is in cc)
only_memory (TooMany what) x is = absurd (let e = is in cc)
only_memory Empty x is = absurd (let e = is in cc)
only_memory WideScale x is = absurd (let e = is in cc)
only_memory Memory x is = refl

-- ---- an alternative may be put

pub record CanBePut (t : DecisionTable) (id : List ℕ) (row : List Amount) : Type 0 where
  pub width : length row ≡ length t.criteria
  pub amounts : All IsAmount row
  pub valid : IsId id
  pub free : has_id (alternative_ids t) id ≡ false
  pub room : length t.alternatives < 200

pub can_be_put : (seed a : ℕ) (t : DecisionTable) (id : List ℕ) (row : List Amount) → a < 24 → t ≡ table_before seed a → id ≡ generated_id a → row ≡ generated_row (seed_after seed (4 * a)) a → CanBePut t id row
can_be_put seed a t id row less is id-is row-is =
    let count = length-before seed a in
    let put : CanBePut (table_before seed a) (generated_id a) (generated_row (seed_after seed (4 * a)) a) =
    record { width = refl; amounts = row_amounts (seed_after seed (4 * a)) a; valid = id_is_valid a less; free = id_is_free seed a less; room = omega arith } in
    subst (λ (x : DecisionTable). CanBePut x id row) (sym is) (subst (λ (x : List ℕ). CanBePut (table_before seed a) x row) (sym id-is) (subst (λ (x : List Amount). CanBePut (table_before seed a) (generated_id a) x) (sym row-is) put))
