-- What was found for one of several places, and what true answers say.
use Rattle.std.proofs.Common.{◌≡◌, inl, inr, ℕ, zero, suc, ◌<◌, ◌≤◌, Bool, true, false, List, [], ◌∷◌, length, get_or, Some, refl, sym, ap, subst, ◌∙◌, arith}
use Rattle.std.specs.Prelude.{◌⊎◌, Contains, slice_get, if◌then◌else◌}
use Rattle.std.specs.List.{AllByRecursion, AllZip, flat_map, range_with_len}
use Rattle.std.proofs.lemmas.List.Elements.{Contains-append_right}
use Rattle.std.proofs.lemmas.List.FromFn.{length-map-range_with_len, get_or-map-range_with_len}
use Rattle.ror_text.proofs.Everywhere.{all-by, all-pieces}
use Rattle.ror_show_ground.proofs.Lists.{over_range}
use Rattle.ror_show_ground.proofs.Tests.{less_or}
use Rattle.ror_statement.specs.declared.statement.Numbered.{Numbered}
use Rattle.ror_statement.specs.declared.statement.Statement.{Statement}
use Rattle.ror_statement.specs.Statements.{statements_in}
use Rattle.ror_table.specs.Table.{DecisionTable}
use Rattle.ror_proof.specs.declared.answer.Answer.{Answer}
use Rattle.ror_check.specs.Proof.{IsWideOrTrue}
use Rattle.ror_check.proofs.ManyAnswers.{wide_or_true}
use Rattle.ror_show_ground.specs.Sound.{IsSoundAnswer}
use Rattle.ror_report.specs.Text.{answers_of}
use Rattle.ror_bench.specs.declared.kept.KeptLine.{KeptLine}
use Rattle.ror_show_find_relation.specs.declared.cell.Cell.{Cell}
use Rattle.ror_show_find_relation.specs.declared.cell.Cell.TheVariants as cells
use Rattle.ror_show_find_relation.specs.Cells.{cell_at, cells_from, cell_rows}
use Rattle.ror_show_find_relation.specs.CellLaws.{AreTrueAnswers}
use Rattle.ror_show_find_relation.specs.Meaning.{Says}
use Rattle.ror_show_find_relation.specs.Rows.{cell_in}
use Rattle.ror_show_find_relation.proofs.CellLemmas.{cells-true}
use Rattle.ror_show_ground.specs.Ready.{IsReadyOver}

-- ---- one of several

-- it was made for one of the places
zip_at : {X Y : Type 0} (R : X → Y → Type 0) (xs : List X) (ys : List Y) (k : ℕ) (y : Y) → k < length ys → get_or ys k y ≡ y → AllZip R xs ys → (x : X) × R x y
zip_at R [] [] k y within is all = absurd (omega (arith, within))
zip_at R [] (b ∷ ys) k y within is all = absurd all
zip_at R (a ∷ xs) [] k y within is all = absurd all
zip_at R (a ∷ xs) (b ∷ ys) zero y within is all = (a, subst (R a) is all.0)
zip_at R (a ∷ xs) (b ∷ ys) (suc k) y within is all = zip_at R xs ys k y (omega (arith, within)) is all.1

pub made_for : {X Y : Type 0} (R : X → Y → Type 0) (xs : List X) (ys : List Y) (y : Y) → Contains ys y → AllZip R xs ys → (x : X) × R x y
made_for R xs ys y there all = zip_at R xs ys there.0 y there.1 there.2 all

moved : {X Y : Type 0} (R : X → Y → Type 0) (a x : X) (b y : Y) → a ≡ x → b ≡ y → R a b → R x y
moved {X} {Y} R a x b y one other is = subst (λ (z : X). R z y) one (subst (R a) other is)

-- for the one at the same place
pub made_at : {X Y : Type 0} (R : X → Y → Type 0) (xs : List X) (ys : List Y) (k : ℕ) (x : X) (y : Y) → slice_get xs k ≡ Some x → slice_get ys k ≡ Some y → AllZip R xs ys → R x y
made_at R [] [] k x y first second all = absurd cc
made_at R [] (b ∷ ys) k x y first second all = absurd all
made_at R (a ∷ xs) [] k x y first second all = absurd all
made_at R (a ∷ xs) (b ∷ ys) zero x y first second all =
    let one : a ≡ x = cc in
    let other : b ≡ y = cc in
    moved R a x b y one other all.0
made_at R (a ∷ xs) (b ∷ ys) (suc k) x y first second all = made_at R xs ys k x y first second all.1

pub made_of : {X Y : Type 0} (R : X → Y → Type 0) (xs : List X) (ys : List Y) (k : ℕ) (y : Y) → slice_get ys k ≡ Some y → AllZip R xs ys → (x : X) × R x y
made_of R [] [] k y there all = absurd cc
made_of R [] (b ∷ ys) k y there all = absurd all
made_of R (a ∷ xs) [] k y there all = absurd all
made_of R (a ∷ xs) (b ∷ ys) zero y there all = let same : b ≡ y = cc in (a, subst (R a) same all.0)
made_of R (a ∷ xs) (b ∷ ys) (suc k) y there all = made_of R xs ys k y there all.1

-- for a place of which something holds
pub made_with : {X Y : Type 0} (P : X → Type 0) (R : X → Y → Type 0) (xs : List X) (ys : List Y) (k : ℕ) (y : Y) → AllByRecursion P xs → slice_get ys k ≡ Some y → AllZip R xs ys → (x : X) × P x × R x y
made_with P R [] [] k y each there all = absurd cc
made_with P R [] (b ∷ ys) k y each there all = absurd all
made_with P R (a ∷ xs) [] k y each there all = absurd all
made_with P R (a ∷ xs) (b ∷ ys) zero y each there all = let same : b ≡ y = cc in (a, each.0, subst (R a) same all.0)
made_with P R (a ∷ xs) (b ∷ ys) (suc k) y each there all = made_with P R xs ys k y each.1 there all.1

-- the places that are picked pass the test
pub picked_pass : (test : ℕ → Bool) (n : ℕ) → AllByRecursion (λ k. test k ≡ true) (flat_map (λ k. if test k then k ∷ [] else []) (range_with_len 0 n))
picked_pass test n =
    all-pieces (λ k. test k ≡ true) (λ k. if test k then k ∷ [] else []) (range_with_len 0 n)
    (over_range (λ k. AllByRecursion (λ j. test j ≡ true) (if test k then k ∷ [] else [])) 0 n (λ k low high. one (test k) k refl))
  where
    one : (b : Bool) (k : ℕ) → test k ≡ b → AllByRecursion (λ j. test j ≡ true) (if b then k ∷ [] else [])
    one true k passes = (passes, tt)
    one false k fails = tt

-- what each element of the first list brings
pub each_brings : {X Y : Type 0} (R : X → Y → Type 0) (P : Y → Type 0) (xs : List X) (ys : List Y) → ((x : X) (y : Y) → Contains xs x → R x y → P y) → AllZip R xs ys → AllByRecursion P ys
each_brings R P [] [] brings all = tt
each_brings R P [] (y ∷ ys) brings all = absurd all
each_brings R P (x ∷ xs) [] brings all = absurd all
each_brings R P (x ∷ xs) (y ∷ ys) brings all = (
  brings x y (0, omega arith, refl) all.0,
  each_brings R P xs ys (λ z w there r. brings z w (Contains-append_right (x ∷ []) xs z there) r) all.1,
)

-- ---- true answers

pub true_answers : (t : DecisionTable) (x : KeptLine) (list : List Numbered) → IsReadyOver t x list → AreTrueAnswers t (statements_in list) (answers_of x.block.body)
true_answers t x list over =
    all-by (IsSoundAnswer t (statements_in list)) (λ (y : Answer). IsWideOrTrue t (statements_in list) y.question y.verdict) (answers_of x.block.body)
    (λ y is. wide_or_true t (statements_in list) y.question y.verdict over.lawful is.asked is.verdict) over.sound

past_end : {X : Type 0} (xs : List X) (k : ℕ) (d : X) → length xs ≤ k → get_or xs k d ≡ d
past_end [] zero d past = refl
past_end [] (suc k) d past = refl
past_end (x ∷ xs) zero d past = absurd (omega (arith, past))
past_end (x ∷ xs) (suc k) d past = past_end xs k d (omega (arith, past))

nothing_said : (t : DecisionTable) (list : List Statement) (cell : Cell) (a b : ℕ) → cell ≡ cells.Unknown → Says t list cell a b
nothing_said t list cell a b none = subst (λ (c : Cell). Says t list c a b) (sym none) tt

row_there : (n : ℕ) (xs : List Answer) (a : ℕ) → a < n → get_or (cell_rows n xs) a [] ≡ cells_from n xs a
row_there n xs a before = get_or-map-range_with_len (cells_from n xs) 0 n a a [] before (omega arith)

-- the cell in the rows is that of the pair; past the last one it says nothing
pub cell_or_none : (n : ℕ) (xs : List Answer) (a b : ℕ) → (cell_in (cell_rows n xs) a b ≡ cell_at n xs a b) ⊎ (cell_in (cell_rows n xs) a b ≡ cells.Unknown)
cell_or_none n xs a b = by (less_or a n) (less_or b n)
  where
    by : (a < n) ⊎ (n ≤ a) → (b < n) ⊎ (n ≤ b) → (cell_in (cell_rows n xs) a b ≡ cell_at n xs a b) ⊎ (cell_in (cell_rows n xs) a b ≡ cells.Unknown)
    by (inl first) (inl second) =
        inl (ap (λ (r : List Cell). get_or r b cells.Unknown) (row_there n xs a first) ∙ get_or-map-range_with_len (cell_at n xs a) 0 n b b cells.Unknown second (omega arith))
    by (inl first) (inr past) =
        let long : length (cells_from n xs a) ≡ n = length-map-range_with_len (cell_at n xs a) 0 n in
        inr (ap (λ (r : List Cell). get_or r b cells.Unknown) (row_there n xs a first) ∙ past_end (cells_from n xs a) b cells.Unknown (omega (arith, long, past)))
    by (inr past) beside =
        let long : length (cell_rows n xs) ≡ n = length-map-range_with_len (cells_from n xs) 0 n in
        let no_row : get_or (cell_rows n xs) a [] ≡ [] = past_end (cell_rows n xs) a [] (omega (arith, long, past)) in
        inr (ap (λ (r : List Cell). get_or r b cells.Unknown) no_row ∙ past_end [] b cells.Unknown (omega arith))

-- each cell says what is true
pub says_in : (t : DecisionTable) (list : List Statement) (xs : List Answer) (n a b : ℕ) → AreTrueAnswers t list xs → Says t list (cell_in (cell_rows n xs) a b) a b
says_in t list xs n a b all = elim (cell_or_none n xs a b) [
  | inl there ↦ subst (λ (c : Cell). Says t list c a b) (sym there) (cells-true t list xs n a b all)
  | inr none ↦ nothing_said t list (cell_in (cell_rows n xs) a b) a b none
]
