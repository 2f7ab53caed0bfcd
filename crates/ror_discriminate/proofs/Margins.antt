-- The strict rows of a list's system are its margins, and accepted optima of the system are most discriminating functions.
use Rattle.std.proofs.Common.{◌≡◌, ◌≢◌, ◌↔◌, ℕ, zero, suc, ◌<◌, List, [], ◌∷◌, ◌++◌, length, map, drop, Some, ℤ, pos, ◌*ℤ◌, ◌≤ℤ◌, refl, ap, ap₂, sym, ◌∙◌, arith, append-nil}
use Rattle.std.proofs.lemmas.Bool.{eqb-true, eqb-false}
use Rattle.std.specs.Prelude.{Bool, true, false, ◌==◌, IsTrue, slice_get, if◌then◌else◌}
use Rattle.std.specs.List.{AllByRecursion, filter}
use Rattle.std.proofs.lemmas.List.{length-map}
use Rattle.ror_integers.specs.Vectors.{entry, dots, ones}
use Rattle.ror_integers.proofs.Ring.{sums}
use Rattle.ror_statement.specs.declared.comparison.Form.{Form}
use Rattle.ror_statement.specs.declared.comparison.Relation.{Relation}
use Rattle.ror_statement.specs.declared.comparison.Relation.TheVariants.{Above, AtLeast, Equal}
use Rattle.ror_statement.specs.declared.comparison.Comparison.{Comparison}
use Rattle.ror_statement.specs.declared.statement.Statement.{Statement}
use Rattle.ror_statement.specs.Statements.{comparison_by, comparisons_of}
use Rattle.ror_table.specs.Table.{DecisionTable, IsTable, columns}
use Rattle.ror_table.specs.Blocks.{tops}
use Rattle.ror_table.proofs.BlockLemmas.{length-tops, ones-le-tops}
use Rattle.ror_text.proofs.Everywhere.{all-append}
use Rattle.ror_system.specs.Acceptance.{rows_of}
use Rattle.ror_system.specs.System.{LinearSystem, IsWellFormed}
use Rattle.ror_value.specs.Over.{IsNamedIn, IsLawfulIn}
use Rattle.ror_value.specs.Value.{ideal_value}
use Rattle.ror_rows.specs.Rows.{strict_rows_for, strict_rows as strict_rows_of}
use Rattle.ror_rows.specs.Laws.{AreNamed}
use Rattle.ror_rows.proofs.Building.{comparisons_named, parts_weak_width, parts_strict_width}
use Rattle.ror_rows.proofs.Holding.{dot-form_row, rows_hold_base}
use Rattle.ror_check.specs.Proof.{base_system}
use Rattle.ror_pivot.specs.Optimality.{AreTops, least, strict_rows, least_value, IsBest}
use Rattle.ror_discriminate.specs.Margin.{is_strict, strict_comparisons, margin_on, margins, least_margin, DiscriminatesAsMuch, IsMostDiscriminating}
use Rattle.ror_discriminate.proofs.Leasts.{all_from_entries}
use Rattle.ror_discriminate.proofs.NoGreater.{no_greater}
use Rattle.ror_discriminate.proofs.OptimalTests.{some_row}

-- ---- rows and margins
abbrev strict_among : List Comparison → List Comparison
strict_among cs = filter (λ c. is_strict c.relation) cs

-- the rows of one comparison before those of others
one_more : (t : DecisionTable) (w : List ℤ) (r : Relation) (form : Form) (rows : List (List ℤ)) (cs : List Comparison) → IsNamedIn t form → dots rows w ≡ map (margin_on t w) cs
    → dots (strict_rows_for t r form ++ rows) w ≡ map (margin_on t w) (if is_strict r then comparison_by r form ∷ cs else cs)
one_more t w Above form rows cs named rest = ap₂ (λ (x : ℤ) (xs : List ℤ). x ∷ xs) (dot-form_row t w form named) rest
one_more t w AtLeast form rows cs named rest = rest
one_more t w Equal form rows cs named rest = rest

rows_of_comparisons : (t : DecisionTable) (w : List ℤ) (cs : List Comparison) → AreNamed t cs → dots (strict_rows_of t cs) w ≡ map (margin_on t w) (strict_among cs)
rows_of_comparisons t w [] named = refl
rows_of_comparisons t w (c ∷ cs) named = one_more t w c.relation c.form (strict_rows_of t cs) (strict_among cs) named.0 (rows_of_comparisons t w cs named.1)

-- the strict rows of a list's system but that of ones
rows_are : (t : DecisionTable) (list : List Statement) → strict_rows (base_system t list) ≡ strict_rows_of t (comparisons_of list)
rows_are t list = append-nil (strict_rows_of t (comparisons_of list))

pub rows_margins : (t : DecisionTable) (list : List Statement) (w : List ℤ) → IsLawfulIn t list → dots (strict_rows (base_system t list)) w ≡ margins t list w
rows_margins t list w lawful =
    ap (λ (rows : List (List ℤ)). dots rows w) (rows_are t list)
    ∙ rows_of_comparisons t w (comparisons_of list) (comparisons_named t list lawful.each_valid)

pub least_margins : (t : DecisionTable) (list : List Statement) (w : List ℤ) → IsLawfulIn t list → least_value (base_system t list) w ≡ least_margin t list w
least_margins t list w lawful = ap least (rows_margins t list w lawful)

-- there are as many
one_count : (t : DecisionTable) (r : Relation) (form : Form) (rows : List (List ℤ)) (cs : List Comparison) → length rows ≡ length cs
    → length (strict_rows_for t r form ++ rows) ≡ length (if is_strict r then comparison_by r form ∷ cs else cs)
one_count t Above form rows cs rest = omega (arith, rest)
one_count t AtLeast form rows cs rest = rest
one_count t Equal form rows cs rest = rest

count_of_comparisons : (t : DecisionTable) (cs : List Comparison) → length (strict_rows_of t cs) ≡ length (strict_among cs)
count_of_comparisons t [] = refl
count_of_comparisons t (c ∷ cs) = one_count t c.relation c.form (strict_rows_of t cs) (strict_among cs) (count_of_comparisons t cs)

pub rows_count : (t : DecisionTable) (list : List Statement) → length (strict_rows (base_system t list)) ≡ length (strict_comparisons list)
rows_count t list = ap length (rows_are t list) ∙ count_of_comparisons t (comparisons_of list)

pub none_by_count : {X Y : Type 0} (xs : List X) (ys : List Y) → length xs ≡ length ys → xs ≡ [] → ys ≡ []
none_by_count xs [] e none = refl
none_by_count xs (y ∷ ys) e none = let f = ap length none in absurd (omega (arith, e, f))

pub no_rows : (t : DecisionTable) (list : List Statement) → (strict_rows (base_system t list) ≡ []) ↔ (strict_comparisons list ≡ [])
no_rows t list = (
  none_by_count (strict_rows (base_system t list)) (strict_comparisons list) (rows_count t list),
  none_by_count (strict_comparisons list) (strict_rows (base_system t list)) (sym (rows_count t list)),
)

-- there are margins where something is said strictly
pub some_margins : (t : DecisionTable) (list : List Statement) (w : List ℤ) → strict_comparisons list ≢ [] → margins t list w ≢ []
some_margins t list w some none = some (none_by_count (margins t list w) (strict_comparisons list) (length-map (strict_comparisons list) (margin_on t w)) none)

-- the row of ones is the one strict row exactly where nothing is said strictly
pub no_second : {X : Type 0} (xs : List X) → length xs ≡ 1 → drop 1 xs ≡ []
no_second [] one = refl
no_second (x ∷ []) one = refl
no_second (x ∷ (y ∷ xs)) one = absurd (omega (arith, one))

pub some_second : {X : Type 0} (xs : List X) (x : X) → slice_get xs 0 ≡ Some x → (length xs ≡ 1 → ⊥) → drop 1 xs ≢ []
some_second [] x first more none = absurd cc
some_second (y ∷ []) x first more none = more refl
some_second (y ∷ (z ∷ xs)) x first more none = absurd cc

-- the system of a list, as the code reads it: one strict row, and more than one
pub says_nothing : (t : DecisionTable) (list : List Statement) (s : LinearSystem) (rows : List (List ℤ)) → s ≡ base_system t list → rows ≡ s.strict → length rows ≡ 1 → strict_comparisons list ≡ []
says_nothing t list s rows e f one =
    let strict = f ∙ ap (λ (s : LinearSystem). s.strict) e in
    (no_rows t list).0 (no_second (base_system t list).strict (sym (ap (λ (rows : List (List ℤ)). length rows) strict) ∙ one))

pub says_something : (t : DecisionTable) (list : List Statement) (s : LinearSystem) (rows : List (List ℤ)) → s ≡ base_system t list → rows ≡ s.strict → IsWellFormed s → (length rows ≡ 1 → ⊥) → strict_comparisons list ≢ []
says_something t list s rows e f form more none =
    some_second s.strict (ones s.columns) form.total_row (λ one. more (ap (λ (rows : List (List ℤ)). length rows) f ∙ one)) (ap strict_rows e ∙ (no_rows t list).1 none)

pub nothing_where_one : (t : DecisionTable) (list : List Statement) (s : LinearSystem) (rows : List (List ℤ)) → s ≡ base_system t list → rows ≡ s.strict → IsWellFormed s → IsTrue (length rows == 1) ↔ (strict_comparisons list ≡ [])
nothing_where_one t list s rows e f form = (λ one. says_nothing t list s rows e f (eqb-true (length rows) 1 one), λ none. at none (length rows == 1) refl)
  where
    at : strict_comparisons list ≡ [] → (b : Bool) → (length rows == 1) ≡ b → IsTrue b
    at none true is = refl
    at none false is = absurd (says_something t list s rows e f form (eqb-false (length rows) 1 is) none)

-- ---- what the columns count
entry-ones : (n j : ℕ) → j < n → entry (ones n) j ≡ pos 1
entry-ones zero j l = absurd (omega arith)
entry-ones (suc n) zero l = refl
entry-ones (suc n) (suc j) l = entry-ones n j (omega arith)

pub tops_are : (t : DecisionTable) → IsTable t → AreTops (columns t) (tops t)
tops_are t table = record { one_for_each_column = length-tops t; at_least_one = all_from_entries (pos 1) (tops t) at }
  where
    at : (j : ℕ) → j < length (tops t) → pos 1 ≤ℤ entry (tops t) j
    at j l =
        let e = entry-ones (columns t) j (let long = length-tops t in omega arith) in
        let h = ones-le-tops t table j in
        omega (arith, sums)

base_widths : (t : DecisionTable) (list : List Statement) → IsLawfulIn t list → AllByRecursion (λ (row : List ℤ). length row ≡ columns t) (rows_of (base_system t list))
base_widths t list lawful =
    let s = base_system t list in
    all-append (λ (row : List ℤ). length row ≡ columns t) s.weak s.strict (parts_weak_width t list (columns t) s.weak refl lawful.each_valid refl) (parts_strict_width t list (columns t) s.strict refl lawful.each_valid refl)

-- ---- accepted optima
pub most_discriminating : (t : DecisionTable) (list : List Statement) (steps weak strict : List ℤ) → AreTops (columns t) (tops t) → IsLawfulIn t list
    → IsBest (base_system t list) (tops t) steps weak strict → IsMostDiscriminating t list steps
most_discriminating t list steps weak strict are lawful best = record {
  says_strictly = λ none. some_row (base_system t list) (tops t) (record { solution = record { steps = steps }; multipliers = record { weak = weak; strict = strict } }) best ((no_rows t list).1 none);
  compatible = (rows_hold_base t list steps lawful).1 best.solution.solves;
  most = λ v compatible. in_margins v (no_greater (base_system t list) (tops t) steps weak strict (base_widths t list lawful) are best v ((rows_hold_base t list v lawful).0 compatible));
}
  where
    in_margins : (v : List ℤ) → (least_value (base_system t list) v *ℤ ideal_value t steps) ≤ℤ (least_value (base_system t list) steps *ℤ ideal_value t v) → DiscriminatesAsMuch t list steps v
    in_margins v h =
        let e = ap (λ (m : ℤ). m *ℤ ideal_value t steps) (least_margins t list v lawful) in
        let f = ap (λ (m : ℤ). m *ℤ ideal_value t v) (least_margins t list steps lawful) in
        omega (arith, sums)
