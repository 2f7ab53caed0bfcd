-- The rows of comparisons hold of a function exactly where the comparisons do.
use Rattle.std.proofs.Common.{◌≡◌, ◌↔◌, ℕ, zero, suc, ◌+◌, ◌≤◌, List, [], ◌∷◌, ◌++◌, length, map, ℤ, pos, ◌-ℤ◌, ◌≤ℤ◌, ◌<ℤ◌, true, false, refl, ap, ap₂, ◌∙◌, arith}
use Rattle.std.specs.Prelude.{Bool, ◌<◌, ◌==◌}
use Rattle.std.specs.List.{AllByRecursion, range_with_len}
use Rattle.std.proofs.lemmas.Bool.{eqb-true, eqb-false, ne_eqb}
use Rattle.ror_integers.specs.Vectors.{dot, total}
use Rattle.ror_integers.proofs.Ring.{sums}
use Rattle.ror_integers.proofs.Dots.{dot-row_difference_left, dot-ones_all}
use Rattle.ror_text.proofs.Everywhere.{all-append, all-front, all-back}
use Rattle.ror_statement.specs.declared.comparison.Pair.{Pair}
use Rattle.ror_statement.specs.declared.comparison.Scope.{Scope}
use Rattle.ror_statement.specs.declared.comparison.Scope.TheVariants.{Whole, One}
use Rattle.ror_statement.specs.declared.comparison.Form.{Form}
use Rattle.ror_statement.specs.declared.comparison.Form.TheVariants.{Value, Strength}
use Rattle.ror_statement.specs.declared.comparison.Relation.{Relation}
use Rattle.ror_statement.specs.declared.comparison.Relation.TheVariants.{Above, AtLeast, Equal}
use Rattle.ror_statement.specs.declared.comparison.Comparison.{Comparison}
use Rattle.ror_statement.specs.declared.statement.Statement.{Statement}
use Rattle.ror_statement.specs.Statements.{comparisons_of}
use Rattle.ror_statement.specs.Names.{ScopeWithin, PairWithin}
use Rattle.ror_table.specs.Table.{DecisionTable, rank, columns}
use Rattle.ror_system.specs.System.{Solves}
use Rattle.ror_value.specs.Over.{IsNamedIn, IsLawfulIn}
use Rattle.ror_value.specs.Value.{marginal, value}
use Rattle.ror_value.specs.Meaning.{value_in, strength, first_quantity, second_quantity, Stands, Holds, IsCompatible}
use Rattle.ror_value.proofs.Values.{dot-blocks, dot-values, marginal-zero}
use Rattle.ror_rows.specs.Rows.{value_row, rank_in, scope_row, pair_row, form_row, turned, weak_rows_for, strict_rows_for, weak_rows, strict_rows, system_for}
use Rattle.ror_rows.specs.Laws.{AreNamed}
use Rattle.ror_rows.proofs.Building.{turned-named, comparisons_named}

-- ---- rows against a function
-- weak rows are at least 0, and strict rows above 0
abbrev pub WeakHold : List ℤ → List (List ℤ) → Type 0
WeakHold w rows = AllByRecursion (λ row. pos 0 ≤ℤ dot row w) rows

abbrev pub StrictHold : List ℤ → List (List ℤ) → Type 0
StrictHold w rows = AllByRecursion (λ row. pos 0 <ℤ dot row w) rows

dot-value_row : (t : DecisionTable) (w : List ℤ) (a : ℕ) → dot (value_row t a) w ≡ value t w a
dot-value_row t w a = dot-values t w a

-- the marginal value at the rank within one criterion: nothing elsewhere
marginal-elsewhere : (t : DecisionTable) (w : List ℤ) (k a i : ℕ) → (i == k) ≡ false → marginal t w i (rank_in t (One k) a i) ≡ pos 0
marginal-elsewhere t w k a i is = rw is (marginal-zero t w i)

marginal-there : (t : DecisionTable) (w : List ℤ) (k a i : ℕ) → (i == k) ≡ true → marginal t w i (rank_in t (One k) a i) ≡ marginal t w k (rank t a k)
marginal-there t w k a i is = rw is (ap (λ (j : ℕ). marginal t w j (rank t a j)) (eqb-true i k is))

no_marginals : (t : DecisionTable) (w : List ℤ) (k a n s : ℕ) → k < s → total (map (λ i. marginal t w i (rank_in t (One k) a i)) (range_with_len s n)) ≡ pos 0
no_marginals t w k a zero s past = refl
no_marginals t w k a (suc n) s past =
    let none = marginal-elsewhere t w k a s (ne_eqb s k (λ e. omega (arith, e, past))) in
    let rest = no_marginals t w k a n (s + 1) (omega (arith, past)) in
    omega (arith, sums, none, rest)

marginals_from : (t : DecisionTable) (w : List ℤ) (k a n s : ℕ) (b : Bool) → (s == k) ≡ b → s ≤ k → (s + 1 ≤ k → total (map (λ i. marginal t w i (rank_in t (One k) a i)) (range_with_len (s + 1) n)) ≡ marginal t w k (rank t a k))
    → total (map (λ i. marginal t w i (rank_in t (One k) a i)) (range_with_len s (suc n))) ≡ marginal t w k (rank t a k)
marginals_from t w k a n s true is low later =
    let same = eqb-true s k is in
    let here = marginal-there t w k a s is in
    let rest = no_marginals t w k a n (s + 1) (omega (arith, same)) in
    omega (arith, sums, here, rest)
marginals_from t w k a n s false is low later =
    let other = eqb-false s k is in
    let here = marginal-elsewhere t w k a s is in
    let rest = later (grind (arith, other, low)) in
    omega (arith, sums, here, rest)

marginals_in_one : (t : DecisionTable) (w : List ℤ) (k a n s : ℕ) → s ≤ k → k < s + n → total (map (λ i. marginal t w i (rank_in t (One k) a i)) (range_with_len s n)) ≡ marginal t w k (rank t a k)
marginals_in_one t w k a zero s low high = absurd (omega (arith, low, high))
marginals_in_one t w k a (suc n) s low high =
    marginals_from t w k a n s (s == k) refl low (λ more. marginals_in_one t w k a n (s + 1) more (omega (arith, high)))

dot-scope_row : (t : DecisionTable) (w : List ℤ) (s : Scope) (a : ℕ) → ScopeWithin (length t.criteria) s → dot (scope_row t s a) w ≡ value_in t w s a
dot-scope_row t w Whole a scope = dot-value_row t w a
dot-scope_row t w (One k) a scope =
    dot-blocks t w (rank_in t (One k) a) (length t.criteria) 0
    ∙ marginals_in_one t w k a (length t.criteria) 0 (omega arith) (omega (arith, scope))

dot-pair_row : (t : DecisionTable) (w : List ℤ) (s : Scope) (p : Pair) → PairWithin (length t.alternatives) p → ScopeWithin (length t.criteria) s → dot (pair_row t s p) w ≡ strength t w s p
dot-pair_row t w s p pair scope =
    dot-row_difference_left (scope_row t s p.first) (scope_row t s p.second) w
    ∙ ap₂ (λ (x y : ℤ). x -ℤ y) (dot-scope_row t w s p.first scope) (dot-scope_row t w s p.second scope)

pub dot-form_row : (t : DecisionTable) (w : List ℤ) (form : Form) → IsNamedIn t form → dot (form_row t form) w ≡ first_quantity t w form -ℤ second_quantity t w form
dot-form_row t w (Value a b) named =
    dot-row_difference_left (value_row t a) (value_row t b) w ∙ ap₂ (λ (x y : ℤ). x -ℤ y) (dot-value_row t w a) (dot-value_row t w b)
dot-form_row t w (Strength p q s) named =
    dot-row_difference_left (pair_row t s p) (pair_row t s q) w ∙ ap₂ (λ (x y : ℤ). x -ℤ y) (dot-pair_row t w s p named.0 named.2) (dot-pair_row t w s q named.1 named.2)

pub first-turned : (t : DecisionTable) (w : List ℤ) (form : Form) → first_quantity t w (turned form) ≡ second_quantity t w form
first-turned t w (Value a b) = refl
first-turned t w (Strength p q s) = refl

pub second-turned : (t : DecisionTable) (w : List ℤ) (form : Form) → second_quantity t w (turned form) ≡ first_quantity t w form
second-turned t w (Value a b) = refl
second-turned t w (Strength p q s) = refl

-- the rows of one comparison
rows_hold_for : (t : DecisionTable) (w : List ℤ) (r : Relation) (form : Form) → IsNamedIn t form
    → (WeakHold w (weak_rows_for t r form) × StrictHold w (strict_rows_for t r form)) ↔ Stands r (first_quantity t w form) (second_quantity t w form)
rows_hold_for t w Above form named =
    let e = dot-form_row t w form named in
    (λ h. let row = h.1.0 in omega (arith, sums, e, row), λ h. (tt, (omega (arith, sums, e, h), tt)))
rows_hold_for t w AtLeast form named =
    let e = dot-form_row t w form named in
    (λ h. let row = h.0.0 in omega (arith, sums, e, row), λ h. ((omega (arith, sums, e, h), tt), tt))
rows_hold_for t w Equal form named =
    let e = dot-form_row t w form named in
    let f = dot-form_row t w (turned form) (turned-named t form named) in
    let x = first-turned t w form in
    let y = second-turned t w form in
    (λ h. let row = h.0.0 in let other = h.0.1.0 in omega (arith, sums, e, f, x, y, row, other), λ h. ((omega (arith, sums, e, h), (omega (arith, sums, f, x, y, h), tt)), tt))

-- the rows of comparisons, one after another
pub comparisons_hold : (t : DecisionTable) (w : List ℤ) (cs : List Comparison) → AreNamed t cs → (WeakHold w (weak_rows t cs) × StrictHold w (strict_rows t cs)) ↔ AllByRecursion (Holds t w) cs
comparisons_hold t w [] named = (λ h. tt, λ h. (tt, tt))
comparisons_hold t w (c ∷ cs) named =
    let here = rows_hold_for t w c.relation c.form named.0 in
    let rest = comparisons_hold t w cs named.1 in
    let weak = weak_rows_for t c.relation c.form in
    let strict = strict_rows_for t c.relation c.form in
    let to : (WeakHold w (weak ++ weak_rows t cs) × StrictHold w (strict ++ strict_rows t cs)) → AllByRecursion (Holds t w) (c ∷ cs) = λ h. (
      here.0 (all-front (λ row. pos 0 ≤ℤ dot row w) weak (weak_rows t cs) h.0, all-front (λ row. pos 0 <ℤ dot row w) strict (strict_rows t cs) h.1),
      rest.0 (all-back (λ row. pos 0 ≤ℤ dot row w) weak (weak_rows t cs) h.0, all-back (λ row. pos 0 <ℤ dot row w) strict (strict_rows t cs) h.1),
    ) in
    let from : AllByRecursion (Holds t w) (c ∷ cs) → (WeakHold w (weak ++ weak_rows t cs) × StrictHold w (strict ++ strict_rows t cs)) = λ h. (
      all-append (λ row. pos 0 ≤ℤ dot row w) weak (weak_rows t cs) (here.1 h.0).0 (rest.1 h.1).0,
      all-append (λ row. pos 0 <ℤ dot row w) strict (strict_rows t cs) (here.1 h.0).1 (rest.1 h.1).1,
    ) in
    (to, from)

-- ---- systems
-- a function solves the system exactly where it is compatible with the list and meets the extra comparisons
pub rows_hold_extra : (t : DecisionTable) (list : List Statement) (extra : List Comparison) (w : List ℤ) → IsLawfulIn t list → AreNamed t extra
    → (IsCompatible t list w × AllByRecursion (Holds t w) extra) ↔ Solves (system_for t list extra) w
rows_hold_extra t list extra w lawful named = (to, from)
  where
    to : (IsCompatible t list w × AllByRecursion (Holds t w) extra) → Solves (system_for t list extra) w
    to h =
        let cs = comparisons_of list in
        let met = (comparisons_hold t w cs (comparisons_named t list lawful.each_valid)).1 h.0.meets in
        let more = (comparisons_hold t w extra named).1 h.1 in
        let long = h.0.function.one_for_each_column in
        let sum = dot-ones_all (columns t) w (omega arith) in
        let positive = h.0.function.positive in
        record {
          one_for_each_column = long;
          rows = record {
            none_negative = h.0.function.none_negative;
            weak_hold = all-append (λ row. pos 0 ≤ℤ dot row w) (weak_rows t cs) (weak_rows t extra) met.0 more.0;
            strict_hold = (omega (arith, sums), all-append (λ row. pos 0 <ℤ dot row w) (strict_rows t cs) (strict_rows t extra) met.1 more.1);
          };
        }

    from : Solves (system_for t list extra) w → (IsCompatible t list w × AllByRecursion (Holds t w) extra)
    from s =
        let cs = comparisons_of list in
        let weak = weak_rows t cs in
        let strict = strict_rows t cs in
        let met = (comparisons_hold t w cs (comparisons_named t list lawful.each_valid)).0
        (all-front (λ row. pos 0 ≤ℤ dot row w) weak (weak_rows t extra) s.rows.weak_hold, all-front (λ row. pos 0 <ℤ dot row w) strict (strict_rows t extra) s.rows.strict_hold.1) in
        let more = (comparisons_hold t w extra named).0
        (all-back (λ row. pos 0 ≤ℤ dot row w) weak (weak_rows t extra) s.rows.weak_hold, all-back (λ row. pos 0 <ℤ dot row w) strict (strict_rows t extra) s.rows.strict_hold.1) in
        let long = s.one_for_each_column in
        let sum = dot-ones_all (columns t) w (omega arith) in
        let positive = s.rows.strict_hold.0 in (
          record {
            function = record { one_for_each_column = long; none_negative = s.rows.none_negative; positive = omega (arith, sums) };
            meets = met;
          },
          more,
        )

pub rows_hold_base : (t : DecisionTable) (list : List Statement) (w : List ℤ) → IsLawfulIn t list → IsCompatible t list w ↔ Solves (system_for t list []) w
rows_hold_base t list w lawful = let both = rows_hold_extra t list [] w lawful tt in (λ h. both.0 (h, tt), λ s. (both.1 s).0)
