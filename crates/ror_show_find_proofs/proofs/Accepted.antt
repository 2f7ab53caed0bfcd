-- Which numbers are the steps of a function, and which are the same.
use Rattle.std.proofs.Common.{◌≡◌, ◌↔◌, Bool, true, false, List, [], ◌∷◌, not, ◌&&◌, ◌||◌, length, ℤ, pos, ◌≤ℤ◌, ◌<ℤ◌, Some, None, refl, sym, ap, ◌∙◌, arith}
use Rattle.std.specs.Prelude.{◌==◌, int_lt, nat_lt, unsigned_abs, IsTrue}
use Rattle.std.specs.List.{list_any}
use Rattle.std.specs.Ordering.{int_eq}
use Rattle.std.proofs.lemmas.Bool.{eqb-true, ltb-true, false_from_ne_true, lt-ltb}
use Rattle.std.proofs.lemmas.Bool.Decides.{Decides-int_eq, Decides-eqb}
use Rattle.std.proofs.lemmas.Int.{ints}
use Rattle.ror_integers.specs.Vectors.{NoneNegative, total}
use Rattle.ror_show_ground.proofs.Tests.{both-true, not-true}
use Rattle.ror_table.specs.Table.{DecisionTable, columns}
use Rattle.ror_system.specs.System.{sum_limit}
use Rattle.ror_value.specs.Value.{ideal_value, IsFunctionOf, Normalised}
use Rattle.ror_value.specs.ValueFaults.{IsAcceptedFunction}
use Rattle.ror_show_find_proofs.specs.Functions.{is_negative, is_accepted, function_of, same_numbers}

-- ---- signs

not_below : (x : ℤ) → int_lt x (pos 0) ≡ false → pos 0 ≤ℤ x
not_below x is = grind (arith, ints)

is_not_below : (x : ℤ) → pos 0 ≤ℤ x → int_lt x (pos 0) ≡ false
is_not_below x above = grind (arith, ints)

above_is : (x : ℤ) → int_lt (pos 0) x ≡ true → pos 0 <ℤ x
above_is x is = grind (arith, ints)

is_above : (x : ℤ) → pos 0 <ℤ x → int_lt (pos 0) x ≡ true
is_above x above = grind (arith, ints)

none_negative : (w : List ℤ) → list_any is_negative w ≡ false → NoneNegative w
none_negative [] is = tt
none_negative (x ∷ xs) is = by (int_lt x (pos 0)) refl is (none_negative xs)
  where
    by : (b : Bool) → int_lt x (pos 0) ≡ b → (b || list_any is_negative xs) ≡ false → (list_any is_negative xs ≡ false → NoneNegative xs) → NoneNegative (x ∷ xs)
    by true e more rest = absurd cc
    by false e more rest = (not_below x e, rest more)

none_is : (w : List ℤ) → NoneNegative w → list_any is_negative w ≡ false
none_is [] all = refl
none_is (x ∷ xs) all = rw (is_not_below x all.0) (none_is xs all.1)

-- ---- functions

pub accepted_is : (t : DecisionTable) (w : List ℤ) → is_accepted t w ≡ true → IsAcceptedFunction t w
accepted_is t w is =
    let first = both-true (length w == columns t) (not (list_any is_negative w) && (int_lt (pos 0) (total w) && nat_lt (unsigned_abs (ideal_value t w)) sum_limit)) is in
    let second = both-true (not (list_any is_negative w)) (int_lt (pos 0) (total w) && nat_lt (unsigned_abs (ideal_value t w)) sum_limit) first.1 in
    let third = both-true (int_lt (pos 0) (total w)) (nat_lt (unsigned_abs (ideal_value t w)) sum_limit) second.1 in
    record {
      function = record {
        one_for_each_column = eqb-true (length w) (columns t) first.0;
        none_negative = none_negative w (not-true (list_any is_negative w) second.0);
        positive = above_is (total w) third.0;
      };
      total_within = ltb-true (unsigned_abs (ideal_value t w)) sum_limit third.1;
    }

pub is_accepted_function : (t : DecisionTable) (w : List ℤ) → IsAcceptedFunction t w → is_accepted t w ≡ true
is_accepted_function t w h =
    let wide : (length w == columns t) ≡ true = (Decides-eqb (length w) (columns t)).1 h.function.one_for_each_column in
    let signs : list_any is_negative w ≡ false = none_is w h.function.none_negative in
    let positive : int_lt (pos 0) (total w) ≡ true = is_above (total w) h.function.positive in
    let narrow : nat_lt (unsigned_abs (ideal_value t w)) sum_limit ≡ true = lt-ltb (unsigned_abs (ideal_value t w)) sum_limit h.total_within in
    rw (wide, signs, positive, narrow) refl

pub of_accepted : (t : DecisionTable) (w : List ℤ) → IsAcceptedFunction t w → Some (record { steps = w; total = ideal_value t w }) ≡ function_of t w
of_accepted t w h = let is : is_accepted t w ≡ true = is_accepted_function t w h in rw is refl

abbrev with_total : List ℤ → ℤ → Normalised
with_total w z = record { steps = w; total = z }

pub found_is : (t : DecisionTable) (w : List ℤ) (f : Normalised) → f.steps ≡ w → IsAcceptedFunction t f.steps → IsFunctionOf t f → Some f ≡ function_of t w
found_is t w f same accepted function =
    let whole : f ≡ record { steps = f.steps; total = ideal_value t f.steps } = ap (with_total f.steps) function.ideal in
    ap (λ (g : Normalised). Some g) whole ∙ of_accepted t f.steps accepted ∙ ap (function_of t) same

pub refused_is : (t : DecisionTable) (w v : List ℤ) → v ≡ w → (IsAcceptedFunction t v → ⊥) → None ≡ function_of t w
refused_is t w v same refused =
    let is : is_accepted t v ≡ false = false_from_ne_true (is_accepted t v) (λ e. refused (accepted_is t v e)) in
    let none : None ≡ function_of t v = rw is refl in
    none ∙ ap (function_of t) same

-- ---- equal lists

pub same_is : (xs ys : List ℤ) → same_numbers xs ys ≡ true → xs ≡ ys
same_is [] [] is = refl
same_is [] (y ∷ ys) is = absurd cc
same_is (x ∷ xs) [] is = absurd cc
same_is (x ∷ xs) (y ∷ ys) is =
    let both = both-true (int_eq x y) (same_numbers xs ys) is in
    let first : x ≡ y = (Decides-int_eq x y).0 both.0 in
    let rest : xs ≡ ys = same_is xs ys both.1 in
    cc

pub is_same_as : (xs : List ℤ) → same_numbers xs xs ≡ true
is_same_as [] = refl
is_same_as (x ∷ xs) = let first : int_eq x x ≡ true = (Decides-int_eq x x).1 refl in rw first (is_same_as xs)

pub is_same_numbers : (xs ys : List ℤ) (r : Bool) → IsTrue r ↔ (xs ≡ ys) → r ≡ same_numbers xs ys
is_same_numbers xs ys true says = let same : xs ≡ ys = says.0 refl in sym (ap (same_numbers xs) (sym same) ∙ is_same_as xs)
is_same_numbers xs ys false says = sym (false_from_ne_true (same_numbers xs ys) (λ e. let wrong : false ≡ true = says.1 (same_is xs ys e) in absurd cc))
