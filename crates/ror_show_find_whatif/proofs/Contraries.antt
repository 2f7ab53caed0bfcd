-- What is given as the contrary of a statement is one.
use Rattle.std.proofs.Common.{◌≡◌, ℕ, refl, subst, arith}
use Rattle.std.specs.Prelude.{◌↔◌, ℤ, ◌≤ℤ◌, ◌<ℤ◌}
use Rattle.std.proofs.lemmas.Int.{ints, by_lt_z}
use Rattle.ror_statement.specs.declared.comparison.Form.TheVariants.{Value, Strength}
use Rattle.ror_statement.specs.declared.comparison.Relation.TheVariants.{Above, AtLeast as At}
use Rattle.ror_statement.specs.declared.statement.Statement.TheVariants.{Prefer, AtLeast, Same, Stronger, AsStrong, EqualStrength, Class}
use Rattle.ror_statement.specs.Statements.{comparison_by}
use Rattle.ror_table.specs.Table.{DecisionTable}
use Rattle.ror_value.specs.Meaning.{first_quantity, second_quantity}
use Rattle.ror_show_find_whatif.specs.Laws.{ContrariesAreContrary}
use Rattle.ror_show_find_whatif.specs.Meaning.{AreContrary, IsContraryTo}

above_denies : (x y : ℤ) → (y <ℤ x) ↔ ((x ≤ℤ y) → ⊥)
above_denies x y = (λ less most. omega (arith, ints, less, most), λ not_most. by_lt_z y x (λ less. less) (λ most. absurd (not_most most)))

at_least_denies : (x y : ℤ) → (y ≤ℤ x) ↔ ((x <ℤ y) → ⊥)
at_least_denies x y = (λ most less. omega (arith, ints, less, most), λ not_less. by_lt_z x y (λ less. absurd (not_less less)) (λ most. most))

values_above : (t : DecisionTable) (a b : ℕ) → AreContrary t (comparison_by Above (Value a b)) (comparison_by At (Value b a))
values_above t a b w = above_denies (first_quantity t w (Value a b)) (second_quantity t w (Value a b))

values_at_least : (t : DecisionTable) (a b : ℕ) → AreContrary t (comparison_by At (Value a b)) (comparison_by Above (Value b a))
values_at_least t a b w = at_least_denies (first_quantity t w (Value a b)) (second_quantity t w (Value a b))

pub contraries : ContrariesAreContrary
contraries t (Prefer a b) r is =
    let same : AtLeast b a ≡ r = cc in
    subst (IsContraryTo t (Prefer a b)) same (record { says = comparison_by Above (Value a b); denies = comparison_by At (Value b a); first = refl; second = refl; contrary = values_above t a b })
contraries t (AtLeast a b) r is =
    let same : Prefer b a ≡ r = cc in
    subst (IsContraryTo t (AtLeast a b)) same (record { says = comparison_by At (Value a b); denies = comparison_by Above (Value b a); first = refl; second = refl; contrary = values_at_least t a b })
contraries t (Stronger p q scope) r is =
    let same : AsStrong q p scope ≡ r = cc in
    subst (IsContraryTo t (Stronger p q scope)) same (record {
      says = comparison_by Above (Strength p q scope);
      denies = comparison_by At (Strength q p scope);
      first = refl;
      second = refl;
      contrary = λ w. above_denies (first_quantity t w (Strength p q scope)) (second_quantity t w (Strength p q scope));
    })
contraries t (AsStrong p q scope) r is =
    let same : Stronger q p scope ≡ r = cc in
    subst (IsContraryTo t (AsStrong p q scope)) same (record {
      says = comparison_by At (Strength p q scope);
      denies = comparison_by Above (Strength q p scope);
      first = refl;
      second = refl;
      contrary = λ w. at_least_denies (first_quantity t w (Strength p q scope)) (second_quantity t w (Strength p q scope));
    })
contraries t (Same a b) r is = absurd cc
contraries t (EqualStrength p q scope) r is = absurd cc
contraries t (Class a lowest highest) r is = absurd cc
