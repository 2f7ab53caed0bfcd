-- Lists that are changed are lawful where what stood is.
use Rattle.std.proofs.Common.{◌≡◌, ℕ, ◌+◌, ◌++◌, Bool, true, false, List, [], ◌∷◌, Option, Some, refl, sym, ap, subst, ◌∙◌, arith}
use Rattle.std.specs.Prelude.{◌==◌, slice_get, option_to_list, if◌then◌else◌}
use Rattle.std.specs.List.{AllByRecursion, AllZip, flat_map}
use Rattle.std.specs.List.Sorted.{IsStrictlyIncreasing}
use Rattle.std.proofs.lemmas.Bool.{eqb-true}
use Rattle.std.proofs.lemmas.List.Sums.{sum_by-append}
use Rattle.ror_text.proofs.Everywhere.{all_by_places}
use Rattle.ror_statement.specs.declared.comparison.Comparison.{Comparison}
use Rattle.ror_statement.specs.declared.statement.Assignment.{Assignment}
use Rattle.ror_statement.specs.declared.statement.Numbered.{Numbered}
use Rattle.ror_statement.specs.declared.statement.Statement.{Statement}
use Rattle.ror_statement.specs.declared.statement.Statement.TheVariants.{Prefer, AtLeast, Same, Stronger, AsStrong, EqualStrength, Class}
use Rattle.ror_statement.specs.Statements.{comparison_of, assignment_of, outranking_by, outranking, class_comparisons, numbers_in, statements_in}
use Rattle.ror_statement.specs.RowNumbers.{rows_of, rows_number, own_rows, row_count}
use Rattle.ror_table.specs.Table.{DecisionTable}
use Rattle.ror_value.specs.Over.{IsValidIn, IsLawfulIn}
use Rattle.ror_check.proofs.Numbers.{rises, same_number}
use Rattle.ror_check.proofs.Repairs.{kept_lawful}
use Rattle.ror_show_find_whatif.specs.Changed.{left_of, contrary_of, placed, instead_of}
use Rattle.ror_show_find_whatif.proofs.Answering.{as_many}

pub left_lawful : (t : DecisionTable) (ns : List ℕ) (list : List Numbered) → IsLawfulIn t (statements_in list) → IsLawfulIn t (left_of ns list)
left_lawful t ns list lawful = kept_lawful t ns list lawful

-- ---- statements that take as many rows and assign alike

pub record AreAlike (t : DecisionTable) (s r : Statement) : Type 0 where
  pub rows : own_rows s ≡ own_rows r
  pub assigned : assignment_of s ≡ assignment_of r
  pub valid : IsValidIn t s → IsValidIn t r

rows_number-append : (xs ys : List Comparison) → rows_number (xs ++ ys) ≡ rows_number xs + rows_number ys
rows_number-append xs ys = sum_by-append (λ (c : Comparison). rows_of c.relation) xs ys

own_alike : (t : DecisionTable) (xs ys : List Statement) → AllZip (AreAlike t) xs ys → rows_number (flat_map (λ (s : Statement). option_to_list (comparison_of s)) xs) ≡ rows_number (flat_map (λ (s : Statement). option_to_list (comparison_of s)) ys)
own_alike t [] [] all = refl
own_alike t [] (y ∷ ys) all = absurd all
own_alike t (x ∷ xs) [] all = absurd all
own_alike t (x ∷ xs) (y ∷ ys) all =
    let own = λ (s : Statement). option_to_list (comparison_of s) in
    let rest = own_alike t xs ys all.1 in
    let here = all.0.rows in
    let left = rows_number-append (option_to_list (comparison_of x)) (flat_map (λ (s : Statement). option_to_list (comparison_of s)) xs) in
    let right = rows_number-append (option_to_list (comparison_of y)) (flat_map (λ (s : Statement). option_to_list (comparison_of s)) ys) in
    omega (arith, rest, here, left, right)

-- what one says together with each
pub with_alike : (t : DecisionTable) (r s : Statement) (xs ys : List Statement) → assignment_of r ≡ assignment_of s → AllZip (AreAlike t) xs ys → flat_map (outranking r) xs ≡ flat_map (outranking s) ys
with_alike t r s [] [] same all = refl
with_alike t r s [] (y ∷ ys) same all = absurd all
with_alike t r s (x ∷ xs) [] same all = absurd all
with_alike t r s (x ∷ xs) (y ∷ ys) same all =
    let rest = with_alike t r s xs ys same all.1 in
    let first : outranking r x ≡ outranking s y = ap (λ (o : Option Assignment). outranking_by o (assignment_of x)) same ∙ ap (outranking_by (assignment_of s)) all.0.assigned in
    ap (λ (cs : List Comparison). cs ++ flat_map (outranking r) xs) first ∙ ap (λ (cs : List Comparison). outranking s y ++ cs) rest

each_with : (t : DecisionTable) (us vs xs ys : List Statement) → AllZip (AreAlike t) us vs → AllZip (AreAlike t) xs ys → flat_map (λ (r : Statement). flat_map (outranking r) us) xs ≡ flat_map (λ (r : Statement). flat_map (outranking r) vs) ys
each_with t us vs [] [] with_ all = refl
each_with t us vs [] (y ∷ ys) with_ all = absurd all
each_with t us vs (x ∷ xs) [] with_ all = absurd all
each_with t us vs (x ∷ xs) (y ∷ ys) with_ all =
    let first = with_alike t x y us vs all.0.assigned with_ in
    let rest = each_with t us vs xs ys with_ all.1 in
    ap (λ (cs : List Comparison). cs ++ flat_map (λ (r : Statement). flat_map (outranking r) us) xs) first ∙ ap (λ (cs : List Comparison). flat_map (outranking y) vs ++ cs) rest

rows_alike : (t : DecisionTable) (xs ys : List Statement) → AllZip (AreAlike t) xs ys → row_count xs ≡ row_count ys
rows_alike t xs ys all =
    let own = own_alike t xs ys all in
    let pairs : rows_number (class_comparisons xs) ≡ rows_number (class_comparisons ys) = ap (λ (cs : List Comparison). rows_number cs) (each_with t xs ys xs ys all all) in
    let left = rows_number-append (flat_map (λ (s : Statement). option_to_list (comparison_of s)) xs) (class_comparisons xs) in
    let right = rows_number-append (flat_map (λ (s : Statement). option_to_list (comparison_of s)) ys) (class_comparisons ys) in
    omega (arith, own, pairs, left, right)

valid_alike : (t : DecisionTable) (xs ys : List Statement) → AllZip (AreAlike t) xs ys → AllByRecursion (IsValidIn t) xs → AllByRecursion (IsValidIn t) ys
valid_alike t [] [] all valid = tt
valid_alike t [] (y ∷ ys) all valid = absurd all
valid_alike t (x ∷ xs) [] all valid = absurd all
valid_alike t (x ∷ xs) (y ∷ ys) all valid = (all.0.valid valid.0, valid_alike t xs ys all.1 valid.1)

pub lawful_alike : (t : DecisionTable) (xs ys : List Statement) → AllZip (AreAlike t) xs ys → IsLawfulIn t xs → IsLawfulIn t ys
lawful_alike t xs ys all lawful =
    let few = lawful.few in
    let rows = lawful.rows in
    record {
      few = omega (arith, few, as_many (AreAlike t) xs ys all);
      rows = omega (arith, rows, rows_alike t xs ys all);
      each_valid = valid_alike t xs ys all lawful.each_valid;
    }

-- ---- a statement and its contrary

pub itself_alike : (t : DecisionTable) (s : Statement) → AreAlike t s s
itself_alike t s = record { rows = refl; assigned = refl; valid = λ valid. valid }

pub contrary_alike : (t : DecisionTable) (s r : Statement) → contrary_of s ≡ Some r → AreAlike t s r
contrary_alike t (Prefer a b) r is =
    let same : AtLeast b a ≡ r = cc in
    subst (AreAlike t (Prefer a b)) same (record { rows = refl; assigned = refl; valid = λ valid. record { compared = (valid.compared.1, valid.compared.0); assigned = tt } })
contrary_alike t (AtLeast a b) r is =
    let same : Prefer b a ≡ r = cc in
    subst (AreAlike t (AtLeast a b)) same (record { rows = refl; assigned = refl; valid = λ valid. record { compared = (valid.compared.1, valid.compared.0); assigned = tt } })
contrary_alike t (Stronger p q scope) r is =
    let same : AsStrong q p scope ≡ r = cc in
    subst (AreAlike t (Stronger p q scope)) same (record { rows = refl; assigned = refl; valid = λ valid. record { compared = (valid.compared.1, valid.compared.0, valid.compared.2); assigned = tt } })
contrary_alike t (AsStrong p q scope) r is =
    let same : Stronger q p scope ≡ r = cc in
    subst (AreAlike t (AsStrong p q scope)) same (record { rows = refl; assigned = refl; valid = λ valid. record { compared = (valid.compared.1, valid.compared.0, valid.compared.2); assigned = tt } })
contrary_alike t (Same a b) r is = absurd cc
contrary_alike t (EqualStrength p q scope) r is = absurd cc
contrary_alike t (Class a lowest highest) r is = absurd cc

-- of those with its number this one is the contrary
abbrev pub HasContrary : ℕ → Statement → Numbered → Type 0
HasContrary n s x = x.number ≡ n → contrary_of x.statement ≡ Some s

-- where numbers rise there is one
pub one_contrary : (list : List Numbered) (k : ℕ) (x : Numbered) (s : Statement) → IsStrictlyIncreasing (numbers_in list) → slice_get list k ≡ Some x → contrary_of x.statement ≡ Some s → AllByRecursion (HasContrary x.number s) list
one_contrary list k x s rising there is = all_by_places (HasContrary x.number s) list each
  where
    each : (i : ℕ) (y : Numbered) → slice_get list i ≡ Some y → HasContrary x.number s y
    each i y here same =
        let equal : y ≡ x = same_number (λ (z : Numbered). z.number) list i k y x (rises (numbers_in list) rising) here there same in
        subst (λ (z : Numbered). contrary_of z.statement ≡ Some s) (sym equal) is

pub placed_alike : (t : DecisionTable) (n : ℕ) (s : Statement) (x : Numbered) → HasContrary n s x → AreAlike t x.statement (placed n s x)
placed_alike t n s x is = by (x.number == n) refl
  where
    by : (b : Bool) → (x.number == n) ≡ b → AreAlike t x.statement (if b then s else x.statement)
    by true same = contrary_alike t x.statement s (is (eqb-true x.number n same))
    by false other = itself_alike t x.statement

pub instead_alike : (t : DecisionTable) (n : ℕ) (s : Statement) (list : List Numbered) → AllByRecursion (HasContrary n s) list → AllZip (AreAlike t) (statements_in list) (instead_of n s list)
instead_alike t n s [] all = tt
instead_alike t n s (x ∷ xs) all = (placed_alike t n s x all.0, instead_alike t n s xs all.1)

pub instead_lawful : (t : DecisionTable) (list : List Numbered) (k : ℕ) (x : Numbered) (s : Statement) → IsStrictlyIncreasing (numbers_in list) → slice_get list k ≡ Some x → contrary_of x.statement ≡ Some s → IsLawfulIn t (statements_in list) → IsLawfulIn t (instead_of x.number s list)
instead_lawful t list k x s rising there is lawful =
    lawful_alike t (statements_in list) (instead_of x.number s list) (instead_alike t x.number s list (one_contrary list k x s rising there is)) lawful
