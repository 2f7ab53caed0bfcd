-- The tests of multipliers and of their columns, as the code reads them.
use Rattle.std.proofs.Common.{◌≡◌, ◌≢◌, inl, inr, ℕ, zero, suc, ◌<◌, ◌≤◌, List, [], ◌∷◌, ◌++◌, length, ℤ, pos, ◌*ℤ◌, ◌≤ℤ◌, ◌<ℤ◌, negsuc, unsigned_abs, Option, Some, None, refl, ap, ap₂, sym, subst, ◌∙◌, arith, int_cmp, Greater, FitsSigned}
use Rattle.std.specs.Prelude.{MatchOption}
use Rattle.std.specs.List.{AllByRecursion}
use Rattle.std.proofs.lemmas.Int.{by_lt_z, fits_signed_from_abs}
use Rattle.std.specs.Int.{w128}
use Rattle.ror_integers.specs.Vectors.{entry, dot, absolute_dot, total, NoneNegative, SomePositive}
use Rattle.ror_integers.proofs.Ring.{sums, product_comm}
use Rattle.ror_integers.proofs.Order.{product_positive, product_nonnegative}
use Rattle.ror_integers.proofs.Dots.{dot-le-absolute_dot}
use Rattle.ror_integers.proofs.Comparisons.{greater_means, is_greater}
use Rattle.ror_integers.proofs.Signs.{NoneNegative-from_entries, SomePositive-from_total, dot_positive_at}
use Rattle.ror_text.specs.FirstFault.{IsFirst}
use Rattle.ror_system.specs.System.{LinearSystem, IsNarrow, sum_limit}
use Rattle.ror_system.specs.Acceptance.{IsAcceptedSolution, FailsMultipliers, AreAcceptedMultipliers, IsEarlierTest}
use Rattle.ror_system.specs.declared.reject.Reject.{Reject}
use Rattle.ror_system.specs.declared.reject.Reject.TheVariants as rejects
use Rattle.ror_pivot.specs.Optimality.{AreTops, least_value}
use Rattle.ror_discriminate.specs.Steps.{HaveForm, IsMarginAt}
use Rattle.ror_discriminate.proofs.NoGreater.{NoneNegative-tops}
use Rattle.ror_value.proofs.Walks.{narrow_above}
use Rattle.ror_discriminate.proofs.OptimalTests.{same_number, some_or_none}

-- ---- the form of multipliers
module _ (s : LinearSystem) (weak strict : List ℤ) where
  form_accepted : AreAcceptedMultipliers s weak strict → HaveForm s weak strict × SomePositive strict
  form_accepted a = (record { one_for_each_weak = a.refute.as_many_weak; one_for_each_strict = a.refute.as_many_strict; none_negative = a.refute.none_negative }, a.refute.some_positive)

  -- where the first test that fails is none of the first two there is the form
  form_later : (r : Reject) → ((k : ℕ) → IsEarlierTest (rejects.Negative k) r) → IsEarlierTest rejects.Length r → IsFirst (FailsMultipliers s weak strict) IsEarlierTest r → HaveForm s weak strict
  form_later r signs lengths first = record {
    one_for_each_weak = same_number _ _ (λ ne. first.none_before rejects.Length lengths (inl ne));
    one_for_each_strict = same_number _ _ (λ ne. first.none_before rejects.Length lengths (inr ne));
    none_negative = NoneNegative-from_entries (weak ++ strict) (λ j l. by_lt_z (entry (weak ++ strict) j) (pos 0) (λ p. absurd (first.none_before (rejects.Negative j) (signs j) (l, p))) (λ p. p));
  }

  -- what a reason says of the form and of the strict multipliers
  abbrev pub FormOf : Reject → Type 0
  FormOf rejects.Length = Unit {0}
  FormOf (rejects.Negative k) = Unit {0}
  FormOf rejects.NoStrict = HaveForm s weak strict × (SomePositive strict → ⊥)
  FormOf _ = HaveForm s weak strict × SomePositive strict

  pub form_of : (r : Reject) → IsFirst (FailsMultipliers s weak strict) IsEarlierTest r → FormOf r
  form_of rejects.Length first = tt
  form_of (rejects.Negative k) first = tt
  form_of rejects.NoStrict first = (form_later rejects.NoStrict (λ k. inl (omega arith)) (inl (omega arith)) first, first.fails)
  form_of rejects.Total first = absurd first.fails
  form_of (rejects.RowWide i) first = absurd first.fails
  form_of (rejects.Row i) first = absurd first.fails
  form_of (rejects.ColumnWide j) first = (form_later (rejects.ColumnWide j) (λ k. inl (omega arith)) (inl (omega arith)) first, some_or_none strict (first.none_before rejects.NoStrict (inl (omega arith))))
  form_of (rejects.Column j) first = (form_later (rejects.Column j) (λ k. inl (omega arith)) (inl (omega arith)) first, some_or_none strict (first.none_before rejects.NoStrict (inl (omega arith))))

-- a reason that is none of the first three
pub form_of_others : (s : LinearSystem) (weak strict : List ℤ) (r : Reject) → r ≢ rejects.Length → ((k : ℕ) → r ≢ rejects.Negative k) → r ≢ rejects.NoStrict → IsFirst (FailsMultipliers s weak strict) IsEarlierTest r → HaveForm s weak strict × SomePositive strict
form_of_others s weak strict rejects.Length a b c first = absurd (a refl)
form_of_others s weak strict (rejects.Negative k) a b c first = absurd (b k refl)
form_of_others s weak strict rejects.NoStrict a b c first = absurd (c refl)
form_of_others s weak strict rejects.Total a b c first = form_of s weak strict rejects.Total first
form_of_others s weak strict (rejects.RowWide i) a b c first = form_of s weak strict (rejects.RowWide i) first
form_of_others s weak strict (rejects.Row i) a b c first = form_of s weak strict (rejects.Row i) first
form_of_others s weak strict (rejects.ColumnWide j) a b c first = form_of s weak strict (rejects.ColumnWide j) first
form_of_others s weak strict (rejects.Column j) a b c first = form_of s weak strict (rejects.Column j) first

-- ---- the inequality of a column
pub too_great : (m t sum scale least all dot_is counted : ℤ) → m ≡ least → t ≡ all → sum ≡ dot_is → scale ≡ counted → int_cmp (sum *ℤ t) (m *ℤ scale) ≡ Greater → (least *ℤ counted) <ℤ (all *ℤ dot_is)
too_great m t sum scale least all dot_is counted a b c d test =
    let l = greater_means (sum *ℤ t) (m *ℤ scale) test in
    let e = ap₂ (λ (x y : ℤ). x *ℤ y) c b ∙ product_comm dot_is all in
    let f = ap₂ (λ (x y : ℤ). x *ℤ y) a d in
    omega (arith, sums)

pub not_too_great : (m t sum scale least all dot_is counted : ℤ) → m ≡ least → t ≡ all → sum ≡ dot_is → scale ≡ counted → (int_cmp (sum *ℤ t) (m *ℤ scale) ≡ Greater → ⊥) → (least *ℤ counted) <ℤ (all *ℤ dot_is) → ⊥
not_too_great m t sum scale least all dot_is counted a b c d test l =
    let e = ap₂ (λ (x y : ℤ). x *ℤ y) c b ∙ product_comm dot_is all in
    let f = ap₂ (λ (x y : ℤ). x *ℤ y) a d in
    test (is_greater (sum *ℤ t) (m *ℤ scale) (omega (arith, sums)))

-- what a column counts is at least 1
top_at : (tops : List ℤ) (j : ℕ) → AllByRecursion (λ t. pos 1 ≤ℤ t) tops → j < length tops → pos 0 <ℤ entry tops j
top_at [] j all l = absurd (omega arith)
top_at (t ∷ tops) zero all l = let h = all.0 in omega (arith, sums)
top_at (t ∷ tops) (suc j) all l = top_at tops j all.1 (omega arith)

-- the total is above 0
total_above : (columns : ℕ) (tops steps : List ℤ) → AreTops columns tops → length steps ≡ columns → NoneNegative steps → pos 0 <ℤ total steps → pos 0 <ℤ dot tops steps
total_above columns tops steps are long none positive =
    let some = SomePositive-from_total steps positive in
    dot_positive_at tops steps some.0 (NoneNegative-tops tops are.at_least_one) none (top_at tops some.0 are.at_least_one (let l = some.1 in let count = are.one_for_each_column in omega arith)) some.2

pub margin_at : (s : LinearSystem) (tops steps : List ℤ) (low whole : ℤ) → AreTops s.columns tops → IsAcceptedSolution s steps → low ≡ least_value s steps → IsNarrow low → whole ≡ dot tops steps → IsNarrow whole → IsMarginAt s tops steps (record { least = low; total = whole })
margin_at s tops steps low whole are accepted e narrow f within = record {
  least_is = e;
  total_is = f;
  positive = subst (λ (z : ℤ). pos 0 <ℤ z) (sym f) (total_above s.columns tops steps are accepted.solves.one_for_each_column accepted.solves.rows.none_negative accepted.total_positive);
  least_within = narrow;
  total_within = within;
}

pub scale_positive : (columns : ℕ) (tops : List ℤ) (j : ℕ) (weight : ℤ) → AreTops columns tops → j < columns → pos 0 <ℤ weight → pos 0 <ℤ (entry tops j *ℤ weight)
scale_positive columns tops j weight are l positive = product_positive (entry tops j) weight (top_at tops j are.at_least_one (let long = are.one_for_each_column in omega arith)) positive

-- what the code multiplies, where it fits and where it doesn't
pub scale_read : (top sum p q scale : ℤ) → p ≡ top → q ≡ sum → FitsSigned w128 (p *ℤ q) × (scale ≡ p *ℤ q) → pos 0 <ℤ (top *ℤ sum) → (scale ≡ top *ℤ sum) × IsNarrow (top *ℤ sum)
scale_read top sum p q scale d e made positive =
    let same = ap₂ (λ (x y : ℤ). x *ℤ y) d e in
    (made.1 ∙ same, narrow_above (top *ℤ sum) (omega (arith, sums)) (subst (FitsSigned w128) same made.0))

pub scale_over : (top sum p q : ℤ) → p ≡ top → q ≡ sum → (FitsSigned w128 (p *ℤ q) → ⊥) → IsNarrow (top *ℤ sum) → ⊥
scale_over top sum p q d e wide narrow = wide (subst (FitsSigned w128) (sym (ap₂ (λ (x y : ℤ). x *ℤ y) d e)) (fits_signed_from_abs w128 (top *ℤ sum) narrow))

-- ---- values of rows
pub row_value : (o : Option ℤ) (z : ℤ) (row steps : List ℤ) → o ≡ Some z → MatchOption o (sum_limit ≤ absolute_dot row steps) (λ sum. (sum ≡ dot row steps) × (absolute_dot row steps < sum_limit)) → (z ≡ dot row steps) × IsNarrow z
row_value None z row steps is h = absurd cc
row_value (Some x) z row steps is h =
    let same : x ≡ z = cc in
    let e : z ≡ dot row steps = sym same ∙ h.0 in
    let size = dot-le-absolute_dot row steps in
    let small = h.1 in
    (e, subst IsNarrow (sym e) (omega arith))

pub narrow_dot : (z : ℤ) (ms xs : List ℤ) → z ≡ dot ms xs → absolute_dot ms xs < sum_limit → unsigned_abs z ≤ 170141183460469231731687303715884105727
narrow_dot z ms xs e l =
    let size = dot-le-absolute_dot ms xs in
    let same = ap unsigned_abs e in
    omega arith

-- numbers none of which is below 0 sum to their absolute terms
pub absolute_dot-none_negative : (xs ys : List ℤ) → NoneNegative xs → NoneNegative ys → pos (absolute_dot xs ys) ≡ dot xs ys
absolute_dot-none_negative [] ys h k = refl
absolute_dot-none_negative (x ∷ xs) [] h k = refl
absolute_dot-none_negative (x ∷ xs) (y ∷ ys) h k =
    let rest = absolute_dot-none_negative xs ys h.1 k.1 in
    let here = absolute (x *ℤ y) (product_nonnegative x y h.0 k.0) in
    omega (arith, sums)
  where
    absolute : (z : ℤ) → pos 0 ≤ℤ z → pos (unsigned_abs z) ≡ z
    absolute (pos n) low = refl
    absolute (negsuc n) low = absurd low.le

-- so the total fits exactly where these do
pub total_fits : (xs ys : List ℤ) → NoneNegative xs → NoneNegative ys → absolute_dot xs ys < sum_limit → IsNarrow (dot xs ys)
total_fits xs ys h k l = subst IsNarrow (absolute_dot-none_negative xs ys h k) l

pub total_wide : (xs ys : List ℤ) → NoneNegative xs → NoneNegative ys → sum_limit ≤ absolute_dot xs ys → IsNarrow (dot xs ys) → ⊥
total_wide xs ys h k l narrow =
    let small : absolute_dot xs ys < sum_limit = subst IsNarrow (sym (absolute_dot-none_negative xs ys h k)) narrow in
    omega arith

pub narrow_terms : (xs ys : List ℤ) → NoneNegative xs → NoneNegative ys → IsNarrow (dot xs ys) → absolute_dot xs ys < sum_limit
narrow_terms xs ys h k narrow = subst IsNarrow (sym (absolute_dot-none_negative xs ys h k)) narrow
