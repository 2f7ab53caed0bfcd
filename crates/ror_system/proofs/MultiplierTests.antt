-- What follows from the tests of multipliers: acceptance, or a first reason.
use Rattle.std.proofs.Common.{◌≡◌, ◌≢◌, ◌⊎◌, inl, inr, ℕ, ◌+◌, ◌<◌, ◌≤◌, List, [], ◌∷◌, ◌++◌, length, ℤ, pos, ◌*ℤ◌, ◌≤ℤ◌, unsigned_abs, refl, ap, ◌∙◌, sym, subst, arith}
use Rattle.std.specs.List.{AllByRecursion}
use Rattle.std.proofs.lemmas.Bool.{cases_lt}
use Rattle.std.proofs.lemmas.Int.{ints, by_lt_z}
use Rattle.ror_integers.specs.Vectors.{dot, absolute_dot, entry, column, NoneNegative, SomePositive}
use Rattle.ror_integers.proofs.Ring.{sums, product-zero}
use Rattle.ror_integers.proofs.Rows.{entry_past, dot-column_past}
use Rattle.ror_integers.proofs.Signs.{NoneNegative-entry}
use Rattle.ror_text.specs.FirstFault.{IsFirst}
use Rattle.ror_system.specs.declared.reject.Reject.{Reject}
use Rattle.ror_system.specs.declared.reject.Reject.TheVariants as rejects
use Rattle.ror_system.specs.System.{LinearSystem, IsWellFormed, Refutes, sum_limit}
use Rattle.ror_system.specs.Acceptance.{rows_of, AreAcceptedMultipliers, FailsMultipliers, IsEarlierTest}
use Rattle.ror_system.specs.Steps.{PassesBoth, IsFirstOfTwo}
use Rattle.ror_system.specs.Signs.{IsFirstNegative}
use Rattle.ror_system.proofs.Totals.{dot-column_of_both, absolute_dot-column_of_both}

-- the first three tests pass, and those of the columns below j
pub record PassesColumnsBelow (s : LinearSystem) (weak strict : List ℤ) (j : ℕ) : Type 0 where
  pub one_for_each_weak : length weak ≡ length s.weak
  pub one_for_each_strict : length strict ≡ length s.strict
  pub none_negative : NoneNegative (weak ++ strict)
  pub some_strict : SomePositive strict
  pub columns : (k : ℕ) → k < j → PassesBoth (FailsMultipliers s weak strict) (rejects.ColumnWide k) (rejects.Column k)

-- ---- a first reason
pub length_first : (s : LinearSystem) (weak strict : List ℤ) → (length weak ≢ length s.weak) ⊎ (length strict ≢ length s.strict) → IsFirst (FailsMultipliers s weak strict) IsEarlierTest rejects.Length
length_first s weak strict h = record { fails = h; none_before = λ other l f. omega arith }

pub negative_first : (s : LinearSystem) (weak strict : List ℤ) (k : ℕ) → length weak ≡ length s.weak → length strict ≡ length s.strict → IsFirstNegative (weak ++ strict) k → IsFirst (FailsMultipliers s weak strict) IsEarlierTest (rejects.Negative k)
negative_first s weak strict k d e h = record { fails = (h.within, h.negative); none_before = before }
  where
    before : (other : Reject) → IsEarlierTest other (rejects.Negative k) → FailsMultipliers s weak strict other → ⊥
    before rejects.Length l (inl f) = f d
    before rejects.Length l (inr f) = f e
    before (rejects.Negative j) l f = let p = h.none_before j (omega arith) in let q = f.1 in omega (arith, ints)
    before rejects.Total l f = f
    before (rejects.RowWide i) l f = f
    before (rejects.Row i) l f = f
    before rejects.NoStrict l f = omega arith
    before (rejects.ColumnWide i) l f = omega arith
    before (rejects.Column i) l f = omega arith

pub no_strict_first : (s : LinearSystem) (weak strict : List ℤ) → length weak ≡ length s.weak → length strict ≡ length s.strict → NoneNegative (weak ++ strict) → ¬ (SomePositive strict) → IsFirst (FailsMultipliers s weak strict) IsEarlierTest rejects.NoStrict
no_strict_first s weak strict d e n h = record { fails = h; none_before = before }
  where
    before : (other : Reject) → IsEarlierTest other rejects.NoStrict → FailsMultipliers s weak strict other → ⊥
    before rejects.Length l (inl f) = f d
    before rejects.Length l (inr f) = f e
    before (rejects.Negative j) l f = let p = NoneNegative-entry (weak ++ strict) j n in let q = f.1 in omega (arith, ints)
    before rejects.Total l f = f
    before (rejects.RowWide i) l f = f
    before (rejects.Row i) l f = f
    before rejects.NoStrict l f = omega arith
    before (rejects.ColumnWide i) l f = omega arith
    before (rejects.Column i) l f = omega arith

-- no test before the two of column j fails
before_column : (s : LinearSystem) (weak strict : List ℤ) (j : ℕ) → PassesColumnsBelow s weak strict j → (other : Reject) → IsEarlierTest other (rejects.ColumnWide j) → FailsMultipliers s weak strict other → ⊥
before_column s weak strict j h rejects.Length l (inl f) = f h.one_for_each_weak
before_column s weak strict j h rejects.Length l (inr f) = f h.one_for_each_strict
before_column s weak strict j h (rejects.Negative k) l f = let p = NoneNegative-entry (weak ++ strict) k h.none_negative in let q = f.1 in omega (arith, ints)
before_column s weak strict j h rejects.Total l f = f
before_column s weak strict j h (rejects.RowWide k) l f = f
before_column s weak strict j h (rejects.Row k) l f = f
before_column s weak strict j h rejects.NoStrict l f = f h.some_strict
before_column s weak strict j h (rejects.ColumnWide k) l f = (h.columns k (omega arith)).0 f
before_column s weak strict j h (rejects.Column k) l f = (h.columns k (omega arith)).1 f

pub column_first : (s : LinearSystem) (weak strict : List ℤ) (j : ℕ) (r : Reject) → PassesColumnsBelow s weak strict j → IsFirstOfTwo (FailsMultipliers s weak strict) (rejects.ColumnWide j) (rejects.Column j) r → IsFirst (FailsMultipliers s weak strict) IsEarlierTest r
column_first s weak strict j r h (inl w) = subst (IsFirst (FailsMultipliers s weak strict) IsEarlierTest) (sym w.0) (record { fails = w.1; none_before = before_column s weak strict j h })
column_first s weak strict j r h (inr w) = subst (IsFirst (FailsMultipliers s weak strict) IsEarlierTest) (sym w.0) (record { fails = w.2; none_before = before })
  where
    wide : (k : ℕ) → FailsMultipliers s weak strict (rejects.ColumnWide k) → (k < j) ⊎ (j ≤ k) → k ≤ j → ⊥
    wide k f (inl m) n = (h.columns k m).0 f
    wide k f (inr m) n = let e : k ≡ j = omega arith in w.1 (subst (λ (i : ℕ). FailsMultipliers s weak strict (rejects.ColumnWide i)) e f)

    before : (other : Reject) → IsEarlierTest other (rejects.Column j) → FailsMultipliers s weak strict other → ⊥
    before rejects.Length l f = before_column s weak strict j h rejects.Length (inl (omega arith)) f
    before (rejects.Negative k) l f = before_column s weak strict j h (rejects.Negative k) (inl (omega arith)) f
    before rejects.Total l f = f
    before (rejects.RowWide k) l f = f
    before (rejects.Row k) l f = f
    before rejects.NoStrict l f = before_column s weak strict j h rejects.NoStrict (inl (omega arith)) f
    before (rejects.ColumnWide k) l f = wide k f (cases_lt k j) (omega arith)
    before (rejects.Column k) l f = (h.columns k (omega arith)).1 f

-- ---- acceptance
pub columns_start : (s : LinearSystem) (weak strict : List ℤ) → length weak ≡ length s.weak → length strict ≡ length s.strict → NoneNegative (weak ++ strict) → SomePositive strict → PassesColumnsBelow s weak strict 0
columns_start s weak strict d e n p = record { one_for_each_weak = d; one_for_each_strict = e; none_negative = n; some_strict = p; columns = λ k l. absurd (omega arith) }

pub columns_more : (s : LinearSystem) (weak strict : List ℤ) (j : ℕ) → PassesColumnsBelow s weak strict j → PassesBoth (FailsMultipliers s weak strict) (rejects.ColumnWide j) (rejects.Column j) → PassesColumnsBelow s weak strict (j + 1)
columns_more s weak strict j h p = record {
  one_for_each_weak = h.one_for_each_weak;
  one_for_each_strict = h.one_for_each_strict;
  none_negative = h.none_negative;
  some_strict = h.some_strict;
  columns = λ k l. below k (cases_lt k j) l;
}
  where
    below : (k : ℕ) → (k < j) ⊎ (j ≤ k) → k < j + 1 → PassesBoth (FailsMultipliers s weak strict) (rejects.ColumnWide k) (rejects.Column k)
    below k (inl m) l = h.columns k m
    below k (inr m) l = let e : j ≡ k = omega arith in subst (λ (i : ℕ). PassesBoth (FailsMultipliers s weak strict) (rejects.ColumnWide i) (rejects.Column i)) e p

-- past the rows' common length there is nothing to sum
absolute_dot-column_past : (ms : List ℤ) (n : ℕ) (rows : List (List ℤ)) (j : ℕ) → AllByRecursion (λ row. length row ≡ n) rows → n ≤ j → absolute_dot ms (column rows j) ≡ 0
absolute_dot-column_past [] n rows j widths l = refl
absolute_dot-column_past (m ∷ ms) n [] j widths l = refl
absolute_dot-column_past (m ∷ ms) n (row ∷ rows) j widths l =
    let rest = absolute_dot-column_past ms n rows j widths.1 l in
    let term : m *ℤ entry row j ≡ pos 0 = ap (λ (x : ℤ). m *ℤ x) (entry_past row j (let width = widths.0 in omega arith)) ∙ product-zero m in
    let size = ap unsigned_abs term in
    omega arith

-- past the columns of a system each sum is 0
pub columns_past : (s : LinearSystem) (weak strict : List ℤ) (j : ℕ) → IsWellFormed s → length weak ≡ length s.weak → s.columns ≤ j → (dot (weak ++ strict) (column (rows_of s) j) ≡ pos 0) × (absolute_dot (weak ++ strict) (column (rows_of s) j) ≡ 0)
columns_past s weak strict j form e l =
    let both = dot-column_of_both weak strict s.weak s.strict j e in
    let wide = absolute_dot-column_of_both weak strict s.weak s.strict j e in
    let a = dot-column_past weak s.columns s.weak j form.weak_widths l in
    let b = dot-column_past strict s.columns s.strict j form.strict_widths l in
    let c = absolute_dot-column_past weak s.columns s.weak j form.weak_widths l in
    let d = absolute_dot-column_past strict s.columns s.strict j form.strict_widths l in
    (omega (arith, sums), omega arith)

pub accepted : (s : LinearSystem) (weak strict : List ℤ) → ((j : ℕ) → PassesColumnsBelow s weak strict j) → AreAcceptedMultipliers s weak strict
accepted s weak strict h = record {
  refute = record {
    as_many_weak = (h 0).one_for_each_weak;
    as_many_strict = (h 0).one_for_each_strict;
    none_negative = (h 0).none_negative;
    some_positive = (h 0).some_strict;
    columns = nothing;
  };
  columns_within = narrow;
}
  where
    narrow : (j : ℕ) → absolute_dot (weak ++ strict) (column (rows_of s) j) < sum_limit
    narrow j = elim (cases_lt (absolute_dot (weak ++ strict) (column (rows_of s) j)) sum_limit) [ inl p ↦ p | inr p ↦ absurd (((h (j + 1)).columns j (omega arith)).0 p) ]

    nothing : (j : ℕ) → dot (weak ++ strict) (column (rows_of s) j) ≤ℤ pos 0
    nothing j = by_lt_z (pos 0) (dot (weak ++ strict) (column (rows_of s) j)) (λ p. absurd (((h (j + 1)).columns j (omega arith)).1 p)) (λ p. p)

-- the columns of a system are all that multipliers have to be shown of
pub refute_by_columns : (s : LinearSystem) (weak strict : List ℤ) → IsWellFormed s → length weak ≡ length s.weak → length strict ≡ length s.strict → NoneNegative (weak ++ strict) → SomePositive strict → ((j : ℕ) → j < s.columns → dot (weak ++ strict) (column (rows_of s) j) ≤ℤ pos 0) → Refutes s weak strict
refute_by_columns s weak strict form d e n p sums_at = record {
  as_many_weak = d;
  as_many_strict = e;
  none_negative = n;
  some_positive = p;
  columns = λ j. at j (cases_lt j s.columns);
}
  where
    at : (j : ℕ) → (j < s.columns) ⊎ (s.columns ≤ j) → dot (weak ++ strict) (column (rows_of s) j) ≤ℤ pos 0
    at j (inl l) = sums_at j l
    at j (inr l) = let past = (columns_past s weak strict j form d l).0 in omega (arith, ints)

pub accepted_by_columns : (s : LinearSystem) (weak strict : List ℤ) → IsWellFormed s → Refutes s weak strict → ((j : ℕ) → j < s.columns → absolute_dot (weak ++ strict) (column (rows_of s) j) < sum_limit) → AreAcceptedMultipliers s weak strict
accepted_by_columns s weak strict form refute widths_at = record { refute = refute; columns_within = λ j. at j (cases_lt j s.columns) }
  where
    at : (j : ℕ) → (j < s.columns) ⊎ (s.columns ≤ j) → absolute_dot (weak ++ strict) (column (rows_of s) j) < sum_limit
    at j (inl l) = widths_at j l
    at j (inr l) = let past = (columns_past s weak strict j form refute.as_many_weak l).1 in omega arith

-- the tests of the system's own columns are all that can fail
pub columns_over : (s : LinearSystem) (weak strict : List ℤ) (n : ℕ) → IsWellFormed s → PassesColumnsBelow s weak strict n → s.columns ≤ n → AreAcceptedMultipliers s weak strict
columns_over s weak strict n form h l = accepted_by_columns s weak strict form
    (refute_by_columns s weak strict form h.one_for_each_weak h.one_for_each_strict h.none_negative h.some_strict
    (λ j m. by_lt_z (pos 0) (dot (weak ++ strict) (column (rows_of s) j)) (λ p. absurd ((h.columns j (omega arith)).1 p)) (λ p. p)))
    (λ j m. elim (cases_lt (absolute_dot (weak ++ strict) (column (rows_of s) j)) sum_limit) [ inl p ↦ p | inr p ↦ absurd ((h.columns j (omega arith)).0 p) ])

-- ---- accepted multipliers fail no test
pub none_fails : (s : LinearSystem) (weak strict : List ℤ) → AreAcceptedMultipliers s weak strict → (r : Reject) → FailsMultipliers s weak strict r → ⊥
none_fails s weak strict a rejects.Length (inl f) = f a.refute.as_many_weak
none_fails s weak strict a rejects.Length (inr f) = f a.refute.as_many_strict
none_fails s weak strict a (rejects.Negative k) f = let p = NoneNegative-entry (weak ++ strict) k a.refute.none_negative in let q = f.1 in omega (arith, ints)
none_fails s weak strict a rejects.Total f = f
none_fails s weak strict a (rejects.RowWide i) f = f
none_fails s weak strict a (rejects.Row i) f = f
none_fails s weak strict a rejects.NoStrict f = f a.refute.some_positive
none_fails s weak strict a (rejects.ColumnWide j) f = let p = a.columns_within j in omega arith
none_fails s weak strict a (rejects.Column j) f = let p = a.refute.columns j in omega (arith, ints)

-- multipliers with a reason are not accepted
pub not_accepted : (s : LinearSystem) (weak strict : List ℤ) (r : Reject) → IsFirst (FailsMultipliers s weak strict) IsEarlierTest r → AreAcceptedMultipliers s weak strict → ⊥
not_accepted s weak strict r h a = none_fails s weak strict a r h.fails
