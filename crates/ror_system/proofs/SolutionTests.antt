-- What follows from the tests of a solution: acceptance, or a first reason.
use Rattle.std.proofs.Common.{◌≡◌, ◌≢◌, ◌⊎◌, inl, inr, ℕ, zero, suc, ◌+◌, ◌<◌, ◌≤◌, ◌^◌, List, [], ◌∷◌, ◌++◌, length, get_or, ℤ, pos, ◌≤ℤ◌, ◌<ℤ◌, ◌-◌, refl, sym, ap, subst, arith, length-append}
use Rattle.std.specs.List.{AllByRecursion}
use Rattle.std.proofs.lemmas.Bool.{cases_lt}
use Rattle.std.proofs.lemmas.Int.{ints, by_lt_z}
use Rattle.ror_integers.specs.Vectors.{dot, absolute_dot, total, NoneNegative}
use Rattle.ror_integers.proofs.Signs.{NoneNegative-entry}
use Rattle.ror_text.specs.FirstFault.{IsFirst}
use Rattle.ror_system.specs.declared.reject.Reject.{Reject}
use Rattle.ror_system.specs.declared.reject.Reject.TheVariants as rejects
use Rattle.ror_system.specs.System.{LinearSystem, IsNarrow}
use Rattle.ror_system.specs.Acceptance.{rows_of, row_at, IsAcceptedSolution, FailsSolution, IsEarlierTest}
use Rattle.ror_system.specs.Steps.{PassesBoth, IsFirstOfTwo}
use Rattle.ror_system.specs.Signs.{IsFirstNegative}

-- the first three tests pass, and those of the rows below i
pub record PassesRowsBelow (s : LinearSystem) (d : List ℤ) (i : ℕ) : Type 0 where
  pub one_for_each_column : length d ≡ s.columns
  pub none_negative : NoneNegative d
  pub total_accepted : (pos 0 <ℤ total d) × IsNarrow (total d)
  pub rows : (j : ℕ) → j < i → PassesBoth (FailsSolution s d) (rejects.RowWide j) (rejects.Row j)

-- ---- a first reason
pub length_first : (s : LinearSystem) (d : List ℤ) → length d ≢ s.columns → IsFirst (FailsSolution s d) IsEarlierTest rejects.Length
length_first s d h = record { fails = h; none_before = λ other l f. omega arith }

pub negative_first : (s : LinearSystem) (d : List ℤ) (k : ℕ) → length d ≡ s.columns → IsFirstNegative d k → IsFirst (FailsSolution s d) IsEarlierTest (rejects.Negative k)
negative_first s d k e h = record { fails = (h.within, h.negative); none_before = before }
  where
    before : (other : Reject) → IsEarlierTest other (rejects.Negative k) → FailsSolution s d other → ⊥
    before rejects.Length l f = f e
    before (rejects.Negative j) l f = let p = h.none_before j (omega arith) in let q = f.1 in omega (arith, ints)
    before rejects.Total l f = omega arith
    before (rejects.RowWide i) l f = omega arith
    before (rejects.Row i) l f = omega arith
    before rejects.NoStrict l f = f
    before (rejects.ColumnWide i) l f = f
    before (rejects.Column i) l f = f

pub total_first : (s : LinearSystem) (d : List ℤ) → length d ≡ s.columns → NoneNegative d → ¬ ((pos 0 <ℤ total d) × IsNarrow (total d)) → IsFirst (FailsSolution s d) IsEarlierTest rejects.Total
total_first s d e n h = record { fails = h; none_before = before }
  where
    before : (other : Reject) → IsEarlierTest other rejects.Total → FailsSolution s d other → ⊥
    before rejects.Length l f = f e
    before (rejects.Negative j) l f = let p = NoneNegative-entry d j n in let q = f.1 in omega (arith, ints)
    before rejects.Total l f = omega arith
    before (rejects.RowWide i) l f = omega arith
    before (rejects.Row i) l f = omega arith
    before rejects.NoStrict l f = f
    before (rejects.ColumnWide i) l f = f
    before (rejects.Column i) l f = f

-- no test before the two of row i fails
before_row : (s : LinearSystem) (d : List ℤ) (i : ℕ) → PassesRowsBelow s d i → (other : Reject) → IsEarlierTest other (rejects.RowWide i) → FailsSolution s d other → ⊥
before_row s d i h rejects.Length l f = f h.one_for_each_column
before_row s d i h (rejects.Negative j) l f = let p = NoneNegative-entry d j h.none_negative in let q = f.1 in omega (arith, ints)
before_row s d i h rejects.Total l f = f h.total_accepted
before_row s d i h (rejects.RowWide j) l f = (h.rows j (omega arith)).0 f
before_row s d i h (rejects.Row j) l f = (h.rows j (omega arith)).1 f
before_row s d i h rejects.NoStrict l f = f
before_row s d i h (rejects.ColumnWide j) l f = f
before_row s d i h (rejects.Column j) l f = f

pub row_first : (s : LinearSystem) (d : List ℤ) (i : ℕ) (r : Reject) → PassesRowsBelow s d i → IsFirstOfTwo (FailsSolution s d) (rejects.RowWide i) (rejects.Row i) r → IsFirst (FailsSolution s d) IsEarlierTest r
row_first s d i r h (inl w) = subst (IsFirst (FailsSolution s d) IsEarlierTest) (sym w.0) (record { fails = w.1; none_before = before_row s d i h })
row_first s d i r h (inr w) = subst (IsFirst (FailsSolution s d) IsEarlierTest) (sym w.0) (record { fails = w.2; none_before = before })
  where
    before : (other : Reject) → IsEarlierTest other (rejects.Row i) → FailsSolution s d other → ⊥
    before rejects.Length l f = before_row s d i h rejects.Length (inl (omega arith)) f
    before (rejects.Negative j) l f = before_row s d i h (rejects.Negative j) (inl (omega arith)) f
    before rejects.Total l f = before_row s d i h rejects.Total (inl (omega arith)) f
    before (rejects.RowWide j) l f = wide j f (cases_lt j i) (omega arith)
      where
        wide : (j : ℕ) → FailsSolution s d (rejects.RowWide j) → (j < i) ⊎ (i ≤ j) → j ≤ i → ⊥
        wide j f (inl m) n = (h.rows j m).0 f
        wide j f (inr m) n = let e : j ≡ i = omega arith in w.1 (subst (λ (k : ℕ). FailsSolution s d (rejects.RowWide k)) e f)
    before (rejects.Row j) l f = (h.rows j (omega arith)).1 f
    before rejects.NoStrict l f = f
    before (rejects.ColumnWide j) l f = f
    before (rejects.Column j) l f = f

-- ---- acceptance
pub rows_start : (s : LinearSystem) (d : List ℤ) → length d ≡ s.columns → NoneNegative d → (pos 0 <ℤ total d) × IsNarrow (total d) → PassesRowsBelow s d 0
rows_start s d e n t = record { one_for_each_column = e; none_negative = n; total_accepted = t; rows = λ j l. absurd (omega arith) }

pub rows_more : (s : LinearSystem) (d : List ℤ) (i : ℕ) → PassesRowsBelow s d i → PassesBoth (FailsSolution s d) (rejects.RowWide i) (rejects.Row i) → PassesRowsBelow s d (i + 1)
rows_more s d i h p = record { one_for_each_column = h.one_for_each_column; none_negative = h.none_negative; total_accepted = h.total_accepted; rows = λ j l. below j (cases_lt j i) l }
  where
    below : (j : ℕ) → (j < i) ⊎ (i ≤ j) → j < i + 1 → PassesBoth (FailsSolution s d) (rejects.RowWide j) (rejects.Row j)
    below j (inl m) l = h.rows j m
    below j (inr m) l = let e : i ≡ j = omega arith in subst (λ (k : ℕ). PassesBoth (FailsSolution s d) (rejects.RowWide k) (rejects.Row k)) e p

-- what holds of the row at each place holds of all
all_from_places : (P : List ℤ → Type 0) (rows : List (List ℤ)) → ((i : ℕ) → i < length rows → P (get_or rows i [])) → AllByRecursion P rows
all_from_places P [] h = tt
all_from_places P (row ∷ rows) h = (h 0 (omega arith), all_from_places P rows (λ i l. h (suc i) (omega arith)))

at_place : (P : List ℤ → Type 0) (rows : List (List ℤ)) (i : ℕ) → AllByRecursion P rows → i < length rows → P (get_or rows i [])
at_place P [] i h l = absurd (omega arith)
at_place P (row ∷ rows) zero h l = h.0
at_place P (row ∷ rows) (suc i) h l = at_place P rows i h.1 (omega arith)

-- the row at a place of the weak ones, and of the strict ones
weak_at : (weak strict : List (List ℤ)) (i : ℕ) → i < length weak → get_or (weak ++ strict) i [] ≡ get_or weak i []
weak_at [] strict i l = absurd (omega arith)
weak_at (row ∷ weak) strict zero l = refl
weak_at (row ∷ weak) strict (suc i) l = weak_at weak strict i (omega arith)

strict_at : (weak strict : List (List ℤ)) (i : ℕ) → get_or (weak ++ strict) (length weak + i) [] ≡ get_or strict i []
strict_at [] strict i = ap (λ (k : ℕ). get_or strict k []) (omega arith)
strict_at (row ∷ weak) strict i = let e : suc (length weak) + i ≡ suc (length weak + i) = omega arith in rw e (strict_at weak strict i)

pub accepted : (s : LinearSystem) (d : List ℤ) (n : ℕ) → PassesRowsBelow s d n → length (rows_of s) ≤ n → IsAcceptedSolution s d
accepted s d n h l = record {
  solves = record {
    one_for_each_column = h.one_for_each_column;
    rows = record {
      none_negative = h.none_negative;
      weak_hold = all_from_places (λ (row : List ℤ). pos 0 ≤ℤ dot row d) s.weak weak_holds;
      strict_hold = all_from_places (λ (row : List ℤ). pos 0 <ℤ dot row d) s.strict strict_holds;
    };
  };
  total_positive = h.total_accepted.0;
  total_within = h.total_accepted.1;
  rows_within = all_from_places (λ (row : List ℤ). absolute_dot row d < 2 ^ 127) (rows_of s) narrow;
}
  where
    narrow : (i : ℕ) → i < length (rows_of s) → absolute_dot (row_at s i) d < 2 ^ 127
    narrow i m = elim (cases_lt (absolute_dot (row_at s i) d) (2 ^ 127)) [ inl p ↦ p | inr p ↦ absurd ((h.rows i (omega arith)).0 (m, p)) ]

    weak_holds : (i : ℕ) → i < length s.weak → pos 0 ≤ℤ dot (get_or s.weak i []) d
    weak_holds i m =
        let passes = (h.rows i (omega (arith, length-append s.weak s.strict))).1 in
        let e = weak_at s.weak s.strict i m in
        subst (λ (row : List ℤ). pos 0 ≤ℤ dot row d) e (by_lt_z (dot (row_at s i) d) (pos 0) (λ p. absurd (passes (inl (m, p)))) (λ p. p))

    strict_holds : (i : ℕ) → i < length s.strict → pos 0 <ℤ dot (get_or s.strict i []) d
    strict_holds i m =
        let place = length s.weak + i in
        let inside : place < length (rows_of s) = omega (arith, length-append s.weak s.strict) in
        let passes = (h.rows place (omega arith)).1 in
        let e = strict_at s.weak s.strict i in
        subst (λ (row : List ℤ). pos 0 <ℤ dot row d) e (by_lt_z (pos 0) (dot (row_at s place) d) (λ p. p) (λ p. absurd (passes (inr (omega arith, inside, p)))))

-- ---- an accepted solution fails no test
pub none_fails : (s : LinearSystem) (d : List ℤ) → IsAcceptedSolution s d → (r : Reject) → FailsSolution s d r → ⊥
none_fails s d a rejects.Length f = f a.solves.one_for_each_column
none_fails s d a (rejects.Negative k) f = let p = NoneNegative-entry d k a.solves.rows.none_negative in let q = f.1 in omega (arith, ints)
none_fails s d a rejects.Total f = f (a.total_positive, a.total_within)
none_fails s d a (rejects.RowWide i) f =
    let p = at_place (λ (row : List ℤ). absolute_dot row d < 2 ^ 127) (rows_of s) i a.rows_within f.0 in
    let q = f.1 in
    omega arith
none_fails s d a (rejects.Row i) (inl f) =
    let p = at_place (λ (row : List ℤ). pos 0 ≤ℤ dot row d) s.weak i a.solves.rows.weak_hold f.0 in
    let e = ap (λ (row : List ℤ). dot row d) (weak_at s.weak s.strict i f.0) in
    let q = f.1 in
    omega (arith, ints)
none_fails s d a (rejects.Row i) (inr f) =
    let l = f.0 in
    let m = f.1 in
    let k = i - length s.weak in
    let p = at_place (λ (row : List ℤ). pos 0 <ℤ dot row d) s.strict k a.solves.rows.strict_hold (omega (arith, length-append s.weak s.strict)) in
    let at : length s.weak + k ≡ i = omega arith in
    let e = ap (λ (row : List ℤ). dot row d) (strict_at s.weak s.strict k) in
    let g = ap (λ (j : ℕ). dot (row_at s j) d) at in
    let q = f.2 in
    omega (arith, ints)
none_fails s d a rejects.NoStrict f = f
none_fails s d a (rejects.ColumnWide j) f = f
none_fails s d a (rejects.Column j) f = f

-- a solution with a reason is not accepted
pub not_accepted : (s : LinearSystem) (d : List ℤ) (r : Reject) → IsFirst (FailsSolution s d) IsEarlierTest r → IsAcceptedSolution s d → ⊥
not_accepted s d r h a = none_fails s d a r h.fails
