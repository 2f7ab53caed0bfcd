-- Where no test fails a certificate is accepted, and a first reason is the only one.
use Rattle.std.proofs.Common.{◌≡◌, ◌≢◌, ◌⊎◌, inl, inr, ℕ, zero, suc, ◌+◌, ◌*◌, ◌/◌, ◌%◌, ◌<◌, ◌≤◌, ◌^◌, cond, eqb, List, ◌++◌, length, ℤ, pos, ◌≤ℤ◌, ◌<ℤ◌, unsigned_abs, refl, ap₂, sym, ◌∙◌, arith}
use Rattle.std.proofs.lemmas.Bool.{cases_lt}
use Rattle.std.proofs.lemmas.Int.{ints, by_lt_z}
use Rattle.ror_integers.specs.Vectors.{total, entry, NoneNegative, SomePositive}
use Rattle.ror_integers.proofs.Signs.{NoneNegative-from_entries, some_positive_or_none}
use Rattle.ror_text.specs.FirstFault.{IsFirst}
use Rattle.ror_text.proofs.FirstFaultLemmas.{first_at}
use Rattle.ror_system.specs.declared.reject.Reject.{Reject}
use Rattle.ror_system.specs.declared.reject.Reject.TheVariants as rejects
use Rattle.ror_system.specs.System.{LinearSystem, IsNarrow}
use Rattle.ror_system.specs.Acceptance.{rows_of, stage, place, IsAcceptedSolution, AreAcceptedMultipliers, FailsSolution, FailsMultipliers, IsEarlierTest}
use Rattle.ror_system.proofs.SolutionTests as solution
use Rattle.ror_system.proofs.MultiplierTests as multipliers

-- ---- where no test fails
same_number : (a b : ℕ) → ¬ (a ≢ b) → a ≡ b
same_number a b h = at (cases_lt a b) (cases_lt b a)
  where
    at : (a < b) ⊎ (b ≤ a) → (b < a) ⊎ (a ≤ b) → a ≡ b
    at (inl l) k = absurd (h (λ e. omega arith))
    at (inr l) (inl k) = absurd (h (λ e. omega arith))
    at (inr l) (inr k) = omega arith

none_negative : (xs : List ℤ) → ((k : ℕ) → ¬ ((k < length xs) × (entry xs k <ℤ pos 0))) → NoneNegative xs
none_negative xs h = NoneNegative-from_entries xs (λ j l. by_lt_z (entry xs j) (pos 0) (λ p. absurd (h j (l, p))) (λ p. p))

total_accepted : (sum : ℤ) → ¬ (¬ ((pos 0 <ℤ sum) × IsNarrow sum)) → (pos 0 <ℤ sum) × IsNarrow sum
total_accepted sum h = by_lt_z (pos 0) sum (λ p. within p (cases_lt (unsigned_abs sum) (2 ^ 127))) (λ p. absurd (h (λ k. let q = k.0 in omega (arith, ints))))
  where
    within : pos 0 <ℤ sum → (unsigned_abs sum < 2 ^ 127) ⊎ (2 ^ 127 ≤ unsigned_abs sum) → (pos 0 <ℤ sum) × IsNarrow sum
    within p (inl l) = (p, l)
    within p (inr l) = absurd (h (λ k. let q = k.1 in omega arith))

some_positive : (xs : List ℤ) → ¬ (¬ (SomePositive xs)) → SomePositive xs
some_positive xs h = at (some_positive_or_none xs)
  where
    at : SomePositive xs ⊎ ((j : ℕ) → entry xs j ≤ℤ pos 0) → SomePositive xs
    at (inl p) = p
    at (inr n) = absurd (h (λ p. let q = n p.0 in let r = p.2 in omega (arith, ints)))

pub accepted_solution : (s : LinearSystem) (d : List ℤ) → ((r : Reject) → ¬ (FailsSolution s d r)) → IsAcceptedSolution s d
accepted_solution s d h = solution.accepted s d (length (rows_of s)) (record {
  one_for_each_column = same_number (length d) s.columns (h rejects.Length);
  none_negative = none_negative d (λ k. h (rejects.Negative k));
  total_accepted = total_accepted (total d) (h rejects.Total);
  rows = λ j l. (h (rejects.RowWide j), h (rejects.Row j));
}) (omega arith)

pub accepted_multipliers : (s : LinearSystem) (weak strict : List ℤ) → ((r : Reject) → ¬ (FailsMultipliers s weak strict r)) → AreAcceptedMultipliers s weak strict
accepted_multipliers s weak strict h = multipliers.accepted s weak strict (λ j. record {
  one_for_each_weak = same_number (length weak) (length s.weak) (λ n. h rejects.Length (inl n));
  one_for_each_strict = same_number (length strict) (length s.strict) (λ n. h rejects.Length (inr n));
  none_negative = none_negative (weak ++ strict) (λ k. h (rejects.Negative k));
  some_strict = some_positive strict (h rejects.NoStrict);
  columns = λ k l. (h (rejects.ColumnWide k), h (rejects.Column k));
})

-- ---- one first reason
-- an even place is one test's, an odd one the other's
by_parity : (ℕ → Reject) → (ℕ → Reject) → ℕ → Reject
by_parity wide sign p = cond (eqb (p % 2) 0) (wide (p / 2)) (sign (p / 2))

even_place : (wide sign : ℕ → Reject) (i : ℕ) → wide i ≡ by_parity wide sign (2 * i)
unfolding by_parity
even_place wide sign i = let e : (2 * i) % 2 ≡ 0 = omega arith in let f : (2 * i) / 2 ≡ i = omega arith in rw (e, f)

odd_place : (wide sign : ℕ → Reject) (i : ℕ) → sign i ≡ by_parity wide sign (2 * i + 1)
unfolding by_parity
odd_place wide sign i = let e : (2 * i + 1) % 2 ≡ 1 = omega arith in let f : (2 * i + 1) / 2 ≡ i = omega arith in rw (e, f)

-- the test of a solution at a stage and a place
solution_test : ℕ → ℕ → Reject
solution_test zero p = rejects.Length
solution_test (suc zero) p = rejects.Negative p
solution_test (suc (suc zero)) p = rejects.Total
solution_test (suc (suc (suc n))) p = by_parity rejects.RowWide rejects.Row p

is_solution_test : (s : LinearSystem) (d : List ℤ) (r : Reject) → FailsSolution s d r → r ≡ solution_test (stage r) (place r)
unfolding solution_test
is_solution_test s d rejects.Length f = refl
is_solution_test s d (rejects.Negative k) f = refl
is_solution_test s d rejects.Total f = refl
is_solution_test s d (rejects.RowWide i) f = even_place rejects.RowWide rejects.Row i
is_solution_test s d (rejects.Row i) f = odd_place rejects.RowWide rejects.Row i
is_solution_test s d rejects.NoStrict f = absurd f
is_solution_test s d (rejects.ColumnWide j) f = absurd f
is_solution_test s d (rejects.Column j) f = absurd f

pub one_solution_reason : (s : LinearSystem) (d : List ℤ) (q r : Reject) → IsFirst (FailsSolution s d) IsEarlierTest q → IsFirst (FailsSolution s d) IsEarlierTest r → q ≡ r
one_solution_reason s d q r first second =
    let e = first_at (FailsSolution s d) stage place q r first second in
    is_solution_test s d q first.fails ∙ ap₂ solution_test e.0 e.1 ∙ sym (is_solution_test s d r second.fails)

-- the test of multipliers at a stage and a place
multiplier_test : ℕ → ℕ → Reject
multiplier_test zero p = rejects.Length
multiplier_test (suc zero) p = rejects.Negative p
multiplier_test (suc (suc zero)) p = rejects.NoStrict
multiplier_test (suc (suc (suc n))) p = by_parity rejects.ColumnWide rejects.Column p

is_multiplier_test : (s : LinearSystem) (weak strict : List ℤ) (r : Reject) → FailsMultipliers s weak strict r → r ≡ multiplier_test (stage r) (place r)
unfolding multiplier_test
is_multiplier_test s weak strict rejects.Length f = refl
is_multiplier_test s weak strict (rejects.Negative k) f = refl
is_multiplier_test s weak strict rejects.Total f = absurd f
is_multiplier_test s weak strict (rejects.RowWide i) f = absurd f
is_multiplier_test s weak strict (rejects.Row i) f = absurd f
is_multiplier_test s weak strict rejects.NoStrict f = refl
is_multiplier_test s weak strict (rejects.ColumnWide j) f = even_place rejects.ColumnWide rejects.Column j
is_multiplier_test s weak strict (rejects.Column j) f = odd_place rejects.ColumnWide rejects.Column j

pub one_multiplier_reason : (s : LinearSystem) (weak strict : List ℤ) (q r : Reject) → IsFirst (FailsMultipliers s weak strict) IsEarlierTest q → IsFirst (FailsMultipliers s weak strict) IsEarlierTest r → q ≡ r
one_multiplier_reason s weak strict q r first second =
    let e = first_at (FailsMultipliers s weak strict) stage place q r first second in
    is_multiplier_test s weak strict q first.fails ∙ ap₂ multiplier_test e.0 e.1 ∙ sym (is_multiplier_test s weak strict r second.fails)
