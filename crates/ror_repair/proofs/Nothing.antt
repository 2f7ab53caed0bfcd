-- A base of no statements.
use Rattle.std.proofs.Common.{◌≡◌, ℕ, zero, suc, ◌<◌, ◌≤◌, List, [], ◌∷◌, ℤ, pos, ◌<ℤ◌, unsigned_abs, refl, sym, ap, subst, ◌∙◌, arith}
use Rattle.std.specs.List.{AllByRecursion}
use Rattle.ror_text.proofs.Everywhere.{all-by}
use Rattle.ror_integers.specs.Vectors.{dot, absolute_dot, ones, NoneNegative}
use Rattle.ror_integers.proofs.Ring.{sums}
use Rattle.ror_integers.proofs.Dots.{dot-ones_all, total-ones, length-ones}
use Rattle.ror_word.specs.Within.{IsWithin}
use Rattle.ror_table.specs.Table.{DecisionTable, columns}
use Rattle.ror_system.specs.System.{LinearSystem, sum_limit}
use Rattle.ror_system.specs.Acceptance.{IsAcceptedSolution}
use Rattle.ror_pivot.specs.declared.note.Bits.{Bits}
use Rattle.ror_pivot.specs.declared.note.Bits.TheVariants.{B15, B31, B63, B127}
use Rattle.ror_pivot.specs.Answers.{most_of}
use Rattle.ror_proof.specs.declared.answer.Certificate.{Certificate}
use Rattle.ror_proof.specs.declared.answer.Certificate.TheVariants as certificates
use Rattle.ror_check.specs.Proof.{base_system}
use Rattle.ror_given.specs.Answers.{IsCertificateWithin}
use Rattle.ror_repair.specs.Repairs.{IsGivenRepair, IsBaseAt}

-- ---- all ones

none_negative : (n : ℕ) → NoneNegative (ones n)
none_negative zero = tt
none_negative (suc n) = (omega (arith, sums), none_negative n)

ones_within : (n : ℕ) → AllByRecursion (IsWithin 1) (ones n)
ones_within zero = tt
ones_within (suc n) = (omega arith, ones_within n)

dot-ones_ones : (n : ℕ) → dot (ones n) (ones n) ≡ pos n
dot-ones_ones n = dot-ones_all n (ones n) (let l = length-ones n in omega arith) ∙ total-ones n

absolute-ones : (n : ℕ) → absolute_dot (ones n) (ones n) ≡ n
absolute-ones zero = refl
absolute-ones (suc n) = let h = absolute-ones n in omega (arith, h)

above_none : (n : ℕ) → 0 < n → pos 0 <ℤ pos n
above_none zero some = absurd (omega arith)
above_none (suc n) some = omega (arith, sums)

-- the system of no statements over so many columns
abbrev no_rows : ℕ → LinearSystem
no_rows n = record { columns = n; weak = []; strict = ones n ∷ [] }

ones_accepted : (n : ℕ) → 0 < n → n ≤ 2000 → IsAcceptedSolution (no_rows n) (ones n)
ones_accepted n some few = record {
  solves = record {
    one_for_each_column = length-ones n;
    rows = record { none_negative = none_negative n; weak_hold = tt; strict_hold = (subst (λ z. pos 0 <ℤ z) (sym (dot-ones_ones n)) (above_none n some), tt) };
  };
  total_positive = subst (λ z. pos 0 <ℤ z) (sym (total-ones n)) (above_none n some);
  total_within = subst (λ z. unsigned_abs z < sum_limit) (sym (total-ones n)) (omega (arith, few));
  rows_within = (subst (λ m. m < sum_limit) (sym (absolute-ones n)) (omega (arith, few)), tt);
}

pub solution_base : (t : DecisionTable) (n : ℕ) (xs : List ℤ) → n ≡ columns t → 0 < n → columns t ≤ 2000 → xs ≡ ones n → IsBaseAt 1 t [] (certificates.Solution (record { steps = xs }))
solution_base t n xs is some few same =
    let all : xs ≡ ones (columns t) = same ∙ ap ones is in
    let steps : IsAcceptedSolution (base_system t []) xs = subst (λ ys. IsAcceptedSolution (base_system t []) ys) (sym all) (ones_accepted (columns t) (subst (λ m. 0 < m) is some) few) in
    let within : AllByRecursion (IsWithin 1) xs = subst (λ ys. AllByRecursion (IsWithin 1) ys) (sym all) (ones_within (columns t)) in
    (steps, within)

-- ---- the start

one_fits : (b : Bits) → 1 ≤ most_of b
one_fits B15 = omega arith
one_fits B31 = omega arith
one_fits B63 = omega arith
one_fits B127 = omega arith

all_more : (m n : ℕ) (xs : List ℤ) → m ≤ n → AllByRecursion (IsWithin m) xs → AllByRecursion (IsWithin n) xs
all_more m n xs le h = all-by (IsWithin m) (IsWithin n) xs (λ x within. omega (arith, within, le)) h

within_more : (m n : ℕ) (c : Certificate) → m ≤ n → IsCertificateWithin m c → IsCertificateWithin n c
within_more m n (certificates.Solution x) le h = all_more m n x.steps le h
within_more m n (certificates.Multipliers x) le h = (all_more m n x.weak le h.0, all_more m n x.strict le h.1)

pub begins : (b : Bits) (t : DecisionTable) (c : Certificate) → IsBaseAt 1 t [] c → IsGivenRepair (most_of b) t [] (record { dropped = []; base = c })
begins b t (certificates.Solution x) h = record {
  proved = record {
    numbers = record { rising = λ k within. absurd (omega arith); each_stands = tt };
    kind = tt;
    refuted = λ j k d s at there same. absurd cc;
    base = h.0;
  };
  narrow = record { dropped = tt; base = within_more 1 (most_of b) (certificates.Solution x) (one_fits b) h.1 };
}
begins b t (certificates.Multipliers m) h = record {
  proved = record {
    numbers = record { rising = λ k within. absurd (omega arith); each_stands = tt };
    kind = refl;
    refuted = λ j k d s at there same. absurd cc;
    base = h.0;
  };
  narrow = record { dropped = tt; base = within_more 1 (most_of b) (certificates.Multipliers m) (one_fits b) h.1 };
}
