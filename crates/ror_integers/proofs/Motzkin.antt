-- No rows have both a solution and multipliers that refute them.
use Rattle.std.proofs.Common.{ℕ, List, [], ◌∷◌, ◌++◌, ℤ, pos, ◌≤ℤ◌, ◌<ℤ◌, ap, sym, ◌∙◌, arith}
use Rattle.std.specs.List.{AllByRecursion}
use Rattle.ror_integers.specs.Vectors.{entry, dot, weighted, dots, NoneNegative}
use Rattle.ror_integers.specs.Motzkin.{Solves, Refutes, NeverBoth}
use Rattle.ror_integers.proofs.Ring.{sums}
use Rattle.ror_integers.proofs.Dots.{dot-append}
use Rattle.ror_integers.proofs.Rows.{dot-weighted, dots-append, entry-weighted, length-dots}
use Rattle.ror_integers.proofs.Signs.{NoneNegative-append_left, NoneNegative-append_right, dot_nonnegative, dot_nonpositive, dot_positive}

pub NoneNegative-dots : (rows : List (List ℤ)) (x : List ℤ) → AllByRecursion (λ row. pos 0 ≤ℤ dot row x) rows → NoneNegative (dots rows x)
NoneNegative-dots [] x h = tt
NoneNegative-dots (row ∷ rows) x h = (h.0, NoneNegative-dots rows x h.1)

AllPositive-dots : (rows : List (List ℤ)) (x : List ℤ) → AllByRecursion (λ row. pos 0 <ℤ dot row x) rows → AllByRecursion (λ y. pos 0 <ℤ y) (dots rows x)
AllPositive-dots [] x h = tt
AllPositive-dots (row ∷ rows) x h = (h.0, AllPositive-dots rows x h.1)

-- the weighted sum of the rows' products is above 0, since some strict row counts
above : (weak strict : List (List ℤ)) (ms zs x : List ℤ) → Refutes weak strict ms zs → Solves weak strict x → pos 0 <ℤ dot (ms ++ zs) (dots (weak ++ strict) x)
above weak strict ms zs x r s =
    let p = dot_nonnegative ms (dots weak x) (NoneNegative-append_left ms zs r.none_negative) (NoneNegative-dots weak x s.weak_hold) in
    let q = dot_positive zs (dots strict x) (NoneNegative-append_right ms zs r.none_negative) r.some_positive (AllPositive-dots strict x s.strict_hold) (omega (arith, r.as_many_strict, length-dots strict x)) in
    let e = ap (dot (ms ++ zs)) (dots-append weak strict x) ∙ dot-append ms zs (dots weak x) (dots strict x) (r.as_many_weak ∙ sym (length-dots weak x)) in
    omega (arith, sums)

-- by columns it is at most 0
pub never_both : NeverBoth
never_both weak strict ms zs x r s =
    let rows = weak ++ strict in
    let h = λ (j : ℕ). at j in
    let p = dot_nonpositive (weighted (ms ++ zs) rows) x h s.none_negative in
    let e = dot-weighted (ms ++ zs) rows x in
    let q = above weak strict ms zs x r s in
    absurd (omega (arith, sums))
  where
    at : (j : ℕ) → entry (weighted (ms ++ zs) (weak ++ strict)) j ≤ℤ pos 0
    at j = let c = r.columns j in omega (arith, sums, entry-weighted (ms ++ zs) (weak ++ strict) j)
