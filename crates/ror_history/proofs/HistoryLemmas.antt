-- Lists of statements that are numbered one after another.
use Rattle.std.proofs.Common.{◌≡◌, ℕ, ◌+◌, suc, max, List, [], ◌∷◌, ◌++◌, map, length, refl, ap, ◌∙◌, arith}
use Rattle.std.specs.List.{fold}
use Rattle.ror_statement.specs.declared.statement.Statement.{Statement}
use Rattle.ror_statement.specs.declared.statement.Numbered.{Numbered}
use Rattle.ror_history.specs.History.{with_numbers_from}
use Rattle.ror_statement.specs.Statements.{numbers_in}

abbrev pub statement_of : Numbered → Statement
statement_of x = x.statement

pub with_numbers_from-length : (n : ℕ) (ss : List Statement) → length (with_numbers_from n ss) ≡ length ss
with_numbers_from-length n [] = refl
with_numbers_from-length n (s ∷ ss) = ap suc (with_numbers_from-length (suc n) ss)

pub with_numbers_from-statements : (n : ℕ) (ss : List Statement) → map statement_of (with_numbers_from n ss) ≡ ss
with_numbers_from-statements n [] = refl
with_numbers_from-statements n (s ∷ ss) = ap (λ xs. s ∷ xs) (with_numbers_from-statements (suc n) ss)

pub with_numbers_from-append : (n : ℕ) (xs ys : List Statement) → with_numbers_from n (xs ++ ys) ≡ with_numbers_from n xs ++ with_numbers_from (n + length xs) ys
with_numbers_from-append n [] ys = let e : n ≡ n + 0 = omega arith in ap (λ k. with_numbers_from k ys) e
with_numbers_from-append n (x ∷ xs) ys =
    let e : suc n + length xs ≡ n + suc (length xs) = omega arith in
    ap (λ more. record { number = n; statement = x } ∷ more) (with_numbers_from-append (suc n) xs ys ∙ ap (λ k. with_numbers_from (suc n) xs ++ with_numbers_from k ys) e)

-- the greatest of numbers that go on by one from m
pub greatest : (m : ℕ) (ss : List Statement) → fold max m (numbers_in (with_numbers_from (suc m) ss)) ≡ m + length ss
greatest m [] = omega arith
greatest m (s ∷ ss) =
    let e : max m (suc m) ≡ suc m = omega arith in
    let f : suc m + length ss ≡ m + suc (length ss) = omega arith in
    ap (λ k. fold max k (numbers_in (with_numbers_from (suc (suc m)) ss))) e ∙ greatest (suc m) ss ∙ f
