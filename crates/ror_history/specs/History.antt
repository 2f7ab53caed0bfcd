-- The history of a list of statements: which revisions survive, which statements stand, and which number is next.
use Rattle.std.specs.Prelude.{ℕ, ◌+◌, ◌==◌, suc, max, not, nat_eq, List, [], ◌∷◌, ◌++◌, map, if◌then◌else◌}
use Rattle.std.specs.List.{filter, fold}
use Rattle.std.specs.Set.{is_member}
use Rattle.ror_statement.specs.declared.statement.Statement.{Statement}
use Rattle.ror_statement.specs.declared.statement.Numbered.{Numbered}
use Rattle.ror_statement.specs.Statements.{numbers_in, statements_in}

-- what a judge does to the list: a statement gets a number, numbered statements are withdrawn, or one is replaced
pub data Revision : Type 0 where
  addition : ℕ → Statement → Revision
  withdrawal : List ℕ → Revision
  replacement : ℕ → Statement → Revision

-- the statements that a history begins with, and the revisions that survive, in order
pub record Revisions : Type 0 where
  pub opening : List Statement
  pub surviving : List Revision

-- a history, by its revisions, and for how many more of them there is room
pub record HistoryView : Type 0 where
  pub state : Revisions
  pub spare : ℕ

-- the statements with their numbers, the first of which is this
abbrev pub with_numbers_from : ℕ → List Statement → List Numbered
with_numbers_from n [] = []
with_numbers_from n (s ∷ ss) = record { number = n; statement = s } ∷ with_numbers_from (suc n) ss

-- the list after a revision: an addition goes last, a withdrawal removes, a replacement keeps place and number
abbrev pub revised : List Numbered → Revision → List Numbered
revised list (addition n s) = list ++ record { number = n; statement = s } ∷ []
revised list (withdrawal ns) = filter (λ x. not (is_member nat_eq ns x.number)) list
revised list (replacement n s) =
    map (λ x. if x.number == n then record { number = n; statement = s } else x) list

-- the standing list: the opening one, numbered from 1, after each surviving revision in order
abbrev pub standing : Revisions → List Numbered
standing r = fold revised (with_numbers_from 1 r.opening) r.surviving

abbrev pub statements_of : Revisions → List Statement
statements_of r = statements_in (standing r)

-- the numbers that surviving additions gave
abbrev pub added_numbers : List Revision → List ℕ
added_numbers [] = []
added_numbers (addition n s ∷ more) = n ∷ added_numbers more
added_numbers (withdrawal ns ∷ more) = added_numbers more
added_numbers (replacement n s ∷ more) = added_numbers more

-- one past the greatest number of the opening list and of the surviving additions, whether or not it still stands; 1 if
-- there is none
abbrev pub next_number : Revisions → ℕ
next_number r =
    1 + fold max 0 (numbers_in (with_numbers_from 1 r.opening) ++ added_numbers r.surviving)

-- the revisions with one more
abbrev pub with_revision : Revisions → Revision → Revisions
with_revision r revision = record { opening = r.opening; surviving = r.surviving ++ revision ∷ [] }
