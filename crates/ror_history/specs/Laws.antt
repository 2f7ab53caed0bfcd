-- Laws of histories: where an added statement stands, how the numbers of a standing list go, and when a revision can be done.
use Rattle.std.specs.Prelude.{◌≡◌, ℕ, ◌+◌, ◌<◌, List, [], ◌∷◌, ◌++◌, length, ◌↔◌}
use Rattle.std.specs.List.{All}
use Rattle.std.specs.List.Sorted.{IsStrictlyIncreasing}
use Rattle.ror_text.specs.FirstFault.{IsFirst}
use Rattle.ror_statement.specs.declared.statement.Statement.{Statement}
use Rattle.ror_history.specs.declared.history.HistoryFault.{HistoryFault}
use Rattle.ror_history.specs.History.{Revision, addition, withdrawal, replacement, Revisions, standing, next_number, with_revision}
use Rattle.ror_statement.specs.Statements.{numbers_in}
use Rattle.ror_history.specs.Faults.{CanBeAdded, FailsAddition, CanBeReplaced, FailsReplacement, CanBeWithdrawn, FailsWithdrawal, IsEarlierFault}

-- an added statement stands last, with its number, after all that stood
abbrev pub AddedStandsLast : Type 0
AddedStandsLast = (r : Revisions) (n : ℕ) (s : Statement)
    → standing (with_revision r (addition n s))
    ≡ standing r ++ record { number = n; statement = s } ∷ []

-- each surviving addition has the number that was next when it came
abbrev pub AreNumberedInTurn : Revisions → Type 0
AreNumberedInTurn r = (before : List Revision) (n : ℕ) (s : Statement) (after : List Revision)
    → r.surviving ≡ before ++ addition n s ∷ after
    → n ≡ next_number (record { opening = r.opening; surviving = before })

-- then, whatever was withdrawn or replaced, the numbers of the standing list rise, and all are below the next number
pub record NumbersRise : Type 0 where
  pub rising : (r : Revisions) → AreNumberedInTurn r → IsStrictlyIncreasing (numbers_in (standing r))
  pub below_next : (r : Revisions) → AreNumberedInTurn r
      → All (λ n. n < next_number r) (numbers_in (standing r))

-- a history that begins is numbered in turn, and stays so as statements get the next number; that is at first one past the
-- opening list, then one more with each addition, and stays with each other revision
pub record NextNumberRises : Type 0 where
  pub first : (opening : List Statement)
      → next_number (record { opening = opening; surviving = [] }) ≡ 1 + length opening
  pub at_first : (opening : List Statement) → AreNumberedInTurn
      (record { opening = opening; surviving = [] })
  pub kept : (r : Revisions) (s : Statement) → AreNumberedInTurn r
      → AreNumberedInTurn (with_revision r (addition (next_number r) s))
  pub one_more : (r : Revisions) (s : Statement)
      → next_number (with_revision r (addition (next_number r) s)) ≡ 1 + next_number r
  pub withdrawn : (r : Revisions) (ns : List ℕ)
      → next_number (with_revision r (withdrawal ns)) ≡ next_number r
  pub replaced : (r : Revisions) (n : ℕ) (s : Statement)
      → next_number (with_revision r (replacement n s)) ≡ next_number r

-- something can be done exactly where no test of it fails, and two first faults are equal
pub record HasOneFirstFault (CanBeDone : Type 0) (Fails : HistoryFault → Type 0) : Type 0 where
  pub no_test_fails : CanBeDone ↔ ((fault : HistoryFault) → ¬ (Fails fault))
  pub one : (f g : HistoryFault) → IsFirst Fails IsEarlierFault f → IsFirst Fails IsEarlierFault g
      → f ≡ g

-- so it is with an addition, a withdrawal of one statement or of more, and a replacement
pub record OneFirstFault : Type 0 where
  pub added : (r : Revisions) (s : Statement) → HasOneFirstFault (CanBeAdded r s) (FailsAddition r s)
  pub withdrawn : (r : Revisions) (ns : List ℕ) → HasOneFirstFault (CanBeWithdrawn r ns) (FailsWithdrawal r ns)
  pub replaced : (r : Revisions) (n : ℕ) (s : Statement)
      → HasOneFirstFault (CanBeReplaced r n s) (FailsReplacement r n s)
