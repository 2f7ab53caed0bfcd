-- The levels of a criterion: its distinct performances, from the worst to the best.
use Rattle.std.specs.Prelude.{◌≡◌, true, List, All, AllPairs}
use Rattle.std.specs.List.{IsDistinct}
use Rattle.std.specs.Set.{is_member}
use Rattle.ror_table.specs.declared.amount.Amount.{Amount}
use Rattle.ror_table.specs.declared.direction.Direction.{Direction}
use Rattle.ror_table.specs.Amounts.{IsAmount, is_worse, is_same}

-- each performance is worse than all that come after it
abbrev pub Rises : Direction → List Amount → Type 0
Rises direction levels = AllPairs (λ p q. is_worse direction p q ≡ true) levels

-- these are the levels of the performances
pub record IsLevels (direction : Direction) (performances levels : List Amount) : Type 0 where
  pub rises : Rises direction levels
  pub amounts : All IsAmount levels
  pub distinct : IsDistinct is_same levels
  pub members : (q : Amount) → is_member is_same levels q ≡ is_member is_same performances q
