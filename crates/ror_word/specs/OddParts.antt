-- What is left of a number once its factors 2 are divided out.
use Rattle.std.specs.Prelude.{◌≡◌, ℕ, ◌*◌, ◌%◌, ◌^◌}

-- the number is the odd one times so many factors 2
pub record IsOddPart (number odd twos : ℕ) : Type 0 where
  pub product : number ≡ odd * 2 ^ twos
  pub is_odd : odd % 2 ≡ 1
