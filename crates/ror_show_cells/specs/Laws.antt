-- The laws of cells that the crate claims.
use Rattle.std.specs.Prelude.{◌≡◌, ◌⊎◌, ◌↔◌, ℕ, ◌≤◌, true, false, List, ◌∷◌, ◌++◌, length, Some}
use Rattle.ror_table.specs.declared.amount.Amount.{Amount}
use Rattle.ror_table.specs.Spellings.{WritesReal}
use Rattle.ror_show_cells.specs.declared.numbers.Numerals.{Numerals}
use Rattle.ror_show_cells.specs.declared.spreadsheet.TheConstants.{MOST_ROWS}
use Rattle.ror_show_cells.specs.Looks.{has, unsigned, are_digits}
use Rattle.ror_show_cells.specs.Numbers.{amount_in, begins_with_zero, may_group, other_mark, shows, word_of}

-- the cell writes the amount with the mark, and means nothing else
pub record IsNumber (n : Numerals) (cell : List ℕ) (p : Amount) : Type 0 where
  pub writes : WritesReal (word_of n.mark cell) p
  pub pure : has (other_mark n.mark) cell ≡ false
  pub clear : (n.shown ≡ true) ⊎ (may_group n.mark cell ≡ false)

abbrev pub NumbersHaveOneMeaning : Type 0
NumbersHaveOneMeaning = (n : Numerals) (cell : List ℕ) (p : Amount) → (amount_in n cell ≡ Some p) ↔ IsNumber n cell p

-- one to three digits, of which the first isn't 0, the mark, and three digits
pub record IsGrouped (mark : ℕ) (cell : List ℕ) : Type 0 where
  pub before : List ℕ
  pub behind : List ℕ
  pub is : unsigned cell ≡ before ++ mark ∷ behind
  pub before_digits : are_digits before ≡ true
  pub few : length before ≤ 3
  pub behind_digits : are_digits behind ≡ true
  pub three : length behind ≡ 3
  pub not_zero : begins_with_zero before ≡ false

-- with a comma or a point as the mark
abbrev pub OneMarkIsShown : Type 0
OneMarkIsShown = (mark : ℕ) (cell : List ℕ) → (mark ≡ 44) ⊎ (mark ≡ 46) → shows mark cell ≡ true → IsGrouped mark cell → ⊥

-- what the limit is
abbrev pub LimitsAre : Type 0
LimitsAre = MOST_ROWS ≡ 1000
