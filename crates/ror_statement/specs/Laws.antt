-- What the limits of a desk are.
use Rattle.std.specs.Prelude.{◌≡◌}
use Rattle.ror_statement.specs.declared.row_number.TheConstants.{MOST_STATEMENTS, MOST_ROWS}

abbrev pub LimitsAre : Type 0
LimitsAre = (MOST_STATEMENTS ≡ 200) × (MOST_ROWS ≡ 2000)
