-- The two ways in which one statement is changed, and what is said then.
use Rattle.std.specs.Prelude.{Option, Some, option_map}
use Rattle.std.specs.Option.{option_map_or}
use Rattle.ror_statement.specs.declared.statement.Statement.{Statement}
use Rattle.ror_show_find_whatif.specs.declared.cases.Case.{Case}
use Rattle.ror_show_find_whatif.specs.declared.outcome.Outcome.{Outcome}
use Rattle.ror_show_text_whatif.specs.declared.ways.Way.{Way}
use Rattle.ror_show_text_whatif.specs.declared.ways.Way.TheVariants.{Withdrawn, Contrary}

-- what it comes to, where that way is open to the statement
abbrev pub outcome_in : Way → Case → Option Outcome
outcome_in Withdrawn c = Some c.withdrawn
outcome_in Contrary c = option_map (λ x. x.outcome) c.contrary

-- the statement itself, or its contrary where it has one
abbrev pub said_in : Way → Case → Statement
said_in Withdrawn c = c.stated.statement
said_in Contrary c = option_map_or (λ x. x.statement) c.contrary c.stated.statement
