-- The statements that a roll shows.
use Rattle.std.specs.Prelude.{ℕ, ◌-◌, List, Option, option_map, slice_get}
use Rattle.ror_statement.specs.declared.statement.Statement.{Statement}
use Rattle.ror_statement.specs.declared.statement.Numbered.{Numbered}
use Rattle.ror_show_find_roll.specs.declared.roll.Entry.{Entry}
use Rattle.ror_show_find_roll.specs.declared.roll.Source.{Source}
use Rattle.ror_show_find_roll.specs.declared.roll.Source.TheVariants.{File, Line}

-- the statement with a number that comes from there, where this is what each line states
abbrev pub source_of : (ℕ → Option Statement) → List Statement → ℕ → Source → Option Statement
source_of stated_at opening n File = slice_get opening (n - 1)
source_of stated_at opening n (Line place) = stated_at place

abbrev pub numbered : ℕ → Statement → Numbered
numbered n s = record { number = n; statement = s }

-- an entry's number, and the statement that is shown beside it
abbrev pub shown : (ℕ → Option Statement) → List Statement → Entry → Option Numbered
shown stated_at opening e = option_map (numbered e.number) (source_of stated_at opening e.number e.said)
