-- How much hangs on each statement, as comma-separated values.
use Rattle.std.specs.Prelude.{ℕ, List, [], ◌∷◌, ◌++◌, codes, decimal, slice_get, Option, Some, None}
use Rattle.std.specs.List.{flat_map}
use Rattle.std.specs.Option.{option_map_or}
use Rattle.ror_table.specs.Table.{DecisionTable, id_of}
use Rattle.ror_bench.specs.declared.kept.KeptLine.{KeptLine}
use Rattle.ror_show_ground.specs.Grounds.{Ground}
use Rattle.ror_show_ground.specs.Lines.{desk_at}
use Rattle.ror_show_kit.specs.Fields.{field}
use Rattle.ror_show_find_whatif.specs.declared.agreement.Agreement.{Agreement}
use Rattle.ror_show_find_whatif.specs.declared.agreement.Agreement.TheVariants.{Agrees, Contradicts, Unknown}
use Rattle.ror_show_find_whatif.specs.declared.cases.Case.{Case}
use Rattle.ror_show_find_whatif.specs.declared.outcome.Asks.{Asks}
use Rattle.ror_show_find_whatif.specs.declared.outcome.Asks.TheVariants.{Relation, Classes}
use Rattle.ror_show_find_whatif.specs.declared.outcome.Outcome.{Outcome}
use Rattle.ror_show_find_whatif.specs.declared.times.TimeWhatIf.{TimeWhatIf}
use Rattle.ror_show_find_whatif.specs.declared.whatif.WhatIf.{WhatIf}
use Rattle.ror_show_text_whatif.specs.declared.told.Counts.{Counts}
use Rattle.ror_show_text_whatif.specs.declared.ways.Way.{Way}
use Rattle.ror_show_text_whatif.specs.declared.ways.Way.TheVariants.{Withdrawn, Contrary}
use Rattle.ror_show_text_whatif.specs.Told.{counts_of}
use Rattle.ror_show_text_whatif.specs.Ways.{outcome_in}

abbrev pub csv_head : List ℕ
csv_head = codes "line,desk,asks,alternative,statement,change,agrees,lost,weaker,won,stronger,opened,closed,loosened,bound,unknown\n"

-- what a line asks, and of which alternative
abbrev pub asks_values : DecisionTable → Asks → ℕ → List ℕ
asks_values t Relation a = codes ",relation,"
asks_values t Classes a = codes ",classes" ++ 44 ∷ field (id_of t a)

-- the number of the line, its desk, and what it asks
abbrev pub front : Ground → KeptLine → Asks → ℕ → List ℕ
front g x asks a = decimal x.block.line ++ (44 ∷ field (desk_at g.session x)) ++ asks_values g.table asks a ++ 44 ∷ []

abbrev pub way_word : Way → List ℕ
way_word Withdrawn = codes ",withdrawn,"
way_word Contrary = codes ",contrary,"

-- whether some function agrees then
abbrev pub agrees_word : Agreement → List ℕ
agrees_word Agrees = codes "yes"
agrees_word Contradicts = codes "no"
agrees_word Unknown = codes "unknown"

abbrev pub value : ℕ → List ℕ
value n = 44 ∷ decimal n

abbrev pub four_values : Counts → List ℕ
four_values n = value n.first ++ value n.second ++ value n.third ++ value n.fourth

-- those of pairs, or those of classes; of the others nothing
abbrev pub counts_values : Asks → Counts → List ℕ
counts_values Relation n = four_values n ++ codes ",,,," ++ value n.unknown
counts_values Classes n = codes ",,,," ++ four_values n ++ value n.unknown

abbrev pub outcome_values : List ℕ → Asks → Way → ℕ → Outcome → List ℕ
outcome_values before asks way n o = before ++ decimal n ++ way_word way ++ agrees_word o.agreement ++ counts_values asks (counts_of o.effect) ++ 10 ∷ []

-- a line, where that way is open to the statement
abbrev pub values_for : List ℕ → Asks → Way → ℕ → Option Outcome → List ℕ
values_for before asks way n (Some o) = outcome_values before asks way n o
values_for before asks way n None = []

abbrev pub way_values : List ℕ → Asks → Way → Case → List ℕ
way_values before asks way c = values_for before asks way c.stated.number (outcome_in way c)

abbrev pub case_values : List ℕ → Asks → Case → List ℕ
case_values before asks c = way_values before asks Withdrawn c ++ way_values before asks Contrary c

abbrev pub cases_values : List ℕ → Asks → List Case → List ℕ
cases_values before asks cases = flat_map (case_values before asks) cases

-- of each statement at a line
abbrev pub line_values : Ground → Asks → WhatIf → KeptLine → List ℕ
line_values g asks f x = cases_values (front g x asks f.alternative) asks f.cases

abbrev pub whatif_values : Ground → Asks → WhatIf → List ℕ
whatif_values g asks f = option_map_or (line_values g asks f) (slice_get g.kept f.place) []

-- one line after the other
abbrev pub lines_values : Ground → Asks → List WhatIf → List ℕ
lines_values g asks fs = flat_map (whatif_values g asks) fs

abbrev pub time_values : Ground → TimeWhatIf → List ℕ
time_values g f = lines_values g Classes f.rows

abbrev pub times_values : Ground → List TimeWhatIf → List ℕ
times_values g fs = flat_map (time_values g) fs
