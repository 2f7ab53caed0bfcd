-- What hangs on each statement, as plain text: a function of what is found.
use Rattle.std.specs.Prelude.{ℕ, ◌==◌, List, [], ◌∷◌, ◌++◌, codes, length, slice_get, if◌then◌else◌}
use Rattle.std.specs.List.{flat_map}
use Rattle.std.specs.Option.{option_map_or}
use Rattle.ror_table.specs.Table.{DecisionTable}
use Rattle.ror_session.specs.declared.session.Session.{Session}
use Rattle.ror_bench.specs.declared.kept.KeptLine.{KeptLine}
use Rattle.ror_show_ground.specs.Grounds.{Ground}
use Rattle.ror_show_ground.specs.Lines.{desk_at}
use Rattle.ror_show_kit.specs.Heads.{line_text}
use Rattle.ror_show_text_classes.specs.Text as classes
use Rattle.ror_show_find_whatif.specs.declared.outcome.Asks.TheVariants.{Relation, Classes}
use Rattle.ror_show_find_whatif.specs.declared.times.TimeWhatIf.{TimeWhatIf}
use Rattle.ror_show_find_whatif.specs.declared.whatif.WhatIf.{WhatIf}
use Rattle.ror_show_text_whatif.specs.declared.ways.Way.{Way}
use Rattle.ror_show_text_whatif.specs.declared.ways.Way.TheVariants.{Withdrawn, Contrary}
use Rattle.ror_show_text_whatif.specs.Legends.{legend, agreement_text, no_statement}
use Rattle.ror_show_text_whatif.specs.Lists.{lists_text}
use Rattle.ror_show_text_whatif.specs.Rows.{relation_rows}
use Rattle.ror_show_text_whatif.specs.Table.{table_text}
use Rattle.ror_show_text_whatif.specs.TimeLists.{time_lists}
use Rattle.ror_show_text_whatif.specs.Times.{agreement_over, cases_in, time_rows}

-- ---- relations

-- the line, and what stood
abbrev pub head_text : Session → KeptLine → List ℕ
head_text s x = line_text x.block.line (desk_at s x) ++ codes "  ask relation\n" ++ classes.stood_text x.standing

abbrev pub way_text : DecisionTable → Way → WhatIf → List ℕ
way_text t way f = table_text t Relation way (relation_rows way f)

-- both tables, and below them the lists
abbrev pub tables_text : DecisionTable → WhatIf → List ℕ
tables_text t f = legend Relation ++ way_text t Withdrawn f ++ way_text t Contrary f ++ lists_text t f.cases

abbrev pub body_text : DecisionTable → WhatIf → List ℕ
body_text t f = if length f.cases == 0 then no_statement else tables_text t f

-- at a kept line, and an empty line behind
abbrev pub section_over : Ground → WhatIf → KeptLine → List ℕ
section_over g f x = head_text g.session x ++ agreement_text f.agreement ++ body_text g.table f ++ 10 ∷ []

abbrev pub section_text : Ground → WhatIf → List ℕ
section_text g f = option_map_or (section_over g f) (slice_get g.kept f.place) []

-- one after the other
abbrev pub relations_text : Ground → List WhatIf → List ℕ
relations_text g fs = flat_map (section_text g) fs

-- ---- classes

abbrev pub time_way : DecisionTable → Way → List WhatIf → List ℕ
time_way t way fs = table_text t Classes way (time_rows way fs)

abbrev pub time_tables : DecisionTable → List WhatIf → List ℕ
time_tables t fs = legend Classes ++ time_way t Withdrawn fs ++ time_way t Contrary fs ++ time_lists t fs

abbrev pub time_body : DecisionTable → List WhatIf → List ℕ
time_body t fs = if cases_in fs == 0 then no_statement else time_tables t fs

-- at the time that a kept line begins
abbrev pub time_over : Ground → TimeWhatIf → KeptLine → List ℕ
time_over g f x = classes.head_text g.session x f.time.last ++ agreement_text (agreement_over f.rows) ++ time_body g.table f.rows ++ 10 ∷ []

abbrev pub time_text : Ground → TimeWhatIf → List ℕ
time_text g f = option_map_or (time_over g f) (slice_get g.kept f.time.place) []

-- one after the other
abbrev pub times_text : Ground → List TimeWhatIf → List ℕ
times_text g fs = flat_map (time_text g) fs
