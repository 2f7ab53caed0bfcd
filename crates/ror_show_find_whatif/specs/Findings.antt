-- What hangs on each statement that stood at a line: at those that ask for the relation, and at each time at which classes were asked for.
use Rattle.std.specs.Prelude.{◌≡◌, ℕ, Bool, false, ◌&&◌, List, slice_get, Option, Some, None}
use Rattle.std.specs.List.{AllZip}
use Rattle.ror_report.specs.Text.{answers_of}
use Rattle.ror_session.specs.declared.session.Line.{Line}
use Rattle.ror_session.specs.declared.session.Session.{Session}
use Rattle.ror_bench.specs.declared.kept.KeptLine.{KeptLine}
use Rattle.ror_show_ground.specs.Grounds.{Ground}
use Rattle.ror_show_ground.specs.Lines.{line_of, has_answers, places_where}
use Rattle.ror_show_ground.specs.Turns.{asks_for_relation}
use Rattle.ror_show_find_classes.specs.declared.findings.ClassLine.{ClassLine}
use Rattle.ror_show_find_classes.specs.Findings.{IsTimeFound}
use Rattle.ror_show_find_classes.specs.Signs.{alternative_of}
use Rattle.ror_show_find_classes.specs.Times.{times}
use Rattle.ror_show_find_whatif.specs.declared.outcome.Asks.{Asks}
use Rattle.ror_show_find_whatif.specs.declared.outcome.Asks.TheVariants.{Relation, Classes}
use Rattle.ror_show_find_whatif.specs.declared.times.TimeWhatIf.{TimeWhatIf}
use Rattle.ror_show_find_whatif.specs.declared.whatif.WhatIf.{WhatIf}
use Rattle.ror_show_find_whatif.specs.Agreement.{agreement_by}
use Rattle.ror_show_find_whatif.specs.Cases.{AreCasesOver}

-- at the kept line at a place, which asks this
pub record IsWhatIf (asks : Asks) (g : Ground) (n : ℕ) (f : WhatIf) : Type 0 where
  pub line : KeptLine
  pub there : slice_get g.kept n ≡ Some line
  pub place : f.place ≡ n
  pub alternative : f.alternative ≡ alternative_of (answers_of line.block.body)
  pub agreement : f.agreement ≡ agreement_by (answers_of line.block.body)
  pub cases : AreCasesOver g.table asks (answers_of line.block.body) line.standing f.cases

-- ---- relations

-- the session's line asks for the relation
abbrev pub asks_relation : Option Line → Bool
asks_relation (Some line) = asks_for_relation line.command
asks_relation None = false

-- and is answered
abbrev pub has_relation : Session → KeptLine → Bool
has_relation s x = has_answers x && asks_relation (line_of s x)

abbrev pub relation_places : Session → List KeptLine → List ℕ
relation_places s kept = places_where (has_relation s) kept

-- at each such line, in order
abbrev pub AreRelationWhatIfs : Ground → List WhatIf → Type 0
AreRelationWhatIfs g fs = AllZip (IsWhatIf Relation g) (relation_places g.session g.kept) fs

-- ---- classes

-- at the line of a row
abbrev pub IsRowWhatIf : Ground → ClassLine → WhatIf → Type 0
IsRowWhatIf g row f = IsWhatIf Classes g row.place f

-- at the time that the kept line at a place begins
pub record IsTimeWhatIf (g : Ground) (n : ℕ) (f : TimeWhatIf) : Type 0 where
  pub time : IsTimeFound g n f.time
  pub rows : AllZip (IsRowWhatIf g) f.time.rows f.rows

-- at each time
abbrev pub AreClassWhatIfs : Ground → List TimeWhatIf → Type 0
AreClassWhatIfs g fs = AllZip (IsTimeWhatIf g) (times g.session g.kept) fs
