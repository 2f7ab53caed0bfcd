-- The content of an XMCDA file, pass by pass. The first fault of the first faulty pass is given, in order of the document.
use Rattle.std.specs.Prelude.{Bool, List, [], length, Result, Ok}
use Rattle.ror_text.specs.Reading.{◌>>=◌}
use Rattle.ror_statement.specs.declared.statement.Statement.{Statement}
use Rattle.ror_table.specs.declared.fault.TableFault.{TableFault}
use Rattle.ror_table.specs.Table.{DecisionTable}
use Rattle.ror_value.specs.declared.input.Input.{Input}
use Rattle.ror_elements.specs.Tree.{Tree}
use Rattle.ror_xmcda.specs.declared.content.Listed.{Listed}
use Rattle.ror_xmcda.specs.Categories.{categories_of}
use Rattle.ror_xmcda.specs.Alternatives.{alternatives_of}
use Rattle.ror_xmcda.specs.Criteria.{criteria_of}
use Rattle.ror_xmcda.specs.Performances.{performances_of}
use Rattle.ror_xmcda.specs.Whole.{table_of}
use Rattle.ror_xmcda.specs.Comparisons.{comparisons_of}
use Rattle.ror_xmcda.specs.Affectations.{affectations_of}
use Rattle.ror_xmcda.specs.Opening.{opening_of}

-- what the file lists
unfoldable pub listed_of : Tree → Result Listed TableFault
listed_of root = do
  categories ← categories_of root
  alternatives ← alternatives_of root
  criteria ← criteria_of root
  Ok (record { categories = categories; alternatives = alternatives; criteria = criteria })

-- the table of what is kept
unfoldable pub table_in : Listed → Tree → Result DecisionTable TableFault
table_in listed root = do
  given ← performances_of listed.alternatives listed.criteria.ids root
  table_of given listed.criteria listed.alternatives.kept (length listed.categories.ranks)

-- the comparisons in order, then the assignments in order
unfoldable pub opening_in : Bool → Listed → Tree → Result (List Statement) TableFault
opening_in best_first listed root = do
  comparisons ← comparisons_of listed.alternatives [] root
  stated ← affectations_of best_first listed.alternatives listed.categories comparisons root
  opening_of stated

-- the table and the statements of what the file lists
abbrev pub content_in : Bool → Listed → Tree → Result Input TableFault
content_in best_first listed root = do
  table ← table_in listed root
  opening ← opening_in best_first listed root
  Ok (record { table = table; opening = opening })

unfoldable pub content : Bool → Tree → Result Input TableFault
content best_first root = do
  listed ← listed_of root
  content_in best_first listed root
