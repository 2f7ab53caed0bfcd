-- What it means that nothing is known of an alternative.
use Rattle.std.specs.Prelude.{◌≡◌, ◌≢◌, ℕ, ◌<◌, true, List}
use Rattle.ror_statement.specs.declared.statement.Statement.{Statement}
use Rattle.ror_table.specs.Table.{DecisionTable}
use Rattle.ror_proof.specs.declared.answer.Answer.{Answer}
use Rattle.ror_show_find_relation.specs.Cells.{cell_rows}
use Rattle.ror_show_find_relation.specs.CellLaws.{AreTrueAnswers, IsWholeRelation}
use Rattle.ror_show_find_relation.specs.Meaning.{IsOpen}
use Rattle.ror_show_text_relation.specs.Apart.{is_apart}

-- By true answers, where some function is compatible and each cell says something, an alternative that is set apart is open with each
-- other one: neither is worth at least as much as the other by every function.
abbrev pub ApartAreOpen : Type 0
ApartAreOpen = (t : DecisionTable) (list : List Statement) (xs : List Answer) (n a b : ℕ)
    → AreTrueAnswers t list xs → IsWholeRelation t list n xs → a < n → b < n → a ≢ b
    → is_apart (cell_rows n xs) a ≡ true → IsOpen t list a b
