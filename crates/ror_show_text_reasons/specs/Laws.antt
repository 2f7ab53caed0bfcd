use Rattle.std.specs.Prelude.{◌≡◌, true, List, ℤ}
use Rattle.ror_statement.specs.declared.statement.Statement.{Statement}
use Rattle.ror_statement.specs.declared.question.Question.{Question}
use Rattle.ror_statement.specs.Questions.{property_of}
use Rattle.ror_table.specs.Table.{DecisionTable, IsTable}
use Rattle.ror_value.specs.Value.{IsValueFunction}
use Rattle.ror_value.specs.Meaning.{Has}
use Rattle.ror_show_text_reasons.specs.Reasons.{is_dominance}

-- what is said to hold by dominance holds of every value function
abbrev pub DominanceHolds : Type 0
DominanceHolds = (t : DecisionTable) (list : List Statement) (q : Question) (w : List ℤ) → IsTable t → IsValueFunction t w
    → is_dominance t q ≡ true → Has t list w (property_of q)
