-- What holds where the texts say it.
use Rattle.std.specs.Prelude.{◌≡◌, List, Some, ℤ}
use Rattle.ror_statement.specs.declared.statement.Statement.{Statement}
use Rattle.ror_statement.specs.Questions.{kind_of, property_of}
use Rattle.ror_table.specs.Table.{DecisionTable}
use Rattle.ror_value.specs.Over.{IsLawfulIn}
use Rattle.ror_value.specs.Meaning.{IsCompatible}
use Rattle.ror_proof.specs.declared.answer.Answer.{Answer}
use Rattle.ror_show_ground.specs.Sound.{IsSoundAnswer}
use Rattle.ror_show_find_proofs.specs.FunctionLaws.{Decides}
use Rattle.ror_show_find_proofs.specs.Deciding.{deciding}

-- the function whose quantities are shown of a proved answer agrees with the statements, and lacks what is asked of every
-- function or has what is asked of some one
abbrev pub SidesAreMeant : Type 0
SidesAreMeant = (t : DecisionTable) (list : List Statement) (x : Answer) (w : List ℤ)
    → IsLawfulIn t list → IsSoundAnswer t list x → deciding x.verdict ≡ Some w
    → IsCompatible t list w × Decides t list w (kind_of x.question) (property_of x.question)
