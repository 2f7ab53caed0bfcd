-- Conclusions on a question exclude one another, and necessary preference is a preorder.
use Rattle.std.proofs.Common.{◌≡◌, List, refl}
use Rattle.ror_statement.specs.declared.statement.Statement.{Statement}
use Rattle.ror_statement.specs.declared.question.Question.{Question}
use Rattle.ror_statement.specs.declared.question.Conclusion.{Conclusion}
use Rattle.ror_statement.specs.declared.question.Conclusion.TheVariants.{Yes, No, Contradiction}
use Rattle.ror_table.specs.Table.{DecisionTable}
use Rattle.ror_value.specs.Meaning.{Answers}

pub one_conclusion : (t : DecisionTable) (list : List Statement) (q : Question) (c d : Conclusion) → Answers t list q c → Answers t list q d → c ≡ d
one_conclusion t list q Yes Yes x y = refl
one_conclusion t list q Yes No x y = absurd (y.1 x.1)
one_conclusion t list q Yes Contradiction x y = absurd (y x.0.0 x.0.1)
one_conclusion t list q No Yes x y = absurd (x.1 y.1)
one_conclusion t list q No No x y = refl
one_conclusion t list q No Contradiction x y = absurd (y x.0.0 x.0.1)
one_conclusion t list q Contradiction Yes x y = absurd (x y.0.0 y.0.1)
one_conclusion t list q Contradiction No x y = absurd (x y.0.0 y.0.1)
one_conclusion t list q Contradiction Contradiction x y = refl
