use Rattle.ror_statement.specs.declared.question.Question.TheVariants as questions
use Rattle.ror_show_find_relation.proofs.DominanceLemmas.{dominance-necessary}
use Rattle.ror_show_text_reasons.specs.Laws.{DominanceHolds}

pub dominance_holds : DominanceHolds
dominance_holds t list (questions.Necessary a b) w table function is = dominance-necessary t w a b is table function
dominance_holds t list questions.Consistent w table function is = absurd cc
dominance_holds t list (questions.Possible a b) w table function is = absurd cc
dominance_holds t list (questions.NecessaryStrength p q s) w table function is = absurd cc
dominance_holds t list (questions.PossibleStrength p q s) w table function is = absurd cc
dominance_holds t list (questions.PossibleClass a h) w table function is = absurd cc
dominance_holds t list (questions.NecessaryClass a h) w table function is = absurd cc
