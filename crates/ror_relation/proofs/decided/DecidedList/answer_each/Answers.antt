use Rattle.std.proofs.Common.{rules, arith, ◌+◌, take, List, sym, subst}
use Rattle.std.specs.List.{AllZip}
use Rattle.ror_pivot.specs.Answers.{most_of}
use Rattle.ror_statement.specs.declared.question.Question.TheVariants.{Consistent}
use Rattle.ror_proof.specs.declared.answer.Answer.{Answer}
use Rattle.ror_given.specs.Answers.{IsGiven}
use Rattle.ror_relation.proofs.Concluding.{zip_more}
use Rattle.ror_relation.proofs.decided.DecidedList.answer_each.Goals as goal

pub loop-question-preserved : goal.loop-question-preserved
loop-question-preserved c =
    let t = c.args.table.now in
    let list = c.args.self.now.list in
    let questions = c.args.questions.now in
    let i = c.loop-question.question-index in
    let most = most_of c.args.bits in
    let answer = c.in_ok-answer in
    let more = zip_more (IsGiven most t list) questions c.loop-question.answers.items i Consistent answer.answer (search rules) c.loop-question.invariant.0 answer.ensures.given in
    let before = c.loop-question.invariant.1 in
    let risen = answer.ensures.counted in
    (subst (λ (answers : List Answer). AllZip (IsGiven most t list) (take (i + 1) questions) answers) (sym {A = List Answer} c.in_ok-push.ensures.items) more, omega (arith, before, risen))
