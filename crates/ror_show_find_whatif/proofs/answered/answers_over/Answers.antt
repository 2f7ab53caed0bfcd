use Rattle.std.proofs.Common.{◌≡◌, List, length, map, sym, ap, subst, ◌∙◌, arith}
use Rattle.std.specs.List.{AllByRecursion, AllZip}
use Rattle.std.proofs.lemmas.List.{length-map}
use Rattle.std.proofs.lemmas.Result.{IfOk-weaker}
use Rattle.ror_pivot.specs.declared.note.Bits.TheVariants.{B127}
use Rattle.ror_pivot.specs.Answers.{most_of}
use Rattle.ror_statement.specs.declared.question.Question.{Question}
use Rattle.ror_statement.specs.Statements.{statements_in}
use Rattle.ror_value.specs.Over.{IsAskedIn}
use Rattle.ror_proof.specs.declared.answer.Answer.{Answer}
use Rattle.ror_given.specs.Answers.{IsGiven}
use Rattle.ror_show_find_whatif.proofs.Answering.{asked_of}
use Rattle.ror_show_find_whatif.proofs.answered.answers_over.Goals as goal

pub answered-requires-clause-asked : goal.answered-requires-clause-asked
answered-requires-clause-asked c =
    let s = c.args.stood.now in
    subst (AllByRecursion (IsAskedIn s.table.now)) (sym (c.as_slice.ensures.value ∙ c.in_ok-questions.ensures)) (asked_of s.table.now (statements_in s.list.now) s.answers.now c.requires.stood.sound)

pub answered-requires-clause-few : goal.answered-requires-clause-few
answered-requires-clause-few c =
    let xs = c.args.stood.now.answers.now in
    let few = c.requires.few in
    let same : length c.as_slice.result.now ≡ length (map (λ (x : Answer). x.question) c.args.stood.now.answers.now) = ap (λ (qs : List Question). length qs) (c.as_slice.ensures.value ∙ c.in_ok-questions.ensures) in
    omega (arith, few, same, length-map xs (λ (x : Answer). x.question))

pub returns : goal.returns
returns c =
    let t = c.args.stood.now.table.now in
    IfOk-weaker c.answered.result _ _
    (λ answers are. subst (λ (qs : List Question). AllZip (IsGiven (most_of B127) t c.args.list.now) qs answers.items) (c.as_slice.ensures.value ∙ c.in_ok-questions.ensures) are)
    c.answered.ensures
