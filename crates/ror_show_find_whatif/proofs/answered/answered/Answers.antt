use Rattle.std.proofs.Common.{◌≡◌, List, length, sym, ap, subst, arith}
use Rattle.std.specs.List.{AllByRecursion}
use Rattle.ror_pivot.specs.declared.note.Bits.TheVariants.{B127}
use Rattle.ror_pivot.specs.Answers.{most_of}
use Rattle.ror_value.specs.Over.{IsAskedIn}
use Rattle.ror_proof.specs.declared.answer.Answer.{Answer}
use Rattle.ror_given.specs.Answers.{IsGiven}
use Rattle.ror_show_find_whatif.proofs.Answering.{named_of, as_many}
use Rattle.ror_show_find_whatif.proofs.answered.answered.Goals as goal

pub check_answers-requires-clause-named : goal.check_answers-requires-clause-named
check_answers-requires-clause-named c =
    let t = c.args.table.now in
    subst (AllByRecursion (λ (x : Answer). IsAskedIn t x.question)) (sym c.as_slice.ensures.value)
    (named_of (most_of B127) t c.args.list.now c.args.questions.now c.in_ok-answers.answers.items c.requires.asked c.in_ok-answers.ensures.given)

pub check_answers-requires-clause-few : goal.check_answers-requires-clause-few
check_answers-requires-clause-few c =
    let few = c.requires.few in
    let many = as_many (IsGiven (most_of B127) c.args.table.now c.args.list.now) c.args.questions.now c.in_ok-answers.answers.items c.in_ok-answers.ensures.given in
    let same : length c.as_slice.result.now ≡ length c.in_ok-answers.answers.items = ap (λ (xs : List Answer). length xs) c.as_slice.ensures.value in
    omega (arith, few, many, same)
