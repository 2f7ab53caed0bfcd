use Rattle.ror_reason.proofs.SearchLemmas.{whole_part}
use Rattle.ror_reason.proofs.search.whole.Goals as goal

pub returns : goal.returns
returns c = whole_part c.args.sought.now c.requires (record { numbers = c.in_ok-numbers.numbers; answers = c.in_ok-answers.answers }) c.in_ok-answer.answer c.in_ok-numbers.ensures c.in_ok-answers.ensures c.in_ok-answer.ensures
