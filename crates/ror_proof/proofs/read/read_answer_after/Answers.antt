use Rattle.ror_text.specs.Cursor.{cursor_at}
use Rattle.ror_proof.proofs.AnswerLemmas.{read_is_narrow}
use Rattle.ror_proof.proofs.read.read_answer_after.Goals as goal

pub returns-clause-narrow : goal.returns-clause-narrow
returns-clause-narrow c = read_is_narrow c.in_ok-question.name (cursor_at c.args.bytes.now c.in_ok-question.next) (cursor_at c.args.bytes.now c.in_ok-verdict.next) c.in_ok-verdict.verdict c.in_ok-verdict.ensures.exact
