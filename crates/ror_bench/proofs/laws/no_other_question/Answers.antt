use Rattle.ror_bench.proofs.QuestionLemmas.{no_block_of_another, no_report_of_another}
use Rattle.ror_bench.proofs.laws.no_other_question.Goals as goal

pub returns-clause-block : goal.returns-clause-block
returns-clause-block c = no_block_of_another

pub returns-clause-report : goal.returns-clause-report
returns-clause-report c = no_report_of_another
