use Rattle.ror_report.proofs.LineForms.{block_begins, end_begins}
use Rattle.ror_report.proofs.laws.begins_with_its_word.Goals as goal

pub returns-clause-block : goal.returns-clause-block
returns-clause-block c = block_begins

pub returns-clause-end : goal.returns-clause-end
returns-clause-end c = end_begins
