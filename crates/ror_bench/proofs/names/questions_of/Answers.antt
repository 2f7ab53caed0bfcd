use Rattle.ror_table.specs.Table.{IsTable}
use Rattle.ror_bench.specs.Steps.{stopping_fault}
use Rattle.ror_bench.proofs.NameLemmas.{all_valid, all_few}
use Rattle.ror_bench.proofs.names.questions_of.Goals as goal

pub returns-clause-valid : goal.returns-clause-valid
returns-clause-valid c = all_valid stopping_fault c.args.table.now c.args.asked.now c.asked_questions.result c.asked_questions.ensures

pub returns-clause-few : goal.returns-clause-few
returns-clause-few c =
    let table : IsTable c.args.table.now = c.alternatives.ensures.table in
    all_few stopping_fault c.args.table.now c.args.asked.now c.asked_questions.result table c.asked_questions.ensures
