use Rattle.ror_bench.proofs.NameLemmas.{read_valid}
use Rattle.ror_bench.proofs.CommandLemmas.{first_of_names}
use Rattle.ror_bench.proofs.names.statement_of.Goals as goal

pub returns-clause-valid : goal.returns-clause-valid
returns-clause-valid c = read_valid c.args.table.now c.args.named.now c.stated.result c.stated.ensures

pub returns-clause-first : goal.returns-clause-first
returns-clause-first c = first_of_names c.args.table.now c.args.named.now c.stated.result c.stated.ensures
