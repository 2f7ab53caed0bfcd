use Rattle.ror_words.proofs.WordLemmas.{table_law}
use Rattle.ror_run.proofs.running.run.Goals as goal

pub returns-clause-table : goal.returns-clause-table
returns-clause-table g c = table_law _
