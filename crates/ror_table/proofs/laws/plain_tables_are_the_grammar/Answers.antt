use Rattle.ror_table.proofs.GrammarLemmas.{plain_text_read, read_plain_text}
use Rattle.ror_table.proofs.laws.plain_tables_are_the_grammar.Goals as goal

pub returns : goal.returns
returns c = λ bytes t. (read_plain_text bytes t, plain_text_read bytes t)
