use Rattle.ror_ranks_text.proofs.EntryLemmas.{entry_begins}
use Rattle.ror_ranks_text.proofs.EntryUtf8.{entry_text_is_utf8, header_is_utf8}
use Rattle.ror_ranks_text.proofs.text_laws.texts.Goals as goal

pub returns-clause-begin : goal.returns-clause-begin
returns-clause-begin c = entry_begins

pub returns-clause-utf8 : goal.returns-clause-utf8
returns-clause-utf8 c = λ t x table printable. entry_text_is_utf8 t table x printable

pub returns-clause-header : goal.returns-clause-header
returns-clause-header c = header_is_utf8
