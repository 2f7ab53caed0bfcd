use Rattle.ror_discriminate.proofs.EntryLemmas.{entry_begins}
use Rattle.ror_discriminate.proofs.EntryUtf8.{entry_text_is_utf8}
use Rattle.ror_discriminate.proofs.HeadLemmas.{header_is_utf8}
use Rattle.ror_discriminate.proofs.text_laws.texts.Goals as goal

pub returns-clause-begin : goal.returns-clause-begin
returns-clause-begin c = entry_begins

pub returns-clause-utf8 : goal.returns-clause-utf8
returns-clause-utf8 c = entry_text_is_utf8

pub returns-clause-header : goal.returns-clause-header
returns-clause-header c = header_is_utf8
