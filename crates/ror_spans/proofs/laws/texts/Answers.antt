use Rattle.ror_spans.proofs.EntryTexts.{entry_begins, entry_is_utf8}
use Rattle.ror_spans.proofs.EntryUtf8.{header_is_utf8}
use Rattle.ror_spans.proofs.laws.texts.Goals as goal

pub returns-clause-begin : goal.returns-clause-begin
returns-clause-begin c = entry_begins

pub returns-clause-utf8 : goal.returns-clause-utf8
returns-clause-utf8 c = entry_is_utf8

pub returns-clause-header : goal.returns-clause-header
returns-clause-header c = header_is_utf8
