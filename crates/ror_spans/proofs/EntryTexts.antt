-- What holds of the text of an entry, for those that read and print reports.
use Rattle.ror_spans.specs.EntryLaws.{EntriesAreTheirTexts, EntriesBeginWithPair, EntriesAreUtf8}
use Rattle.ror_spans.proofs.EntryLines as lines
use Rattle.ror_spans.proofs.EntryLemmas.{is_read_iff_text}
use Rattle.ror_spans.proofs.EntryUtf8.{entry_text_is_utf8}

pub entry_iff_text : EntriesAreTheirTexts
entry_iff_text = is_read_iff_text

pub entry_begins : EntriesBeginWithPair
entry_begins = lines.entry_begins

pub entry_is_utf8 : EntriesAreUtf8
entry_is_utf8 = entry_text_is_utf8
