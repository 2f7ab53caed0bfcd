use Rattle.std.proofs.Common.{rules}
use Rattle.std.proofs.lemmas.Str.{IsUtf8-from_is_utf8}
use Rattle.ror_text.proofs.TextLemmas.{numbered_lines_from-IsUtf8}
use Rattle.ror_session.proofs.reading.read_lines.Goals as goal

pub lines-init : goal.lines-init
lines-init c = record { same = search rules; few = search rules; count = search rules; utf8 = numbered_lines_from-IsUtf8 1 c.args.bytes.now (IsUtf8-from_is_utf8 _ c.requires.utf8) }
