use Rattle.std.proofs.Common.{ℕ, List, ◌≡◌, ◌+◌, ◌≤◌, length}
use Rattle.std.specs.List.{AllByRecursion}
use Rattle.std.specs.Str.{IsUtf8}
use Rattle.ror_text.specs.declared.lines.TheConstants.{MOST_TEXT_BYTES}
use Rattle.ror_text.specs.Lines.{numbered_lines, numbered_lines_from}
use Rattle.ror_text.specs.Reading.{read_all}
use Rattle.ror_session.specs.declared.limits.TheConstants.{MOST_DESKS}
use Rattle.ror_session.specs.Session.{contents, add_line, empty_session}
use Rattle.ror_session.proofs.reading.read_lines.Given as goal

abbrev pub invariant-lines : goal.invariant-lines
invariant-lines l = record {
  same : read_all add_line (contents l.draft) (numbered_lines_from l.number l.rest) ≡ read_all add_line empty_session (numbered_lines l.bytes);
  few : length l.draft.desks.items ≤ MOST_DESKS;
  count : l.number + length l.rest ≤ 1 + MOST_TEXT_BYTES;
  utf8 : AllByRecursion (λ (line : ℕ × List (List ℕ)). AllByRecursion IsUtf8 line.1) (numbered_lines_from l.number l.rest);
}

abbrev pub decreases-lines : goal.decreases-lines
decreases-lines l = length l.rest
