use Rattle.std.proofs.Common.{rules}
use Rattle.ror_report.specs.Text.{header_text}
use Rattle.ror_text.specs.SpacedLines.{line_text}
use Rattle.ror_report.proofs.read.read_header.Goals as goal

pub returns-then-starts_with-clause-exact : goal.returns-then-starts_with-clause-exact
unfolding header_text line_text
returns-then-starts_with-clause-exact c = search rules

pub returns-else-starts_with-clause-exact : goal.returns-else-starts_with-clause-exact
unfolding header_text line_text
returns-else-starts_with-clause-exact c = search rules
