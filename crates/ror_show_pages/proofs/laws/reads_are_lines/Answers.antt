use Rattle.ror_show_pages.proofs.ReadLines.{reads_are_lines}
use Rattle.ror_show_pages.proofs.laws.reads_are_lines.Goals as goal

pub returns : goal.returns
returns c = reads_are_lines
