use Rattle.ror_show_pages.proofs.Said.{meant_lines_are_kept}
use Rattle.ror_show_pages.proofs.laws.meant_lines_are_kept.Goals as goal

pub returns : goal.returns
returns c = meant_lines_are_kept
