use Rattle.ror_table.proofs.LineFaultLemmas.{line_first, first_line_fault}
use Rattle.ror_table.proofs.laws.lines_fail_first.Goals as goal

pub returns : goal.returns
returns c = λ version t line fault. (line_first version t line fault, λ h. first_line_fault version t line fault h.0 h.1)
