use Rattle.std.proofs.Common.{◌≡◌, map, take}
use Rattle.ror_show_cells.specs.Numbers.{point_for}
use Rattle.ror_show_cells.proofs.numbers.word_of.Given as goal

abbrev pub invariant-bytes : goal.invariant-bytes
invariant-bytes l = l.word.items ≡ map (point_for l.mark) (take l.byte-index l.cell)
