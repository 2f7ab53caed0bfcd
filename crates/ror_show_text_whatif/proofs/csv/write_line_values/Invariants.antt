use Rattle.std.proofs.Common.{◌≡◌, ◌++◌, take}
use Rattle.ror_show_ground.specs.Grounds.{ground_of}
use Rattle.ror_show_text_whatif.specs.Csv.{lines_values}
use Rattle.ror_show_text_whatif.proofs.csv.write_line_values.Given as goal

abbrev pub invariant-lines : goal.invariant-lines
invariant-lines l = l.text.items ≡ l.initial.text.items ++ lines_values (ground_of l.ground) l.asks (take l.whatif-index l.found)
