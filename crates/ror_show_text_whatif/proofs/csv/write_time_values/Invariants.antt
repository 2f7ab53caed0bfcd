use Rattle.std.proofs.Common.{◌≡◌, ◌++◌, take}
use Rattle.ror_show_ground.specs.Grounds.{ground_of}
use Rattle.ror_show_text_whatif.specs.Csv.{times_values}
use Rattle.ror_show_text_whatif.proofs.csv.write_time_values.Given as goal

abbrev pub invariant-times : goal.invariant-times
invariant-times l = l.text.items ≡ l.initial.text.items ++ times_values (ground_of l.ground) (take l.time-index l.found)
