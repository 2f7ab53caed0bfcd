use Rattle.std.proofs.Common.{◌≡◌, ◌++◌, take}
use Rattle.std.specs.List.{flat_map}
use Rattle.ror_show_ground.specs.Grounds.{ground_of}
use Rattle.ror_show_text_whatif.specs.Pages.{time_text}
use Rattle.ror_show_text_whatif.proofs.time_page.write_class_whatifs.Given as goal

abbrev pub invariant-times : goal.invariant-times
invariant-times l = l.text.items ≡ l.initial.text.items ++ flat_map (time_text (ground_of l.ground)) (take l.time-index l.found)
