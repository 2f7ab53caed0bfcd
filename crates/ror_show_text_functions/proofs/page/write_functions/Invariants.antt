use Rattle.std.proofs.Common.{◌≡◌, ◌++◌, take}
use Rattle.std.specs.List.{flat_map}
use Rattle.ror_show_ground.specs.Grounds.{ground_of}
use Rattle.ror_show_text_functions.specs.Pages.{section_text}
use Rattle.ror_show_text_functions.proofs.page.write_functions.Given as goal

abbrev pub invariant-lines : goal.invariant-lines
invariant-lines l = l.text.items ≡ l.initial.text.items ++ flat_map (section_text (ground_of l.ground)) (take l.functions-index l.found)
