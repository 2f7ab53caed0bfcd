use Rattle.std.proofs.Common.{◌≡◌, ◌++◌, take}
use Rattle.std.specs.List.{flat_map}
use Rattle.ror_show_ground.specs.Grounds.{ground_of}
use Rattle.ror_show_text_whatif.specs.Pages.{section_text}
use Rattle.ror_show_text_whatif.proofs.page.write_relation_whatifs.Given as goal

abbrev pub invariant-lines : goal.invariant-lines
invariant-lines l = l.text.items ≡ l.initial.text.items ++ flat_map (section_text (ground_of l.ground)) (take l.whatif-index l.found)
