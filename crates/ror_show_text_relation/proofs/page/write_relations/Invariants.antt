use Rattle.std.proofs.Common.{◌≡◌, ◌++◌, take}
use Rattle.std.specs.List.{flat_map}
use Rattle.ror_show_ground.specs.Grounds.{ground_of}
use Rattle.ror_show_text_relation.specs.Pages.{section_text}
use Rattle.ror_show_text_relation.proofs.page.write_relations.Given as goal

abbrev pub invariant-relations : goal.invariant-relations
invariant-relations l = l.text.items ≡ l.initial.text.items ++ flat_map (section_text (ground_of l.ground)) (take l.relation-index l.found)
