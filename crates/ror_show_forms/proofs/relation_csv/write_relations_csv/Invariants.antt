use Rattle.std.proofs.Common.{◌≡◌, ◌++◌, take}
use Rattle.std.specs.List.{flat_map}
use Rattle.ror_show_ground.specs.Grounds.{ground_of}
use Rattle.ror_show_forms.specs.RelationCsv.{relation_values}
use Rattle.ror_show_forms.proofs.relation_csv.write_relations_csv.Given as goal

abbrev pub invariant-lines : goal.invariant-lines
invariant-lines l = l.text.items ≡ l.initial.text.items ++ flat_map (relation_values (ground_of l.ground)) (take l.relation-index l.found)
