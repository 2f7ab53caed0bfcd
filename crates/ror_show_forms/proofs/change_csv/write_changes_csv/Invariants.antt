use Rattle.std.proofs.Common.{◌≡◌, ◌++◌, take}
use Rattle.std.specs.List.{flat_map}
use Rattle.ror_show_ground.specs.Grounds.{ground_of}
use Rattle.ror_show_forms.specs.ChangeCsv.{change_values}
use Rattle.ror_show_forms.proofs.change_csv.write_changes_csv.Given as goal

abbrev pub invariant-turns : goal.invariant-turns
invariant-turns l = l.text.items ≡ l.initial.text.items ++ flat_map (change_values (ground_of l.ground)) (take l.change-index l.found)
