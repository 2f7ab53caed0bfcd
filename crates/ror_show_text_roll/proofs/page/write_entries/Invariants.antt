use Rattle.std.proofs.Common.{◌≡◌, ◌++◌, drop}
use Rattle.std.specs.List.{flat_map}
use Rattle.ror_show_ground.specs.Grounds.{ground_of}
use Rattle.ror_show_text_roll.specs.Page.{entry_row}
use Rattle.ror_show_text_roll.proofs.page.write_entries.Given as goal

abbrev pub invariant-entries : goal.invariant-entries
invariant-entries l = l.text.items ++ flat_map (entry_row (ground_of l.ground)) (drop l.entry-index l.entries) ≡ l.initial.text.items ++ flat_map (entry_row (ground_of l.ground)) l.entries
