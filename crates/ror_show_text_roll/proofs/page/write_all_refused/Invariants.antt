use Rattle.std.proofs.Common.{◌≡◌, ◌++◌, drop}
use Rattle.std.specs.List.{flat_map}
use Rattle.ror_show_ground.specs.Grounds.{ground_of}
use Rattle.ror_show_text_roll.specs.Page.{refused_row}
use Rattle.ror_show_text_roll.proofs.page.write_all_refused.Given as goal

abbrev pub invariant-refused : goal.invariant-refused
invariant-refused l = l.text.items ++ flat_map (refused_row (ground_of l.ground)) (drop l.line-index l.refused) ≡ l.initial.text.items ++ flat_map (refused_row (ground_of l.ground)) l.refused
