use Rattle.std.proofs.Common.{◌≡◌, ◌++◌}
use Rattle.std.specs.List.{flat_map, range_with_len}
use Rattle.ror_show_ground.specs.Grounds.{ground_of}
use Rattle.ror_show_text_changes.specs.Pages.{relation_part}
use Rattle.ror_show_text_changes.proofs.relations.write_relation_changes.Given as goal

abbrev pub invariant-loop-number : goal.invariant-loop-number
invariant-loop-number l = l.text.items ≡ l.fn.text.items ++ flat_map (relation_part (ground_of l.ground) l.found) (range_with_len 0 l.number)
