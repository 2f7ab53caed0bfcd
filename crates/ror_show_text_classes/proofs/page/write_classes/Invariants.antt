use Rattle.std.proofs.Common.{◌≡◌, ◌++◌}
use Rattle.std.specs.List.{flat_map, range_with_len}
use Rattle.ror_show_ground.specs.Grounds.{ground_of}
use Rattle.ror_show_text_classes.specs.Pages.{classes_part}
use Rattle.ror_show_text_classes.proofs.page.write_classes.Given as goal

abbrev pub invariant-loop-number : goal.invariant-loop-number
invariant-loop-number l = l.text.items ≡ l.fn.text.items ++ flat_map (classes_part (ground_of l.ground) l.found) (range_with_len 0 l.number)
