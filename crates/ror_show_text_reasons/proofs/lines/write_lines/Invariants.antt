use Rattle.std.proofs.Common.{◌≡◌, ◌++◌}
use Rattle.std.specs.List.{flat_map, range_with_len}
use Rattle.ror_show_ground.specs.Grounds.{ground_of}
use Rattle.ror_show_text_reasons.specs.Pages.{line_at}
use Rattle.ror_show_text_reasons.proofs.lines.write_lines.Given as goal

abbrev pub invariant-found : goal.invariant-found
invariant-found l = l.text.items ≡ l.fn.text.items ++ flat_map (line_at l.meant (ground_of l.ground) l.found l.cores) (range_with_len 0 l.k)
