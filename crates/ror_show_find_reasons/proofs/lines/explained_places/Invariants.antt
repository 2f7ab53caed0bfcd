use Rattle.std.proofs.Common.{◌≡◌}
use Rattle.std.specs.List.{flat_map, range_with_len}
use Rattle.ror_show_ground.specs.Lines.{place_if}
use Rattle.ror_show_find_reasons.specs.Lines.{is_explained}
use Rattle.ror_show_find_reasons.proofs.lines.explained_places.Given as goal

abbrev pub invariant-loop-n : goal.invariant-loop-n
invariant-loop-n l = l.places.items ≡ flat_map (place_if is_explained l.kept) (range_with_len 0 l.n)
