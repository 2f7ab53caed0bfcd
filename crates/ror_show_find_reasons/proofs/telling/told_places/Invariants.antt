use Rattle.std.proofs.Common.{◌≡◌}
use Rattle.std.specs.List.{flat_map, range_with_len}
use Rattle.ror_show_find_reasons.specs.Lines.{left_at, told_if}
use Rattle.ror_show_find_reasons.proofs.telling.told_places.Given as goal

abbrev pub invariant-answers : goal.invariant-answers
invariant-answers l = (l.left ≡ left_at l.answers l.k) × (l.places.items ≡ flat_map (told_if l.meant l.answers) (range_with_len 0 l.k))
