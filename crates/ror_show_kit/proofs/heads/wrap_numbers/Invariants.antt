use Rattle.std.proofs.Common.{◌≡◌, ◌++◌, map, take}
use Rattle.std.specs.Prelude.{decimal}
use Rattle.ror_show_kit.specs.Layout.{room_behind, room_left, wrapped}
use Rattle.ror_show_kit.proofs.heads.wrap_numbers.Given as goal

abbrev pub invariant-numbers : goal.invariant-numbers
invariant-numbers l = record {
  printed : l.text.items ≡ l.initial.text.items ++ wrapped 15 (room_behind 15) (map decimal (take l.number-index l.numbers));
  room : l.room ≡ room_left 15 (room_behind 15) (map decimal (take l.number-index l.numbers));
}
