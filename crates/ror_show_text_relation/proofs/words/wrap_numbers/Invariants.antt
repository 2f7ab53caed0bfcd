use Rattle.std.proofs.Common.{◌≡◌, ◌++◌, map, take}
use Rattle.std.specs.Prelude.{decimal}
use Rattle.ror_show_kit.specs.Layout.{room_left, wrapped}
use Rattle.ror_show_text_relation.proofs.words.wrap_numbers.Given as goal

abbrev pub invariant-numbers : goal.invariant-numbers
invariant-numbers l = record {
  printed : l.text.items ≡ l.initial.text.items ++ wrapped 8 l.fn.room (map decimal (take l.number-index l.numbers));
  room : l.left ≡ room_left 8 l.fn.room (map decimal (take l.number-index l.numbers));
}
