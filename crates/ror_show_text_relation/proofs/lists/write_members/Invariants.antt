use Rattle.std.proofs.Common.{◌≡◌, ◌++◌}
use Rattle.std.specs.List.{flat_map, range_with_len}
use Rattle.ror_show_kit.specs.Layout.{room_behind, room_left, wrapped}
use Rattle.ror_show_text_relation.specs.Text.{member}
use Rattle.ror_show_text_relation.proofs.lists.write_members.Given as goal

abbrev pub invariant-loop-a : goal.invariant-loop-a
invariant-loop-a l = record {
  printed : l.text.items ≡ l.fn.text.items ++ wrapped 8 (room_behind 8) (flat_map (member l.table l.page l.fn.level) (range_with_len 0 l.a));
  room : l.room ≡ room_left 8 (room_behind 8) (flat_map (member l.table l.page l.fn.level) (range_with_len 0 l.a));
}
