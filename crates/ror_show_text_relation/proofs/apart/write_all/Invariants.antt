use Rattle.std.proofs.Common.{◌≡◌, ◌++◌}
use Rattle.std.specs.List.{flat_map, range_with_len}
use Rattle.ror_show_kit.specs.Layout.{room_behind, room_left, wrapped}
use Rattle.ror_show_text_relation.specs.Text.{apart}
use Rattle.ror_show_text_relation.proofs.apart.write_all.Given as goal

abbrev pub invariant-loop-a : goal.invariant-loop-a
invariant-loop-a l = record {
  printed : l.text.items ≡ l.fn.text.items ++ wrapped 8 (room_behind 19) (flat_map (apart l.table l.rows) (range_with_len 0 l.a));
  room : l.room ≡ room_left 8 (room_behind 19) (flat_map (apart l.table l.rows) (range_with_len 0 l.a));
}
