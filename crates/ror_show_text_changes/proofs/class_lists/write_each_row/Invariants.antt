use Rattle.std.proofs.Common.{◌≡◌, ◌++◌, map, take}
use Rattle.ror_show_kit.specs.Layout.{room_behind, room_left, wrapped}
use Rattle.ror_show_text_changes.specs.ClassText.{row_text}
use Rattle.ror_show_text_changes.proofs.class_lists.write_each_row.Given as goal

abbrev pub invariant-rows : goal.invariant-rows
invariant-rows l = record {
  printed : l.text.items ≡ l.initial.text.items ++ wrapped l.margin (room_behind l.margin) (map (row_text l.table) (take l.row-index l.rows));
  room : l.room ≡ room_left l.margin (room_behind l.margin) (map (row_text l.table) (take l.row-index l.rows));
}
