use Rattle.std.proofs.Common.{◌≡◌, ◌++◌, take}
use Rattle.std.specs.List.{flat_map}
use Rattle.ror_show_kit.specs.Layout.{room_behind, room_left, wrapped}
use Rattle.ror_show_text_classes.specs.Text.{open_word}
use Rattle.ror_show_text_classes.proofs.foot.write_each_open.Given as goal

abbrev pub invariant-rows : goal.invariant-rows
invariant-rows l = record {
  printed : l.text.items ≡ l.initial.text.items ++ wrapped 7 (room_behind 7) (flat_map (open_word l.table) (take l.row-index l.rows));
  room : l.room ≡ room_left 7 (room_behind 7) (flat_map (open_word l.table) (take l.row-index l.rows));
}
