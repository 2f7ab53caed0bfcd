use Rattle.std.proofs.Common.{◌≡◌, ◌++◌, length, take}
use Rattle.std.specs.List.{flat_map}
use Rattle.ror_show_kit.specs.Layout.{room_behind, room_left, wrapped}
use Rattle.ror_show_text_changes.specs.ClassText.{change_name, word_if}
use Rattle.ror_show_text_changes.proofs.class_lists.write_words.Given as goal

abbrev pub invariant-rows : goal.invariant-rows
invariant-rows l = record {
  printed : l.text.items ≡ l.initial.text.items ++ wrapped (length (change_name l.change)) (room_behind (length (change_name l.change))) (flat_map (word_if l.table l.change) (take l.row-index l.rows));
  room : l.room ≡ room_left (length (change_name l.change)) (room_behind (length (change_name l.change))) (flat_map (word_if l.table l.change) (take l.row-index l.rows));
}
