use Rattle.std.proofs.Common.{◌≡◌, ◌++◌, take}
use Rattle.std.specs.List.{flat_map}
use Rattle.ror_show_kit.specs.Layout.{room_behind, room_left, wrapped}
use Rattle.ror_show_text_classes.specs.Text.{assigned_of}
use Rattle.ror_show_text_classes.proofs.assigned.write_each_assigned.Given as goal

abbrev pub invariant-statements : goal.invariant-statements
invariant-statements l = record {
  printed : l.text.items ≡ l.initial.text.items ++ wrapped 11 (room_behind 11) (flat_map (assigned_of l.table) (take l.one-index l.list));
  room : l.room ≡ room_left 11 (room_behind 11) (flat_map (assigned_of l.table) (take l.one-index l.list));
}
