use Rattle.std.proofs.Common.{◌≡◌, ◌-◌, ◌++◌, take}
use Rattle.std.specs.List.{flat_map}
use Rattle.ror_table.specs.Table.{id_of}
use Rattle.ror_show_kit.specs.Layout.{columns, room_behind, room_left, wrapped}
use Rattle.ror_show_text_relation.specs.Text.{target}
use Rattle.ror_show_text_relation.proofs.lists.write_targets.Given as goal

abbrev pub invariant-arrows : goal.invariant-arrows
invariant-arrows l = record {
  printed : l.text.items ≡ l.initial.text.items ++ wrapped 8 (room_behind 8 - columns (id_of l.table l.fn.a)) (flat_map (target l.table l.fn.a) (take l.arrow-index l.arrows));
  room : l.room ≡ room_left 8 (room_behind 8 - columns (id_of l.table l.fn.a)) (flat_map (target l.table l.fn.a) (take l.arrow-index l.arrows));
}
