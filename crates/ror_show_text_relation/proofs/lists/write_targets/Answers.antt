-- One arrow more.
use Rattle.std.proofs.Common.{◌≡◌, ◌+◌, ◌-◌, ◌++◌, get_or, take, rules}
use Rattle.std.specs.List.{flat_map}
use Rattle.ror_table.specs.Table.{id_of}
use Rattle.ror_show_kit.specs.Layout.{columns, room_behind, room_left, wrapped}
use Rattle.ror_show_text_relation.specs.Text.{target}
use Rattle.ror_show_kit.proofs.Pieces.{of_elements, words_more, room_more}
use Rattle.ror_show_text_relation.proofs.lists.write_targets.Goals as goal

pub arrows-preserved : goal.arrows-preserved
arrows-preserved c =
    let f = target c.args.table.now c.args.a in
    let arrows = c.args.arrows.now in
    let i = c.arrows.arrow-index in
    let room = room_behind 8 - columns (id_of c.args.table.now c.args.a) in
    let so_far = flat_map f (take i arrows) in
    let more = flat_map f (take (i + 1) arrows) in
    let pushed : c.write_target.new.text.items ≡ c.arrows.text.items ++ wrapped 8 c.arrows.room (target c.args.table.now c.args.a (get_or arrows i (0, 0))) = search rules in
    let left : c.in_ok-room.room ≡ room_left 8 c.arrows.room (target c.args.table.now c.args.a (get_or arrows i (0, 0))) = search rules in
    record {
      printed = words_more 8 room so_far (f (get_or arrows i (0, 0))) more c.args.text.now.items c.arrows.text.items c.write_target.new.text.items c.arrows.room c.arrows.invariant.printed c.arrows.invariant.room pushed (of_elements f arrows i (0, 0) c.arrows-test.true);
      room = room_more 8 room so_far (f (get_or arrows i (0, 0))) more c.arrows.room c.in_ok-room.room c.arrows.invariant.room left (of_elements f arrows i (0, 0) c.arrows-test.true);
    }
