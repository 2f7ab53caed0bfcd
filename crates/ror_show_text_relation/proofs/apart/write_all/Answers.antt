-- One alternative more.
use Rattle.std.specs.Prelude.{◌+◌}
use Rattle.std.specs.List.{flat_map, range_with_len}
use Rattle.ror_show_kit.specs.Layout.{room_behind}
use Rattle.ror_show_text_relation.specs.Text.{apart}
use Rattle.ror_show_kit.proofs.Pieces.{of_numbers, words_more, room_more}
use Rattle.ror_show_text_relation.proofs.apart.write_all.Goals as goal

pub loop-a-preserved : goal.loop-a-preserved
loop-a-preserved c =
    let f = apart c.args.table.now c.args.rows.now in
    let a = c.loop-a.a in
    let so_far = flat_map f (range_with_len 0 a) in
    let more = flat_map f (range_with_len 0 (a + 1)) in
    record {
      printed = words_more 8 (room_behind 19) so_far (f a) more c.args.text.now.items c.loop-a.text.items c.write_one.new.text.items c.loop-a.room c.loop-a.invariant.printed c.loop-a.invariant.room c.in_ok-room.ensures.text (of_numbers f a);
      room = room_more 8 (room_behind 19) so_far (f a) more c.loop-a.room c.in_ok-room.room c.loop-a.invariant.room c.in_ok-room.ensures.room (of_numbers f a);
    }
