-- One row more.
use Rattle.std.proofs.Common.{◌+◌, take}
use Rattle.std.specs.List.{flat_map}
use Rattle.ror_show_kit.specs.Layout.{room_behind}
use Rattle.ror_show_kit.proofs.Pieces.{of_items, words_more, room_more}
use Rattle.ror_show_text_classes.specs.Text.{open_word}
use Rattle.ror_show_text_classes.proofs.foot.write_each_open.Goals as goal

pub rows-preserved : goal.rows-preserved
rows-preserved c =
    let f = open_word c.args.table.now in
    let rows = c.args.rows.now in
    let i = c.rows.row-index in
    let row = c.row-item.result in
    let so_far = flat_map f (take i rows) in
    let more = flat_map f (take (i + 1) rows) in
    let all = of_items f rows i row c.rows-test.true c.row-item.is in
    record {
      printed = words_more 7 (room_behind 7) so_far (f row) more c.args.text.now.items c.rows.text.items c.write_open_word.new.text.items c.rows.room c.rows.invariant.printed c.rows.invariant.room c.in_ok-room.ensures.text all;
      room = room_more 7 (room_behind 7) so_far (f row) more c.rows.room c.in_ok-room.room c.rows.invariant.room c.in_ok-room.ensures.room all;
    }
