-- One row more.
use Rattle.std.proofs.Common.{◌≡◌, ◌+◌, ◌++◌, false, length, take, get_or, rules}
use Rattle.std.specs.List.{flat_map}
use Rattle.ror_show_kit.specs.Layout.{room_behind, room_left, wrapped}
use Rattle.ror_show_kit.proofs.Pieces.{of_elements, words_more, room_more}
use Rattle.ror_show_find_classes.specs.declared.value.ClassRow.{ClassRow}
use Rattle.ror_show_find_classes.specs.declared.change.Change.TheVariants.{Stayed}
use Rattle.ror_show_find_classes.specs.declared.changes.RowChange.{RowChange}
use Rattle.ror_show_text_changes.specs.ClassText.{change_name, word_if}
use Rattle.ror_show_text_changes.proofs.class_lists.write_words.Goals as goal

abbrev no_row : ClassRow
no_row = record { alternative = 0; lowest = 0; highest = 0; settled = false; whole = false; contradictory = false }

abbrev no_change : RowChange
no_change = record { before = no_row; now = no_row; change = Stayed }

pub rows-preserved : goal.rows-preserved
rows-preserved c =
    let f = word_if c.args.table.now c.args.change in
    let m = length (change_name c.args.change) in
    let rows = c.args.rows.now in
    let i = c.rows.row-index in
    let row = get_or rows i no_change in
    let so_far = flat_map f (take i rows) in
    let more = flat_map f (take (i + 1) rows) in
    let all = of_elements f rows i no_change c.rows-test.true in
    let pushed : c.write_word_if.new.text.items ≡ c.rows.text.items ++ wrapped (length (change_name c.args.change)) c.rows.room (word_if c.args.table.now c.args.change (get_or rows i no_change)) = search rules in
    let left : c.in_ok-room.room ≡ room_left (length (change_name c.args.change)) c.rows.room (word_if c.args.table.now c.args.change (get_or rows i no_change)) = search rules in
    record {
      printed = words_more m (room_behind m) so_far (f row) more c.args.text.now.items c.rows.text.items c.write_word_if.new.text.items c.rows.room c.rows.invariant.printed c.rows.invariant.room pushed all;
      room = room_more m (room_behind m) so_far (f row) more c.rows.room c.in_ok-room.room c.rows.invariant.room left all;
    }
