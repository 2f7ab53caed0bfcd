-- One row more.
use Rattle.std.proofs.Common.{◌≡◌, ◌+◌, ◌++◌, [], ◌∷◌, false, map, take, get_or, ap, ◌∙◌, rules}
use Rattle.std.proofs.lemmas.List.{take_more, map-append}
use Rattle.ror_show_kit.specs.Layout.{room_behind, room_left, wrapped}
use Rattle.ror_show_kit.proofs.Pieces.{words_more, room_more}
use Rattle.ror_show_find_classes.specs.declared.value.ClassRow.{ClassRow}
use Rattle.ror_show_text_changes.specs.ClassText.{row_text}
use Rattle.ror_show_text_changes.proofs.class_lists.write_each_row.Goals as goal

abbrev no_row : ClassRow
no_row = record { alternative = 0; lowest = 0; highest = 0; settled = false; whole = false; contradictory = false }

pub rows-preserved : goal.rows-preserved
rows-preserved c =
    let f = row_text c.args.table.now in
    let m = c.args.margin in
    let rows = c.args.rows.now in
    let i = c.rows.row-index in
    let row = get_or rows i no_row in
    let so_far = map f (take i rows) in
    let more = map f (take (i + 1) rows) in
    let all : map f (take (i + 1) rows) ≡ map f (take i rows) ++ f (get_or rows i no_row) ∷ [] = ap (map f) (take_more rows i no_row c.rows-test.true) ∙ map-append f (take i rows) (get_or rows i no_row ∷ []) in
    let pushed : c.write_row.new.text.items ≡ c.rows.text.items ++ wrapped c.args.margin c.rows.room (row_text c.args.table.now (get_or rows i no_row) ∷ []) = search rules in
    let left : c.in_ok-room.room ≡ room_left c.args.margin c.rows.room (row_text c.args.table.now (get_or rows i no_row) ∷ []) = search rules in
    record {
      printed = words_more m (room_behind m) so_far (f row ∷ []) more c.args.text.now.items c.rows.text.items c.write_row.new.text.items c.rows.room c.rows.invariant.printed c.rows.invariant.room pushed all;
      room = room_more m (room_behind m) so_far (f row ∷ []) more c.rows.room c.in_ok-room.room c.rows.invariant.room left all;
    }
