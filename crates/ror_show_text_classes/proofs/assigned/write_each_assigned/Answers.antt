-- One statement more.
use Rattle.std.proofs.Common.{◌≡◌, ◌+◌, ◌++◌, get_or, take, rules}
use Rattle.std.specs.List.{flat_map}
use Rattle.ror_statement.specs.declared.statement.Numbered.{Numbered}
use Rattle.ror_statement.specs.declared.statement.Statement.TheVariants.{Prefer}
use Rattle.ror_show_kit.specs.Layout.{room_behind, room_left, wrapped}
use Rattle.ror_show_kit.proofs.Pieces.{of_elements, words_more, room_more}
use Rattle.ror_show_text_classes.specs.Text.{assigned_of}
use Rattle.ror_show_text_classes.proofs.assigned.write_each_assigned.Goals as goal

pub statements-preserved : goal.statements-preserved
statements-preserved c =
    let f = assigned_of c.args.table.now in
    let list = c.args.list.now in
    let i = c.statements.one-index in
    let none : Numbered = record { number = 0; statement = Prefer 0 0 } in
    let pushed : c.write_assigned_of.new.text.items ≡ c.statements.text.items ++ wrapped 11 c.statements.room (assigned_of c.args.table.now (get_or c.args.list.now c.statements.one-index (record { number = 0; statement = Prefer 0 0 }))) = search rules in
    let left : c.in_ok-room.room ≡ room_left 11 c.statements.room (assigned_of c.args.table.now (get_or c.args.list.now c.statements.one-index (record { number = 0; statement = Prefer 0 0 }))) = search rules in
    record {
      printed = words_more 11 (room_behind 11) (flat_map f (take i list)) (f (get_or list i none)) (flat_map f (take (i + 1) list)) c.args.text.now.items c.statements.text.items c.write_assigned_of.new.text.items c.statements.room c.statements.invariant.printed c.statements.invariant.room pushed (of_elements f list i none c.statements-test.true);
      room = room_more 11 (room_behind 11) (flat_map f (take i list)) (f (get_or list i none)) (flat_map f (take (i + 1) list)) c.statements.room c.in_ok-room.room c.statements.invariant.room left (of_elements f list i none c.statements-test.true);
    }
