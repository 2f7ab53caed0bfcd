use Rattle.std.proofs.lemmas.Result.{on_ok_weaker}
use Rattle.ror_show_kit.proofs.Pieces.{two_more}
use Rattle.ror_show_find_whatif.specs.declared.classes.ClassShift.TheVariants.{Opened, Closed}
use Rattle.ror_show_text_whatif.specs.TimeLists.{shift_text}
use Rattle.ror_show_text_whatif.proofs.Joining.{headed_more}
use Rattle.ror_show_text_whatif.proofs.time_lists.write_bounds.Goals as goal

pub returns : goal.returns
returns c =
    let t = c.args.table.now in
    let fs = c.args.lines.now in
    let k = c.args.k in
    let way = c.args.way in
    let old = c.args.text.now.items in
    let opened = headed_more t fs k way Opened c.new-opened.result.items c.write_each.new.text.items c.as_slice.result.now old c.write_headed.new.text.items c.new-opened.ensures.items c.in_ok-write_each.ensures c.as_slice.ensures.value c.in_ok-write_headed.ensures in
    on_ok_weaker c.write_headed-2.result
    (λ last. two_more (shift_text t fs k way Opened) (shift_text t fs k way Closed) old c.write_headed.new.text.items c.write_headed-2.new.text.items opened
    (headed_more t fs k way Closed c.new-closed.result.items c.write_each-2.new.text.items c.as_slice-2.result.now c.write_headed.new.text.items c.write_headed-2.new.text.items c.new-closed.ensures.items c.in_ok-write_each-2.ensures c.as_slice-2.ensures.value last))
    c.write_headed-2.ensures
