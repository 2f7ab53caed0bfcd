use Rattle.std.proofs.lemmas.Result.{on_ok_weaker}
use Rattle.ror_show_kit.proofs.Pieces.{three_more}
use Rattle.ror_show_find_whatif.specs.declared.classes.ClassShift.TheVariants.{Loosened, Bound, Unknown}
use Rattle.ror_show_text_whatif.specs.TimeLists.{shift_text}
use Rattle.ror_show_text_whatif.proofs.Joining.{headed_more}
use Rattle.ror_show_text_whatif.proofs.time_lists.write_rest.Goals as goal

pub returns : goal.returns
returns c =
    let t = c.args.table.now in
    let fs = c.args.lines.now in
    let k = c.args.k in
    let way = c.args.way in
    let old = c.args.text.now.items in
    let loosened = headed_more t fs k way Loosened c.new-loosened.result.items c.write_each.new.text.items c.as_slice.result.now old c.write_headed.new.text.items c.new-loosened.ensures.items c.in_ok-write_each.ensures c.as_slice.ensures.value c.in_ok-write_headed.ensures in
    let bound = headed_more t fs k way Bound c.new-bound.result.items c.write_each-2.new.text.items c.as_slice-2.result.now c.write_headed.new.text.items c.write_headed-2.new.text.items c.new-bound.ensures.items c.in_ok-write_each-2.ensures c.as_slice-2.ensures.value c.in_ok-write_headed-2.ensures in
    on_ok_weaker c.write_headed-3.result
    (λ last. three_more (shift_text t fs k way Loosened) (shift_text t fs k way Bound) (shift_text t fs k way Unknown) old c.write_headed.new.text.items c.write_headed-2.new.text.items c.write_headed-3.new.text.items loosened bound
    (headed_more t fs k way Unknown c.new-unknown.result.items c.write_each-3.new.text.items c.as_slice-3.result.now c.write_headed-2.new.text.items c.write_headed-3.new.text.items c.new-unknown.ensures.items c.in_ok-write_each-3.ensures c.as_slice-3.ensures.value last))
    c.write_headed-3.ensures
