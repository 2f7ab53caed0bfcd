use Rattle.std.proofs.Common.{◌≡◌, ◌+◌, Ok, Err, length, ap, sym, ◌∙◌, rules}
use Rattle.serde_json.specs.View.{view, items_view}
use Rattle.ror_json.specs.declared.fault.JsonFault.TheVariants.{BadShape}
use Rattle.ror_json.specs.declared.fault.Misfit.TheVariants.{Shape}
use Rattle.ror_json.specs.Reading.{items_from}
use Rattle.ror_json.proofs.Lists.{one_item_more, item_fails, all_items_read}
use Rattle.ror_json.proofs.formed.items_in.Goals as goal

pub returns-in-Err-Shape : goal.returns-in-Err-Shape
returns-in-Err-Shape g c =
    let read = g.T.Formed.reads c.args.table.now in
    let items = c.args.items.now in
    let v = c.item-item.result in
    let front = c.items.list.items in
    let fails : read (view v) ≡ Err Shape = search rules in
    let count : c.len.result ≡ length front = search rules in
    item_fails read items c.items.item-index v front (items_from read 1 (items_view items)) c.items-test.true c.item-item.is fails c.items.invariant ∙ ap (λ n. Err (BadShape (n + 1))) (sym count)

pub items-preserved : goal.items-preserved
items-preserved g c =
    let read = g.T.Formed.reads c.args.table.now in
    let items = c.args.items.now in
    let v = c.item-item.result in
    let one : read (view v) ≡ Ok c.in-Ok.one = search rules in
    one_item_more read items c.items.item-index v c.items.list.items c.push.new.self.items c.in-Ok.one (items_from read 1 (items_view items)) c.items-test.true c.item-item.is c.in_ok-push-in-Ok.ensures.items one c.items.invariant

pub returns : goal.returns
returns g c =
    let read = g.T.Formed.reads c.args.table.now in
    let items = c.args.items.now in
    all_items_read read items c.items.item-index c.items.list.items (items_from read 1 (items_view items)) c.items-test.false c.items.invariant
