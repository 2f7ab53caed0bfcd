use Rattle.std.proofs.Common.{◌≡◌, ◌++◌, rules}
use Rattle.std.specs.Prelude.{OnOk}
use Rattle.std.proofs.lemmas.Result.{on_ok_weaker}
use Rattle.ror_show_find_relation.specs.declared.change.Change.TheVariants.{TurnedRound, NoLonger, Stayed, New}
use Rattle.ror_show_kit.proofs.Pieces.{four_more}
use Rattle.ror_show_text_relation.specs.Text.{pairs_below}
use Rattle.ror_show_text_changes.specs.Text.{change_head}
use Rattle.ror_show_text_changes.proofs.relation_lists.write_differences.Goals as goal

pub returns : goal.returns
returns c =
    let t = c.args.table.now in
    let pairs = c.args.pairs.now in
    let turned : c.write_list.new.text.items ≡ c.args.text.now.items ++ pairs_below c.args.table.now (change_head TurnedRound) c.args.pairs.now.turned = search rules in
    let no_longer : c.write_list-2.new.text.items ≡ c.write_list.new.text.items ++ pairs_below c.args.table.now (change_head NoLonger) c.args.pairs.now.no_longer = search rules in
    let stayed : c.write_list-3.new.text.items ≡ c.write_list-2.new.text.items ++ pairs_below c.args.table.now (change_head Stayed) c.args.pairs.now.stayed = search rules in
    let new : OnOk c.write_list-4.result (c.write_list-4.new.text.items ≡ c.write_list-3.new.text.items ++ pairs_below c.args.table.now (change_head New) c.args.pairs.now.new) = search rules in
    on_ok_weaker c.write_list-4.result
    (λ last. four_more (pairs_below t (change_head TurnedRound) pairs.turned) (pairs_below t (change_head NoLonger) pairs.no_longer) (pairs_below t (change_head Stayed) pairs.stayed) (pairs_below t (change_head New) pairs.new) c.args.text.now.items c.write_list.new.text.items c.write_list-2.new.text.items c.write_list-3.new.text.items c.write_list-4.new.text.items turned no_longer stayed last)
    new
