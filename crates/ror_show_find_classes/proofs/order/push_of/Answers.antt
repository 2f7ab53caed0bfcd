-- One line more.
use Rattle.std.proofs.Common.{◌≡◌, ◌++◌, get_or, rules}
use Rattle.ror_show_find_classes.specs.Rows.{if_of}
use Rattle.ror_show_kit.proofs.Pieces.{element_more}
use Rattle.ror_show_find_classes.proofs.order.push_of.Goals as goal

pub places-preserved : goal.places-preserved
places-preserved c =
    let pushed : c.push_if_of.new.made.items ≡ c.places.made.items ++ if_of c.args.kept.now c.args.a (get_or c.args.places.now c.places.place-index 0) = search rules in
    element_more (if_of c.args.kept.now c.args.a) c.args.places.now c.places.place-index 0 c.args.made.now.items c.places.made.items c.push_if_of.new.made.items c.places-test.true c.places.invariant pushed
