-- One row more.
use Rattle.std.proofs.Common.{◌≡◌, ◌++◌, ◌∙◌, List, get_or, ap, sym, rules}
use Rattle.ror_show_find_classes.specs.declared.value.ClassRow.{ClassRow}
use Rattle.ror_show_find_classes.specs.Values.{interval_at}
use Rattle.ror_show_kit.proofs.Pieces.{of_elements}
use Rattle.ror_show_find_classes.proofs.value.intervals_at.Goals as goal

pub places-preserved : goal.places-preserved
places-preserved c =
    let f = interval_at c.args.classes c.args.kept.now in
    let pushed : c.push_interval.new.made.items ≡ c.places.made.items ++ interval_at c.args.classes c.args.kept.now (get_or c.args.places.now c.places.place-index 0) = search rules in
    pushed ∙ ap (λ (xs : List ClassRow). xs ++ f (get_or c.args.places.now c.places.place-index 0)) c.places.invariant ∙ sym (of_elements f c.args.places.now c.places.place-index 0 c.places-test.true)
