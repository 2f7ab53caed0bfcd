-- One line more.
use Rattle.std.proofs.Common.{◌≡◌, ◌++◌, ◌∙◌, List, get_or, ap, sym, rules}
use Rattle.ror_show_kit.proofs.Pieces.{of_elements}
use Rattle.ror_show_ground.specs.Grounds.{ground_of}
use Rattle.ror_show_find_classes.specs.declared.findings.ClassLine.{ClassLine}
use Rattle.ror_show_find_classes.specs.Findings.{class_line_at}
use Rattle.ror_show_find_classes.proofs.findings.lines_at.Goals as goal

pub places-preserved : goal.places-preserved
places-preserved c =
    let f = class_line_at (ground_of c.args.ground.now) in
    let pushed : c.push_line_at.new.made.items ≡ c.places.made.items ++ class_line_at (ground_of c.args.ground.now) (get_or c.args.places.now c.places.place-index 0) = search rules in
    pushed ∙ ap (λ (xs : List ClassLine). xs ++ f (get_or c.args.places.now c.places.place-index 0)) c.places.invariant ∙ sym (of_elements f c.args.places.now c.places.place-index 0 c.places-test.true)
