-- The values of one line more.
use Rattle.std.proofs.Common.{◌≡◌, ◌++◌, get_or, ap, ◌∙◌}
use Rattle.ror_show_ground.specs.Grounds.{ground_of}
use Rattle.ror_show_kit.proofs.Pieces.{element_more}
use Rattle.ror_show_find_classes.specs.declared.findings.ClassLine.{ClassLine}
use Rattle.ror_show_forms.specs.ClassCsv.{class_values}
use Rattle.ror_show_forms.proofs.class_csv.write_classes_csv.Goals as goal

pub lines-preserved : goal.lines-preserved
lines-preserved c =
    let g = ground_of c.args.ground.now in
    let found = c.line-item.result in
    let pushed : c.write_line.new.text.items ≡ c.lines.text.items ++ class_values (ground_of c.args.ground.now) (get_or c.args.found.now c.lines.line-index c.line-item.result) =
    c.in_ok-write_line.ensures ∙ ap (λ (x : ClassLine). c.lines.text.items ++ class_values (ground_of c.args.ground.now) x) c.line-item.is in
    element_more (class_values g) c.args.found.now c.lines.line-index found c.args.text.now.items c.lines.text.items c.write_line.new.text.items c.lines-test.true c.lines.invariant pushed
