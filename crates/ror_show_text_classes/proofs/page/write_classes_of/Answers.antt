use Rattle.std.proofs.lemmas.Result.{on_ok_weaker}
use Rattle.std.proofs.Common.{◌++◌, List, ap, ◌∙◌}
use Rattle.ror_show_kit.proofs.Pieces.{three_more}
use Rattle.ror_show_ground.specs.Grounds.{ground_of}
use Rattle.ror_show_find_classes.specs.declared.findings.ClassLine.{ClassLine}
use Rattle.ror_show_find_reasons.specs.declared.bounds.Bounds.{Bounds}
use Rattle.ror_show_text_classes.specs.Text.{time_text}
use Rattle.ror_show_text_classes.specs.Pages.{gap, headed, bounds_lines}
use Rattle.ror_show_text_classes.proofs.page.write_classes_of.Goals as goal

pub returns : goal.returns
returns c =
    let t = c.args.ground.now.table.now in
    let f = c.args.classes.now in
    let below = c.write_time.new.text.items in
    let rows = ap (λ (rs : List ClassLine). below ++ headed (bounds_lines t rs c.as_slice.result.now)) c.as_slice-rows.ensures in
    let bounds = ap (λ (bs : List Bounds). below ++ headed (bounds_lines t f.time.rows bs)) c.as_slice.ensures in
    on_ok_weaker c.write_bounds.result
    (λ last. three_more (gap c.args.number) (time_text (ground_of c.args.ground.now) f.time) (headed (bounds_lines t f.time.rows f.bounds)) c.args.text.now.items c.write_gap.new.text.items below c.write_bounds.new.text.items c.in_ok-write_gap.ensures c.in_ok-write_time.ensures (last ∙ rows ∙ bounds))
    c.write_bounds.ensures
