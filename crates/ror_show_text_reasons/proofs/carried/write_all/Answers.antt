use Rattle.std.proofs.Common.{◌++◌}
use Rattle.std.proofs.lemmas.Result.{on_ok_weaker}
use Rattle.ror_show_text_reasons.specs.Parts.{rows_text, part_sum}
use Rattle.ror_show_text_reasons.specs.Reasons.{head_text, needed_text, tail_text}
use Rattle.ror_show_kit.proofs.Pieces.{two_more, four_more}
use Rattle.ror_show_text_reasons.proofs.carried.write_all.Goals as goal

pub returns : goal.returns
returns c =
    let sc = c.args.scene.now in
    let t = sc.table.now in
    let x = c.args.case.now in
    let q = x.answer.now.question in
    let v = x.answer.now.verdict in
    let ns = x.numbers.now in
    let head = head_text t q c.args.clashes in
    let rows = rows_text t sc.list.now sc.lines.now ns q v in
    let sum = part_sum t sc.list.now ns q v in
    let needed = needed_text t q c.args.clashes ns x.others.now in
    let so_far = four_more head rows sum needed c.args.text.now.items c.write_head.new.text.items c.write_rows.new.text.items c.write_part_sum.new.text.items c.write_needed.new.text.items c.in_ok-write_head.ensures c.in_ok-write_rows.ensures c.in_ok-write_part_sum.ensures c.in_ok-write_needed.ensures in
    on_ok_weaker c.write_tail.result
    (λ last. two_more (head ++ rows ++ sum ++ needed) (tail_text sc.dropped c.args.clashes ns) c.args.text.now.items c.write_needed.new.text.items c.write_tail.new.text.items so_far last)
    c.write_tail.ensures
