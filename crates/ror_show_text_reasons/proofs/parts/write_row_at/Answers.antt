use Rattle.std.proofs.Common.{◌≡◌, true, false, rules, sym}
use Rattle.std.proofs.lemmas.Bool.{ltb-true}
use Rattle.std.proofs.lemmas.Result.{on_ok_weaker}
use Rattle.ror_check.proofs.Checking.{slice_get-at}
use Rattle.ror_check.specs.Repair.{is_among}
use Rattle.ror_show_find_classes.proofs.ValueLemmas.{none_there, one_there}
use Rattle.ror_show_find_proofs.specs.Weights.{weights_of}
use Rattle.ror_show_text_reasons.specs.Parts.{line_at, said_text, row_by}
use Rattle.ror_show_text_reasons.proofs.SceneLemmas.{not_named, row_named}
use Rattle.ror_show_text_reasons.proofs.parts.write_row_at.Goals as goal

pub returns-in_default : goal.returns-in_default
returns-in_default c =
    let sc = c.args.scene.now in
    let y = c.args.case.now in
    none_there (row_by sc.table.now sc.lines.now y.numbers.now c.args.owners.now y.answer.now.verdict c.args.k) sc.list.now c.args.k c.args.text.now.items c.in_default.ensures.lookup.0

pub returns-then-not-is_among : goal.returns-then-not-is_among
returns-then-not-is_among c =
    let sc = c.args.scene.now in
    let y = c.args.case.now in
    let k = c.args.k in
    let x = c.in-Some.x.now in
    let old = c.args.text.now.items in
    let v = y.answer.now.verdict in
    let is : is_among y.numbers.now x ≡ false = search rules in
    one_there (row_by sc.table.now sc.lines.now y.numbers.now c.args.owners.now v k) sc.list.now k x old old (slice_get-at sc.list.now k x (ltb-true k _ (sym c.in-Some.ensures.lookup.0)) c.in-Some.ensures.lookup.1)
    (not_named sc.table.now (line_at sc.lines.now k) c.args.owners.now v x (is_among y.numbers.now x) old is)

pub returns : goal.returns
returns c =
    let sc = c.args.scene.now in
    let y = c.args.case.now in
    let k = c.args.k in
    let x = c.in-Some.x.now in
    let old = c.args.text.now.items in
    let v = y.answer.now.verdict in
    let is : is_among y.numbers.now x ≡ true = search rules in
    let said : c.as_slice.result.now ≡ said_text (line_at sc.lines.now k) (weights_of x.number c.args.owners.now v) = search rules in
    on_ok_weaker c.write_one.result
    (λ last. one_there (row_by sc.table.now sc.lines.now y.numbers.now c.args.owners.now v k) sc.list.now k x old c.write_one.new.text.items (slice_get-at sc.list.now k x (ltb-true k _ (sym c.in-Some.ensures.lookup.0)) c.in-Some.ensures.lookup.1)
    (row_named sc.table.now (line_at sc.lines.now k) c.args.owners.now v x (is_among y.numbers.now x) c.as_slice.result.now old c.write_one.new.text.items is said last))
    c.write_one.ensures
