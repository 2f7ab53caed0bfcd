use Rattle.std.proofs.Common.{◌++◌, List, ap, ◌∙◌}
use Rattle.std.proofs.lemmas.Result.{on_ok_weaker}
use Rattle.ror_proof.specs.declared.answer.Answer.{Answer}
use Rattle.ror_report.specs.Text.{answers_of}
use Rattle.ror_show_kit.proofs.Pieces.{two_more}
use Rattle.ror_show_text_functions.specs.Pages.{head_text, shown_text}
use Rattle.ror_show_text_functions.proofs.page.write_below.Goals as goal

pub returns : goal.returns
returns c =
    let g = c.args.ground.now in
    let line = c.args.line.now in
    let found = c.args.found.now in
    let head = c.write_head.new.text.items in
    on_ok_weaker c.write_shown.result
    (λ last. two_more (head_text g.session.now line) (shown_text g.table.now (answers_of line.block.body) found) c.args.text.now.items head c.write_shown.new.text.items c.in_ok-write_head.ensures
    (last ∙ ap (λ (xs : List Answer). head ++ shown_text g.table.now xs found) c.answers_of.ensures))
    c.write_shown.ensures
