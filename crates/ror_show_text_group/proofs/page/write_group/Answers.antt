use Rattle.std.proofs.lemmas.Result.{on_ok_weaker}
use Rattle.std.proofs.Common.{◌∙◌, ◌++◌, ℕ, List, ap}
use Rattle.std.specs.Prelude.{length}
use Rattle.ror_show_find_group.specs.declared.judge.JudgeFound.{JudgeFound}
use Rattle.ror_show_text_group.specs.Judges.{judges_text}
use Rattle.ror_show_text_group.specs.Text.{heard_text}
use Rattle.ror_show_kit.proofs.Pieces.{two_more}
use Rattle.ror_show_text_group.proofs.page.write_group.Goals as goal

pub returns : goal.returns
returns c =
    let t = c.args.table.now in
    let d = c.args.desks.now in
    let found = c.args.found.now in
    let old = c.args.text.now.items in
    let judges = c.in_ok-write_judges.ensures ∙ ap (λ (js : List JudgeFound). old ++ judges_text d js c.alternatives.result) c.as_slice.ensures ∙ ap (λ (n : ℕ). old ++ judges_text d found.judges n) c.alternatives.ensures.number in
    on_ok_weaker c.write_heard.result
    (λ last. two_more (judges_text d found.judges (length t.alternatives)) (heard_text t d found) c.args.text.now.items c.write_judges.new.text.items c.write_heard.new.text.items judges last)
    c.write_heard.ensures
