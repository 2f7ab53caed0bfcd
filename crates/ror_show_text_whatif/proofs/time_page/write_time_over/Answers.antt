use Rattle.std.proofs.Common.{ℕ, List, [], ◌∷◌, ◌++◌, ap, ◌∙◌}
use Rattle.ror_show_kit.proofs.Pieces.{four_more}
use Rattle.ror_show_find_whatif.specs.declared.whatif.WhatIf.{WhatIf}
use Rattle.ror_show_text_classes.specs.Text.{head_text}
use Rattle.ror_show_text_whatif.specs.Legends.{agreement_text}
use Rattle.ror_show_text_whatif.specs.Pages.{time_body}
use Rattle.ror_show_text_whatif.specs.Times.{agreement_over}
use Rattle.ror_show_text_whatif.proofs.time_page.write_time_over.Goals as goal

pub returns : goal.returns
returns c =
    let g = c.args.ground.now in
    let f = c.args.found.now in
    let rows = f.rows in
    let agreement = c.in_ok-extend_from_slice.ensures.items ∙ ap (λ (bs : List ℕ). c.write_head.new.text.items ++ bs) (c.agreement_text.ensures ∙ ap agreement_text (c.agreement_over.ensures ∙ ap agreement_over c.as_slice-lines.ensures)) in
    let body = c.in_ok-write_body.ensures ∙ ap (λ (fs : List WhatIf). c.extend_from_slice.new.self.items ++ time_body g.table.now fs) c.as_slice-lines.ensures in
    four_more (head_text g.session.now c.args.line.now f.time.last) (agreement_text (agreement_over rows)) (time_body g.table.now rows) (10 ∷ []) c.args.text.now.items c.write_head.new.text.items c.extend_from_slice.new.self.items c.write_body.new.text.items c.push.new.self.items c.in_ok-write_head.ensures agreement body c.in_ok-push.ensures.items
