use Rattle.std.proofs.lemmas.Result.{on_ok_weaker}
use Rattle.std.proofs.Common.{◌≡◌, ◌++◌, ℕ, List, ap, ◌∙◌, rules}
use Rattle.ror_show_ground.specs.Heads.{Head}
use Rattle.ror_show_ground.specs.Lines.{desk_at, stood_numbers}
use Rattle.ror_show_text_relation.specs.Text.{relation_text}
use Rattle.ror_show_text_relation.specs.Pages.{head_with}
use Rattle.ror_show_text_relation.proofs.page.write_relation.Goals as goal

pub returns : goal.returns
returns c =
    let old = c.args.text.now.items in
    let t = c.args.ground.now.table.now in
    let s = c.args.ground.now.session.now in
    let x = c.args.line.now in
    let page = c.args.relation.now in
    let stood : c.as_slice.result.now ≡ stood_numbers c.args.line.now = search rules in
    let desk = ap (λ (d : List ℕ). old ++ relation_text t (head_with x d c.as_slice.result.now) page) c.desk_at.ensures in
    let numbers = ap (λ (ns : List ℕ). old ++ relation_text t (head_with x (desk_at s x) ns) page) stood in
    on_ok_weaker c.print_relation.result
    (λ is. is ∙ ap (λ (h : Head). old ++ relation_text t h page) c.heading_with-heading.ensures ∙ desk ∙ numbers)
    c.print_relation.ensures
