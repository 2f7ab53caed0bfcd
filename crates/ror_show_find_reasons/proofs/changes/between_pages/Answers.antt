use Rattle.std.proofs.Common.{List, ap, subst, ◌∙◌}
use Rattle.std.proofs.lemmas.Result.{IfOk-weaker}
use Rattle.ror_show_find_relation.specs.Relations.{Square}
use Rattle.ror_show_find_relation.specs.declared.cell.Cell.{Cell}
use Rattle.ror_show_find_relation.specs.Pages.{known}
use Rattle.ror_show_find_reasons.specs.Pairs.{IsBetween}
use Rattle.ror_show_find_reasons.proofs.changes.between_pages.Goals as goal

pub returns : goal.returns
returns c =
    let first = c.args.first.now in
    let second = c.args.second.now in
    let before = c.in_ok-before.ensures ∙ ap (λ (rs : List (List Cell)). known rs) c.as_slice.ensures in
    let now = c.in_ok-now.ensures ∙ ap (λ (rs : List (List Cell)). known rs) c.as_slice-2.ensures in
    IfOk-weaker c.between_known.result _ _
    (λ found is. subst (λ (r : Square). IsBetween r (known second.rows) found) before (subst (λ (r : Square). IsBetween c.in_ok-before.before r found) now is))
    c.between_known.ensures
