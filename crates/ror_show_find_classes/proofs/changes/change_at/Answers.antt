use Rattle.std.proofs.Common.{Some, sym, ap, ◌∙◌}
use Rattle.std.proofs.lemmas.Result.{IfOk-weaker}
use Rattle.ror_show_ground.proofs.Lists.{at_place}
use Rattle.ror_show_find_classes.proofs.changes.change_at.Goals as goal

pub returns : goal.returns
returns c =
    let times = c.args.times.now in
    let before = c.index-times-turn.result in
    let now = c.index-times-turn-2.result in
    IfOk-weaker c.change_between.result _ _
    (λ found is. record {
      before = before;
      now = now;
      before_there = at_place times c.args.turn.0 before c.requires.0 ∙ ap (λ x. Some x) (sym c.index-times-turn.is);
      now_there = at_place times c.args.turn.1 now c.requires.1 ∙ ap (λ x. Some x) (sym c.index-times-turn-2.is);
      is = is;
    })
    c.change_between.ensures
