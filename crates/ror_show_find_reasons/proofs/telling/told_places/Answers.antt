-- One answer more.
use Rattle.ror_show_find_reasons.proofs.ToldLemmas.{left_more, told_more}
use Rattle.ror_show_find_reasons.proofs.telling.told_places.Goals as goal

pub answers-preserved : goal.answers-preserved
answers-preserved c =
    let xs = c.args.answers.now in
    let k = c.answers.k in
    let x = c.index-answers-k.result in
    let left = c.answers.left in (
      left_more xs k x left c.left_with-left.result c.answers-test.true c.index-answers-k.is c.answers.invariant.0 c.left_with-left.ensures,
      told_more c.args.meant xs k x c.is_told-is_told.result left c.answers.places.items c.push_if.new.places.items c.answers-test.true c.index-answers-k.is c.answers.invariant.0 c.is_told-is_told.ensures c.answers.invariant.1 c.in_ok-push_if.ensures,
    )
