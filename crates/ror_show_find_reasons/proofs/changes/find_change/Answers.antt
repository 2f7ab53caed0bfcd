use Rattle.std.proofs.Common.{ℕ, List, get_or, refl, subst, ◌∙◌}
use Rattle.ror_proof.specs.declared.answer.Answer.{Answer}
use Rattle.ror_show_find_relation.specs.Pages.{IsRelationPage}
use Rattle.ror_show_ground.specs.Ready.{IsReady}
use Rattle.ror_show_ground.proofs.Lists.{at_place}
use Rattle.ror_show_find_reasons.specs.Pairs.{AreCarriedWhere}
use Rattle.ror_show_find_reasons.proofs.Steps.{held_at}
use Rattle.ror_show_find_reasons.proofs.changes.find_change.Goals as goal

pub find_carried-requires : goal.find_carried-requires
find_carried-requires c =
    let g = c.args.ground.now in
    held_at (IsReady g.table.now) g.kept.now c.args.turn.1 _ c.requires.there.1 c.requires.judged.ready

pub returns : goal.returns
returns c =
    let g = c.args.ground.now in
    let earlier = get_or g.kept.now c.args.turn.0 c.index-ground-turn.result in
    let later = get_or g.kept.now c.args.turn.1 c.index-ground-turn-2.result in
    let first = c.in_ok-first.first in
    let second = c.in_ok-second.second in
    record {
      earlier = earlier;
      later = later;
      earlier_there = at_place g.kept.now c.args.turn.0 c.index-ground-turn.result c.requires.there.0;
      later_there = at_place g.kept.now c.args.turn.1 c.index-ground-turn-2.result c.requires.there.1;
      places = (refl, refl);
      first = subst (λ (xs : List Answer). IsRelationPage g.table.now xs first) c.answers_of.ensures c.in_ok-first.ensures;
      second = subst (λ (xs : List Answer). IsRelationPage g.table.now xs second) c.answers_of-2.ensures c.in_ok-second.ensures;
      pairs = c.in_ok-between.ensures.0;
      brought_by = subst (λ (pairs : List (ℕ × ℕ)). AreCarriedWhere c.args.sought g.table.now later pairs c.in_ok-carried.carried) (c.as_slice-pairs.ensures.value ∙ c.in_ok-between.ensures.1) c.in_ok-carried.ensures;
    }
