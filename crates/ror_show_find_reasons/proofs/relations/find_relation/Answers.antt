use Rattle.std.proofs.Common.{ℕ, List, get_or, refl, subst}
use Rattle.ror_proof.specs.declared.answer.Answer.{Answer}
use Rattle.ror_show_find_relation.specs.Pages.{IsRelationPage}
use Rattle.ror_show_ground.specs.Ready.{IsReady}
use Rattle.ror_show_ground.proofs.Lists.{at_place}
use Rattle.ror_show_find_reasons.specs.Pairs.{AreCarriedWhere}
use Rattle.ror_show_find_reasons.proofs.Steps.{held_at}
use Rattle.ror_show_find_reasons.proofs.relations.find_relation.Goals as goal

pub find_carried-requires : goal.find_carried-requires
find_carried-requires c =
    let g = c.args.ground.now in
    held_at (IsReady g.table.now) g.kept.now c.args.place _ c.requires.there c.requires.judged.ready

pub returns : goal.returns
returns c =
    let g = c.args.ground.now in
    let line = get_or g.kept.now c.args.place c.index-ground-place.result in
    let page = c.in_ok-relation.relation in
    record {
      line = line;
      there = at_place g.kept.now c.args.place c.index-ground-place.result c.requires.there;
      place = refl;
      relation = subst (λ (xs : List Answer). IsRelationPage g.table.now xs page) c.answers_of.ensures c.in_ok-relation.ensures;
      carried = subst (λ (arrows : List (ℕ × ℕ)). AreCarriedWhere c.args.sought g.table.now line arrows c.in_ok-carried.carried) c.as_slice-arrows.ensures c.in_ok-carried.ensures;
    }
