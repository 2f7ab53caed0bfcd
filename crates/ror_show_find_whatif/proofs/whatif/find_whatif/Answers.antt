use Rattle.std.proofs.Common.{get_or, refl, ap, ◌∙◌, arith}
use Rattle.ror_text.proofs.Everywhere.{all_at}
use Rattle.ror_show_ground.specs.Ready.{IsReady}
use Rattle.ror_show_ground.proofs.Lists.{at_place}
use Rattle.ror_show_find_classes.specs.Signs.{alternative_of}
use Rattle.ror_show_find_whatif.specs.Agreement.{agreement_by}
use Rattle.ror_show_find_whatif.proofs.Placing.{few_of}
use Rattle.ror_show_find_whatif.proofs.whatif.find_whatif.Goals as goal

pub cases_over-requires-clause-ready : goal.cases_over-requires-clause-ready
cases_over-requires-clause-ready c =
    let g = c.args.ground.now in
    all_at (IsReady g.table.now) g.kept.now c.args.place (get_or g.kept.now c.args.place _) c.requires.judged.ready (at_place g.kept.now c.args.place _ c.requires.there)

pub cases_over-requires-clause-few : goal.cases_over-requires-clause-few
cases_over-requires-clause-few c =
    let g = c.args.ground.now in
    let few = c.requires.judged.few_answers in
    let least = few_of g.kept.now c.args.place (get_or g.kept.now c.args.place c.index-ground-place.result) (at_place g.kept.now c.args.place c.index-ground-place.result c.requires.there) in
    omega (arith, few, least)

pub returns : goal.returns
returns c =
    let g = c.args.ground.now in
    record {
      line = get_or g.kept.now c.args.place c.index-ground-place.result;
      there = at_place g.kept.now c.args.place c.index-ground-place.result c.requires.there;
      place = refl;
      alternative = c.alternative_of.ensures ∙ ap alternative_of c.answers_of-answers.ensures;
      agreement = c.agreement_by.ensures ∙ ap agreement_by c.answers_of-answers.ensures;
      cases = c.in_ok-cases.ensures;
    }
