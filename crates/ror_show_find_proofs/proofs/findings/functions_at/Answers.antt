use Rattle.std.proofs.Common.{List, Some, get_or, refl, ap, ◌∙◌}
use Rattle.ror_bench.specs.declared.kept.KeptLine.{KeptLine}
use Rattle.ror_proof.specs.declared.answer.Answer.{Answer}
use Rattle.ror_check.proofs.Checking.{slice_get-at}
use Rattle.ror_show_find_proofs.specs.Findings.{functions_found}
use Rattle.ror_show_find_proofs.proofs.findings.functions_at.Goals as goal

pub returns-clause-found : goal.returns-clause-found
returns-clause-found c =
    let g = c.args.ground.now in
    let item = c.index-ground-place.result in
    let is = c.index-ground-place.is in
    record {
      line = get_or g.kept.now c.args.place item;
      there = slice_get-at g.kept.now c.args.place item c.requires is ∙ ap (λ (x : KeptLine). Some x) is;
      place = refl;
      functions = c.in_ok-functions.ensures.value ∙ ap (λ (xs : List Answer). functions_found g.table.now xs) c.answers_of.ensures;
    }
