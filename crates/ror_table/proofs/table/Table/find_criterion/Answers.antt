use Rattle.std.proofs.Common.{subst}
use Rattle.ror_table.specs.Table.{HasPlace, criterion_ids}
use Rattle.ror_table.specs.Index.{IsIndexed}
use Rattle.ror_table.proofs.NameLemmas.{place_of-has}
use Rattle.ror_table.proofs.table.Table.find_criterion.Goals as goal

pub returns-clause-named : goal.returns-clause-named
returns-clause-named c =
    let index = c.self.inside.index in
    let kept = subst (λ t. IsIndexed t index.levels.items c.self.inside.weights.items index.offsets.items index.columns) c.self.view_is c.self.invariant in
    place_of-has (criterion_ids c.args.self.now) c.args.id.now c.find_criterion.result kept.table.criterion_ids_distinct
    (subst (λ t. HasPlace (criterion_ids t) c.args.id.now c.find_criterion.result) c.self.view_is c.find_criterion.ensures.found)
