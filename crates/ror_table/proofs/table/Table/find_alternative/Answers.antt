use Rattle.std.proofs.Common.{subst}
use Rattle.ror_table.specs.Table.{HasPlace, alternative_ids}
use Rattle.ror_table.specs.Index.{IsIndexed}
use Rattle.ror_table.proofs.NameLemmas.{place_of-has}
use Rattle.ror_table.proofs.table.Table.find_alternative.Goals as goal

pub returns-clause-named : goal.returns-clause-named
returns-clause-named c =
    let index = c.self.inside.index in
    let kept = subst (λ t. IsIndexed t index.levels.items c.self.inside.weights.items index.offsets.items index.columns) c.self.view_is c.self.invariant in
    place_of-has (alternative_ids c.args.self.now) c.args.id.now c.find_alternative.result kept.table.alternative_ids_distinct
    (subst (λ t. HasPlace (alternative_ids t) c.args.id.now c.find_alternative.result) c.self.view_is c.find_alternative.ensures.found)
