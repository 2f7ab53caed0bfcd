use Rattle.std.proofs.Common.{refl, ap}
use Rattle.ror_table.specs.Table.{Criterion, DecisionTable}
use Rattle.ror_table.specs.Contents.{criterion_of}
use Rattle.ror_table.proofs.DraftLemmas.{entries_place, entries_known}
use Rattle.ror_table.proofs.draft.Draft.find_criterion.Goals as goal

pub returns-clause-found : goal.returns-clause-found
returns-clause-found c =
    entries_place criterion_of (λ (x : Criterion). x.id) (λ e. refl) c.self.inside.criteria.entries c.args.self.now.criteria c.args.id.now c.get_index_of.result (ap (λ (t : DecisionTable). t.criteria) c.self.view_is) c.get_index_of.ensures.index

pub returns-clause-known : goal.returns-clause-known
returns-clause-known c =
    entries_known criterion_of (λ (x : Criterion). x.id) (λ e. refl) c.self.inside.criteria.entries c.args.self.now.criteria c.args.id.now _ (ap (λ (t : DecisionTable). t.criteria) c.self.view_is) c.get_index_of.ensures.found
