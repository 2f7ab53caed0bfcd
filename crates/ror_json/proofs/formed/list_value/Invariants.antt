use Rattle.std.proofs.Common.{drop}
use Rattle.std.specs.List.{AllByRecursion}
use Rattle.ror_json.proofs.Lists.{FormsSoFar}
use Rattle.ror_json.proofs.formed.list_value.Given as goal

abbrev pub invariant-list : goal.invariant-list
invariant-list g l = record {
  formed : FormsSoFar (g.T.Formed.form l.table) l.values.items (drop l.one-index l.list) l.list;
  asked : AllByRecursion (g.T.Formed.asks l.table) (drop l.one-index l.list);
}
