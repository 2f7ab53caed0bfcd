use Rattle.std.proofs.Common.{drop}
use Rattle.serde_json.specs.View.{items_view}
use Rattle.ror_json.specs.Reading.{items_from}
use Rattle.ror_json.proofs.Lists.{ReadSoFar}
use Rattle.ror_json.proofs.formed.items_in.Given as goal

abbrev pub invariant-items : goal.invariant-items
invariant-items g l = ReadSoFar (g.T.Formed.reads l.table) l.list.items (drop l.item-index l.items) (items_from (g.T.Formed.reads l.table) 1 (items_view l.items))
