use Rattle.std.proofs.Common.{ap, ◌∙◌, List, ℕ}
use Rattle.ror_table.specs.Table.{place_of}
use Rattle.ror_xmcda.proofs.RosterLemmas.{keys_place}
use Rattle.ror_xmcda.proofs.roster.Ids.place.Goals as goal

pub returns : goal.returns
returns c =
    c.get_index_of.ensures.index
    ∙ keys_place c.self.inside.ids.keys c.args.id.now
    ∙ ap (λ (ids : List (List ℕ)). place_of ids c.args.id.now) c.self.view_is
