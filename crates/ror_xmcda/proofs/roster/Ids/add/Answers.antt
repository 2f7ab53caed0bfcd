use Rattle.ror_xmcda.proofs.RosterLemmas.{keys_added}
use Rattle.ror_xmcda.proofs.roster.Ids.add.Goals as goal

pub returns : goal.returns
returns c = keys_added c.self.inside.ids.keys c.insert.new.self.keys c.in_ok-from_str.field-0 c.args.self.now c.args.id.now c.self.view_is c.requires c.in_ok-from_str.ensures.ok c.in_ok-insert.ensures.keys
