use Rattle.std.proofs.Common.{reverse, sym}
use Rattle.ror_history.proofs.RevisionLemmas.{holds, holds_standing, holds_nodes}
use Rattle.ror_history.proofs.history.History.chain.Goals as goal

pub returns-clause-listed : goal.returns-clause-listed
returns-clause-listed c =
    let h = holds c.self.inside c.args.self.now c.self.invariant c.self.view_is in
    sym (holds_standing c.self.inside.chain.state (reverse c.self.inside.inverses.items) c.args.self.now.state h)

pub returns-clause-nodes : goal.returns-clause-nodes
returns-clause-nodes c =
    let h = holds c.self.inside c.args.self.now c.self.invariant c.self.view_is in
    holds_nodes c.self.inside.chain.state (reverse c.self.inside.inverses.items) c.args.self.now.state h
