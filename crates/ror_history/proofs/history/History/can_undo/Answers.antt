use Rattle.std.proofs.Common.{rules, ◌≡◌, length}
use Rattle.ror_history.proofs.RevisionLemmas.{holds}
use Rattle.ror_history.proofs.UndoLemmas.{can_undo_is}
use Rattle.ror_history.proofs.history.History.can_undo.Goals as goal

pub returns : goal.returns
returns c =
    let count : c.len.result ≡ length c.self.inside.inverses.items = search rules in
    can_undo_is c.self.inside.chain.state c.self.inside.inverses.items c.args.self.now.state c.len.result (holds c.self.inside c.args.self.now c.self.invariant c.self.view_is).is count
