use Rattle.std.proofs.Common.{reverse, arith}
use Rattle.ror_history.proofs.RevisionLemmas.{holds, holds_next}
use Rattle.ror_history.proofs.history.History.next_number.Goals as goal

pub overflow_add-result : goal.overflow_add-result
overflow_add-result c =
    let h = holds c.self.inside c.args.self.now c.self.invariant c.self.view_is in
    omega (arith, holds_next c.self.inside.chain.state (reverse c.self.inside.inverses.items) c.args.self.now.state h, c.nodes.ensures.counted)

pub overflow_cast-result : goal.overflow_cast-result
overflow_cast-result c =
    let h = holds c.self.inside c.args.self.now c.self.invariant c.self.view_is in
    omega (arith, holds_next c.self.inside.chain.state (reverse c.self.inside.inverses.items) c.args.self.now.state h, c.nodes.ensures.counted)

pub returns : goal.returns
returns c =
    let h = holds c.self.inside c.args.self.now c.self.invariant c.self.view_is in
    omega (arith, holds_next c.self.inside.chain.state (reverse c.self.inside.inverses.items) c.args.self.now.state h, c.nodes.ensures.counted)
