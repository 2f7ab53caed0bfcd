use Rattle.std.proofs.Common.{[], ◌∷◌, reverse}
use Rattle.ror_history.proofs.FaultLemmas.{not_each_once}
use Rattle.ror_history.proofs.RevisionLemmas.{holds, sound, withdrawn, one_once, not_one_once}
use Rattle.ror_history.proofs.history.History.withdraw.Goals as goal

pub find-requires : goal.find-requires
find-requires c =
    let h = holds c.self.inside c.args.self.now c.self.invariant c.self.view_is in
    sound c.self.inside.chain.state (reverse c.self.inside.inverses.items) c.args.self.now.state h

pub returns-in_default-clause-refused : goal.returns-in_default-clause-refused
returns-in_default-clause-refused c =
    let h = holds c.self.inside c.args.self.now c.self.invariant c.self.view_is in
    not_each_once c.args.self.now.state (c.args.number ∷ []) (not_one_once c.self.inside.chain.state (reverse c.self.inside.inverses.items) c.args.self.now.state c.args.number h c.in_default.ensures)

pub invariant_of-self-2 : goal.invariant_of-self-2
invariant_of-self-2 c =
    let h = holds c.self.inside c.args.self.now c.self.invariant c.self.view_is in
    record {
      held = (withdrawn c.self.inside.chain.state c.unlink.new.self.state c.self.inside.inverses.items c.push.new.self.items c.in-Some.node c.args.number c.args.self.now.state h c.in-Some.ensures.1 c.in-Some.ensures.0 c.unlink.ensures.unlinked c.in_ok-push.ensures.items).held;
      scratch = c.self.invariant.scratch;
    }

pub returns-clause-withdrawn : goal.returns-clause-withdrawn
returns-clause-withdrawn c =
    let h = holds c.self.inside c.args.self.now c.self.invariant c.self.view_is in
    (withdrawn c.self.inside.chain.state c.unlink.new.self.state c.self.inside.inverses.items c.push.new.self.items c.in-Some.node c.args.number c.args.self.now.state h c.in-Some.ensures.1 c.in-Some.ensures.0 c.unlink.ensures.unlinked c.in_ok-push.ensures.items).is

pub returns-clause-allowed : goal.returns-clause-allowed
returns-clause-allowed c =
    let h = holds c.self.inside c.args.self.now c.self.invariant c.self.view_is in
    one_once c.self.inside.chain.state (reverse c.self.inside.inverses.items) c.args.self.now.state c.in-Some.node c.args.number h c.in-Some.ensures.1 c.in-Some.ensures.0
