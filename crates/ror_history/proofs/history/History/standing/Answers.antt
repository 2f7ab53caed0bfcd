use Rattle.std.proofs.Common.{◌∙◌, reverse, sym}
use Rattle.std.proofs.lemmas.Result.{IfOk-weaker}
use Rattle.ror_history.proofs.RevisionLemmas.{holds, sound, holds_standing, holds_few, holds_rows, holds_rising}
use Rattle.ror_history.proofs.history.History.standing.Goals as goal

pub listed-requires : goal.listed-requires
listed-requires c =
    let h = holds c.self.inside c.args.self.now c.self.invariant c.self.view_is in
    sound c.self.inside.chain.state (reverse c.self.inside.inverses.items) c.args.self.now.state h

pub returns-clause-listed : goal.returns-clause-listed
returns-clause-listed c =
    let h = holds c.self.inside c.args.self.now c.self.invariant c.self.view_is in
    IfOk-weaker c.listed.result _ _ (λ list e. e ∙ sym (holds_standing c.self.inside.chain.state (reverse c.self.inside.inverses.items) c.args.self.now.state h)) c.listed.ensures

pub returns-clause-few : goal.returns-clause-few
returns-clause-few c =
    let h = holds c.self.inside c.args.self.now c.self.invariant c.self.view_is in
    holds_few c.self.inside.chain.state (reverse c.self.inside.inverses.items) c.args.self.now.state h

pub returns-clause-rows : goal.returns-clause-rows
returns-clause-rows c =
    let h = holds c.self.inside c.args.self.now c.self.invariant c.self.view_is in
    holds_rows c.self.inside.chain.state (reverse c.self.inside.inverses.items) c.args.self.now.state h

pub returns-clause-rising : goal.returns-clause-rising
returns-clause-rising c =
    let h = holds c.self.inside c.args.self.now c.self.invariant c.self.view_is in
    holds_rising c.self.inside.chain.state (reverse c.self.inside.inverses.items) c.args.self.now.state h
