use Rattle.std.proofs.Common.{◌∙◌}
use Rattle.ror_confidence.specs.Levels.{is_within, list_at}
use Rattle.ror_confidence.proofs.Nested.{kept_end}
use Rattle.ror_confidence.proofs.levels.list_at.Goals as goal

pub returns : goal.returns
returns c =
    let standing = c.args.standing.now in
    let levels = c.args.levels.now in
    let level = c.args.level in
    c.from.ensures ∙ kept_end (is_within levels level) standing c.standing.x-index c.standing.list.items (list_at standing levels level) c.standing-test.false c.standing.invariant
