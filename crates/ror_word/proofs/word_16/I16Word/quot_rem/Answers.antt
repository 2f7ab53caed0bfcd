use Rattle.std.proofs.Common.{rules}
use Rattle.std.proofs.lemmas.Int.{quot_fits, quot_rem_is}
use mir.Syntax.{w16}
use Rattle.ror_word.proofs.Quotients.{rounded_down}
use Rattle.ror_word.proofs.word_16.I16Word.quot_rem.Goals as goal

pub returns-then-rest-lt0-clause-exact : goal.returns-then-rest-lt0-clause-exact
returns-then-rest-lt0-clause-exact c =
    let fits = quot_fits w16 c.args.self c.args.by c.ranges.self c.requires.positive in
    let whole = quot_rem_is w16 c.args.self c.args.by c.ranges.self c.ranges.by fits in
    rounded_down w16 c.args.self c.args.by _ _ c.ranges.by whole (search rules) (search rules)
