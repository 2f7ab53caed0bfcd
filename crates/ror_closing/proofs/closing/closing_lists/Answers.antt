use Rattle.std.proofs.Common.{◌∙◌, ap, length, sym, subst}
use Rattle.std.proofs.lemmas.List.FromFn.{length-map-range_with_len}
use Rattle.ror_closing.specs.Closing.{AreClosingLists}
use Rattle.ror_closing.proofs.ClosingLemmas.{closing_of}
use Rattle.ror_closing.proofs.closing.closing_lists.Goals as goal

pub returns-clause-closing : goal.returns-clause-closing
returns-clause-closing c =
    let start = c.args.bench.now in
    let lines = c.args.lines.now in
    subst (AreClosingLists start lines) (sym c.in_ok-lists.ensures.listed) (closing_of start lines c.revise.new.bench c.in_ok-revise.ensures.revised)

pub returns-clause-count : goal.returns-clause-count
returns-clause-count c = ap length c.in_ok-lists.ensures.listed ∙ length-map-range_with_len _ 0 (length c.revise.new.bench.state) ∙ c.in_ok-revise.ensures.revised.desks ∙ c.requires.desks
