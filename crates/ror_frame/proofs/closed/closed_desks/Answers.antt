use Rattle.std.proofs.Common.{List, length, sym, subst}
use Rattle.std.specs.List.{AllByRecursion}
use Rattle.ror_session.specs.declared.session.Line.{Line}
use Rattle.ror_bench.specs.Bench.{LeavesNumbers}
use Rattle.ror_closing.specs.Closing.{AreClosingLists, AreSuited, RefusesClosing}
use Rattle.ror_closing.proofs.ClosingLemmas.{closing_same}
use Rattle.ror_closing.proofs.LawLemmas.{one_first_unsuited}
use Rattle.ror_frame.specs.Inputs.{bench_for}
use Rattle.ror_frame.proofs.closed.closed_desks.Goals as goal

pub closing_lists-requires-clause-numbers : goal.closing_lists-requires-clause-numbers
closing_lists-requires-clause-numbers c =
    subst (λ (lines : List Line). AllByRecursion (LeavesNumbers (length lines)) c.in_ok-bench.bench.state) (sym c.as_slice.ensures) c.in_ok-bench.ensures.numbers

pub unreachable-requires : goal.unreachable-requires
unreachable-requires c =
    let lines = c.as_slice.result.now in
    let refused = subst (RefusesClosing lines) c.in-Err-Unsuited.field-0-is c.in-Err-Unsuited.ensures.refused in
    one_first_unsuited.not_suited lines c.in-Err-Unsuited.field-0-0 refused (subst AreSuited (sym c.as_slice.ensures) c.requires.suited)

pub returns-in-Ok-clause-closing : goal.returns-in-Ok-clause-closing
returns-in-Ok-clause-closing c =
    let i = c.args.input in
    let s = c.args.session.now in
    let lists = c.in-Ok.lists.items in
    let closing = closing_same c.in_ok-bench.bench (bench_for i s) c.in_ok-bench.ensures.begun c.as_slice.result.now lists c.in-Ok.ensures.closing in
    subst (λ (ls : List Line). AreClosingLists (bench_for i s) ls lists) c.as_slice.ensures closing
