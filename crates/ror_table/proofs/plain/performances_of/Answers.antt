use Rattle.std.proofs.Common.{map, refl}
use Rattle.std.proofs.lemmas.Result.{err_from_is_err_and}
use Rattle.ror_table.proofs.PlainLemmas.{AreReadBefore-none, number_read, number_missed}
use Rattle.ror_table.proofs.plain.performances_of.Goals as goal

pub returns-in_err-performance-clause-exact : goal.returns-in_err-performance-clause-exact
returns-in_err-performance-clause-exact c =
    let p = err_from_is_err_and c.from_residual.result c.from_residual.ensures.1 in
    let e = c.in_err-performance.ensures in
    let missed = number_missed c.args.version c.args.words.now c.loop-word.word-index c.loop-word.performances.items _ c.read_performance.result c.loop-word.invariant c.loop-word-test.true c.read_performance.ensures.value e.0 in
    rw (p.1, p.2, e.1, c.fault.ensures, missed) refl

pub loop-word-init : goal.loop-word-init
loop-word-init c = rw c.new-performances.ensures.items (AreReadBefore-none c.args.version (map (λ word. word.now) c.args.words.now))

pub loop-word-preserved : goal.loop-word-preserved
loop-word-preserved c =
    let p = c.in_ok-performance.performance in
    number_read c.args.version c.args.words.now c.loop-word.word-index c.loop-word.performances.items c.push.new.self.items _ c.read_performance.result p c.loop-word.invariant c.loop-word-test.true c.read_performance.ensures.value c.in_ok-performance.ensures c.read_performance.ensures.amount c.in_ok-push.ensures.items
