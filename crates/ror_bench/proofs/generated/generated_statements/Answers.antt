use Rattle.std.proofs.Common.{◌≡◌, ℕ, ◌+◌, ◌++◌, ◌∷◌, [], length, ap, sym, ◌∙◌, arith}
use Rattle.ror_session.specs.declared.session.Command.TheVariants.{State}
use Rattle.ror_bench.specs.Generated.{lines_from, judged}
use Rattle.ror_bench.proofs.GeneratedTable.{no_draws}
use Rattle.ror_bench.proofs.GeneratedSession.{statements_before, one_stated, statements_are, length-lines, length-statements}
use Rattle.ror_bench.proofs.generated.generated_statements.Goals as goal

pub loop-init : goal.loop-init
loop-init c = record { made = c.new-lines.ensures.items; seed = sym (no_draws c.args.draws.now.seed) }

pub loop-preserved : goal.loop-preserved
loop-preserved c =
    let t = c.args.table.now in
    let said = c.in_ok-statement.ensures in
    let pushed : c.push_line.new.lines.items ≡ c.loop.lines.items ++ record { number = 1 + length c.loop.lines.items; desk = 0; command = State (judged t c.draw-a.result c.draw-b.result) } ∷ [] = rw (sym said) c.in_ok-push_line.ensures in
    let step = one_stated t c.args.draws.now.seed c.loop.counter c.loop.draws.seed c.draw-a.new.self.seed c.draw-b.new.self.seed c.draw-a.result c.draw-b.result c.loop.lines.items c.push_line.new.lines.items c.loop.invariant.made c.loop.invariant.seed c.draw-a.ensures.seed c.draw-a.ensures.drawn c.draw-b.ensures.seed c.draw-b.ensures.drawn pushed in
    record { made = step.0; seed = step.1 }

pub returns : goal.returns
returns c =
    let t = c.args.table.now in
    let seed = c.args.draws.now.seed in
    let all : c.loop.counter ≡ 12 = omega arith in
    c.loop.invariant.made ∙ ap (λ (n : ℕ). lines_from 1 (statements_before t seed n)) all ∙ ap (lines_from 1) (statements_are t seed)

pub judged-requires : goal.judged-requires
judged-requires c =
    let a = c.draw-a.ensures.below in
    let b = c.draw-b.ensures.below in
    let count = c.requires.alternatives in
    record { table = c.requires.table; first = omega arith; second = omega arith; criteria = c.requires.criteria }

pub push_line-requires : goal.push_line-requires
push_line-requires c =
    let t = c.args.table.now in
    let seed = c.args.draws.now.seed in
    let lines = ap length c.loop.invariant.made ∙ length-lines 1 (statements_before t seed c.loop.counter) ∙ length-statements t seed c.loop.counter in
    let few = c.loop-test.true in
    omega (arith, lines, few)
