use Rattle.std.proofs.Common.{◌≡◌, ◌++◌, ◌+◌, ◌∷◌, [], pos, ap, ◌∙◌, sym, arith, rules}
use Rattle.ror_table.specs.Amounts.{whole}
use Rattle.ror_bench.specs.Generated.{raise, seed_after}
use Rattle.ror_bench.proofs.GeneratedTable.{no_draws, row_before, row_more, seed_more}
use Rattle.ror_bench.proofs.generated.generated_row.Goals as goal

pub loop-i-init : goal.loop-i-init
loop-i-init c = record { row = c.new-row.ensures.items; seed = sym (no_draws c.args.draws.now.seed) }

pub loop-i-preserved : goal.loop-i-preserved
loop-i-preserved c =
    let seed = c.args.draws.now.seed in
    let pushed : c.push.new.self.items ≡ c.loop-i.row.items ++ whole (pos (c.draw.result + raise c.args.a c.loop-i.i)) ∷ [] = search rules in
    record {
      row = row_more seed c.args.a c.loop-i.i c.loop-i.draws.seed c.draw.new.self.seed c.draw.result c.loop-i.row.items c.push.new.self.items c.loop-i.invariant.row c.loop-i.invariant.seed c.draw.ensures.seed c.draw.ensures.drawn pushed;
      seed = seed_more seed c.loop-i.i c.loop-i.draws.seed c.draw.new.self.seed c.loop-i.invariant.seed c.draw.ensures.seed;
    }

pub returns : goal.returns
returns c =
    let four : c.loop-i.i ≡ 4 = omega arith in
    record { row = c.loop-i.invariant.row ∙ ap (row_before c.args.draws.now.seed c.args.a) four; seed = c.loop-i.invariant.seed ∙ ap (seed_after c.args.draws.now.seed) four }
