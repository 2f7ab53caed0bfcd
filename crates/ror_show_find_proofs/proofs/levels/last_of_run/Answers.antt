use Rattle.std.proofs.Common.{◌≡◌, ◌+◌, ◌-◌, true, false, sym, ◌∙◌, arith, rules}
use Rattle.ror_table.specs.Table.{steps}
use Rattle.ror_show_find_proofs.specs.Levels.{is_same_at}
use Rattle.ror_show_find_proofs.proofs.Runs.{run_stops, run_goes_on}
use Rattle.ror_show_find_proofs.proofs.levels.last_of_run.Goals as goal

pub returns-then-not-is_same_at-clause-value : goal.returns-then-not-is_same_at-clause-value
returns-then-not-is_same_at-clause-value c =
    let apart : is_same_at c.args.table.now c.args.function.now c.args.i c.run.last (c.run.last + 1) ≡ false = search rules in
    sym (run_stops c.args.table.now c.args.function.now c.args.i (steps c.args.table.now c.args.i - c.run.last) c.run.last apart) ∙ c.run.invariant.same

pub run-preserved : goal.run-preserved
run-preserved c =
    let same : is_same_at c.args.table.now c.args.function.now c.args.i c.run.last (c.run.last + 1) ≡ true = search rules in
    let on = run_goes_on c.args.table.now c.args.function.now c.args.i (steps c.args.table.now c.args.i) c.run.last (omega arith) same in
    record {
      within = omega arith;
      same = sym on ∙ c.run.invariant.same;
    }
