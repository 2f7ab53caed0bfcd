use Rattle.std.proofs.Common.{◌≡◌, ◌≤◌, ◌-◌}
use Rattle.ror_table.specs.Table.{steps}
use Rattle.ror_show_find_proofs.specs.Levels.{run_end}
use Rattle.ror_show_find_proofs.proofs.levels.last_of_run.Given as goal

abbrev pub invariant-run : goal.invariant-run
invariant-run l = record {
  within : l.last ≤ steps l.table l.fn.i;
  same : run_end l.table l.function l.fn.i (steps l.table l.fn.i - l.last) l.last ≡ run_end l.table l.function l.fn.i (steps l.table l.fn.i - l.fn.r) l.fn.r;
}

abbrev pub decreases-run : goal.decreases-run
decreases-run l = steps l.table l.fn.i - l.last
