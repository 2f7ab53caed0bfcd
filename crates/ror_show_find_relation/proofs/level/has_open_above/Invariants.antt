use Rattle.std.proofs.Common.{◌≡◌, false}
use Rattle.ror_show_find_relation.specs.Relations.{some_below}
use Rattle.ror_show_find_relation.specs.Passes.{is_open_above}
use Rattle.ror_show_find_relation.proofs.level.has_open_above.Given as goal

abbrev pub invariant-loop-c : goal.invariant-loop-c
invariant-loop-c l = some_below (is_open_above l.relation l.found l.a) l.c ≡ false
