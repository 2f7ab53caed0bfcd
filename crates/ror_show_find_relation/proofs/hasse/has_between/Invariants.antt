use Rattle.std.proofs.Common.{◌≡◌, false}
use Rattle.ror_show_find_relation.specs.Relations.{some_below}
use Rattle.ror_show_find_relation.specs.Arrows.{is_between}
use Rattle.ror_show_find_relation.proofs.hasse.has_between.Given as goal

abbrev pub invariant-loop-c : goal.invariant-loop-c
invariant-loop-c l = some_below (is_between l.relation l.a l.b) l.c ≡ false
