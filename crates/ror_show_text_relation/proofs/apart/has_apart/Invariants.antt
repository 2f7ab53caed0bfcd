use Rattle.std.proofs.Common.{◌≡◌}
use Rattle.ror_show_find_relation.specs.Relations.{some_below}
use Rattle.ror_show_text_relation.specs.Apart.{is_apart}
use Rattle.ror_show_text_relation.proofs.apart.has_apart.Given as goal

abbrev pub invariant-loop-a : goal.invariant-loop-a
invariant-loop-a l = l.found ≡ some_below (is_apart l.rows) l.a
