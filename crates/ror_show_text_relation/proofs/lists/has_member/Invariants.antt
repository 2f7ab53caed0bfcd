use Rattle.std.proofs.Common.{◌≡◌}
use Rattle.ror_show_find_relation.specs.Relations.{some_below}
use Rattle.ror_show_text_relation.specs.Text.{is_member}
use Rattle.ror_show_text_relation.proofs.lists.has_member.Given as goal

abbrev pub invariant-loop-a : goal.invariant-loop-a
invariant-loop-a l = l.found ≡ some_below (is_member l.page l.level) l.a
