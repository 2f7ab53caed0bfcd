-- What is found is above and has no level.
use Rattle.std.proofs.Common.{◌≡◌, true, None, rules, sym}
use Rattle.ror_show_find_relation.specs.Relations.{above}
use Rattle.ror_show_find_relation.specs.Levels.{level_at}
use Rattle.ror_show_find_relation.proofs.Passing.{some_open, is-none}
use Rattle.ror_show_find_relation.proofs.level.has_open_above.Goals as goal

pub returns-then-is_none : goal.returns-then-is_none
returns-then-is_none c =
    let over : above c.args.relation.now c.loop-c.c c.args.a ≡ true = search rules in
    let none : level_at c.args.found.now c.loop-c.c ≡ None = is-none (level_at c.args.found.now c.loop-c.c) (search rules) in
    sym (some_open c.args.relation.now c.args.found.now c.args.a c.loop-c.c over none)
