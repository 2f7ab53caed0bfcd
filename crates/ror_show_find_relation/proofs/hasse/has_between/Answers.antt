-- What is found stands between.
use Rattle.std.proofs.Common.{◌≡◌, true, rules, sym}
use Rattle.ror_show_find_relation.specs.Relations.{above}
use Rattle.ror_show_find_relation.proofs.ArrowLemmas.{some_between}
use Rattle.ror_show_find_relation.proofs.hasse.has_between.Goals as goal

pub returns-then-is_above-2 : goal.returns-then-is_above-2
returns-then-is_above-2 c =
    let r = c.args.relation.now in
    let first : above c.args.relation.now c.args.a c.loop-c.c ≡ true = search rules in
    let second : above c.args.relation.now c.loop-c.c c.args.b ≡ true = search rules in
    sym (some_between r c.args.a c.args.b c.loop-c.c first second)
