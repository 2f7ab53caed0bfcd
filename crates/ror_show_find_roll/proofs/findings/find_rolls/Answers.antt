-- One desk more.
use Rattle.std.proofs.Common.{arith, []}
use Rattle.std.specs.Option.{option_map}
use Rattle.ror_show_ground.specs.Grounds.{ground_of}
use Rattle.ror_show_ground.proofs.Tests.{pieces_more}
use Rattle.ror_show_find_roll.specs.Findings.{roll_if}
use Rattle.ror_show_find_roll.proofs.findings.find_rolls.Goals as goal

pub push_roll-requires-clause-desk : goal.push_roll-requires-clause-desk
push_roll-requires-clause-desk c =
    let few = c.requires.few_desks in
    let all = c.as_slice-desks.ensures in
    let within = c.desks-test.true in
    grind (arith, few, all, within)

pub desks-preserved : goal.desks-preserved
desks-preserved c =
    pieces_more (roll_if (option_map (λ word. word.now) c.args.meant) (ground_of c.args.ground.now)) c.desks.desk [] c.desks.made.items c.push_roll.new.made.items c.desks.invariant c.in_ok-push_roll.ensures
