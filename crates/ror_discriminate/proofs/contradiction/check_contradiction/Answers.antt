use Rattle.std.proofs.Common.{refl}
use Rattle.ror_discriminate.proofs.Margins.{says_nothing, says_something}
use Rattle.ror_discriminate.proofs.Contradictory.{nothing_first, shown_passes, shown_by, multipliers_first}
use Rattle.ror_discriminate.specs.declared.fault.ContradictionFault.TheVariants as faults
use Rattle.ror_discriminate.proofs.contradiction.check_contradiction.Goals as goal

pub returns-then-strict-eq1-clause-refused : goal.returns-then-strict-eq1-clause-refused
returns-then-strict-eq1-clause-refused c =
    let t = c.args.table.now in
    let list = c.args.list.now in
    λ ne. nothing_first t list c.args.m.now (says_nothing t list c.in_ok-system.system _ c.in_ok-system.ensures.system c.strict.ensures.value c.if-strict-eq1.true)

pub returns-then-strict-eq1-clause-not_accepted : goal.returns-then-strict-eq1-clause-not_accepted
returns-then-strict-eq1-clause-not_accepted c = λ ne shown. shown_passes c.args.table.now c.args.list.now c.args.m.now faults.NoStrictRow shown (returns-then-strict-eq1-clause-refused c ne).fails

pub returns-in-Ok-clause-accepted : goal.returns-in-Ok-clause-accepted
returns-in-Ok-clause-accepted c =
    let t = c.args.table.now in
    let list = c.args.list.now in
    let says = says_something t list c.in_ok-system.system _ c.in_ok-system.ensures.system c.strict.ensures.value c.strict.ensures.form c.if-strict-eq1.false in
    shown_by t list c.args.m.now c.in_ok-system.system c.in_ok-system.ensures.system c.requires.lawful says (c.in-Ok.ensures.accepted.0 refl)

pub returns-clause-refused : goal.returns-clause-refused
returns-clause-refused c =
    let t = c.args.table.now in
    let list = c.args.list.now in
    let says = says_something t list c.in_ok-system.system _ c.in_ok-system.ensures.system c.strict.ensures.value c.strict.ensures.form c.if-strict-eq1.false in
    λ ne. multipliers_first t list c.args.m.now c.in_ok-system.system c.in-Err.reject c.in_ok-system.ensures.system says c.in-Err.ensures.rejected
