-- One statement more, and all of them.
use Rattle.std.proofs.Common.{◌≡◌, ◌++◌, None, get_or, refl, rules}
use Rattle.ror_show_find_roll.specs.declared.roll.Source.TheVariants.{File}
use Rattle.ror_show_find_roll.specs.Roll.{taken_one, taken_away}
use Rattle.ror_show_find_roll.proofs.Loops.{each_at, each_done}
use Rattle.ror_show_find_roll.proofs.entries.push_gone.Goals as goal

pub entries-preserved : goal.entries-preserved
entries-preserved c =
    let turn = c.args.step.now in
    let pushed : c.push_taken.new.gone.items ≡ c.entries.gone.items ++ taken_one c.args.step.now (get_or c.args.entries.now c.entries.entry-index (record { number = 0; said = File; instead_of = None })) = search rules in
    each_at (taken_one turn) (taken_away turn) (λ x xs. refl) c.entries.gone.items c.push_taken.new.gone.items (c.args.gone.now.items ++ taken_away turn c.args.entries.now) c.args.entries.now c.entries.entry-index (record { number = 0; said = File; instead_of = None }) c.entries-test.true pushed c.entries.invariant

pub returns : goal.returns
returns c =
    let turn = c.args.step.now in
    each_done (taken_away turn) refl c.entries.gone.items (c.args.gone.now.items ++ taken_away turn c.args.entries.now) c.args.entries.now c.entries.entry-index c.entries-test.false c.entries.invariant
