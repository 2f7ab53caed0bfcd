use Rattle.ror_rows.proofs.Extending.{base_few}
use Rattle.ror_show_find_proofs.proofs.Systems.{first_usable}
use Rattle.ror_show_find_proofs.proofs.refutations.with_first.Goals as goal

pub with_extras-requires-clause-rows : goal.with_extras-requires-clause-rows
with_extras-requires-clause-rows c = base_few c.args.table.now c.args.list.now c.args.base c.requires.lawful c.requires.base

pub with_extras-requires-clause-few : goal.with_extras-requires-clause-few
with_extras-requires-clause-few c =
    let usable = first_usable c.args.table.now c.args.list.now c.args.question.now c.in_ok-systems.systems.items c.as_slice.result.now c.first-item.result c.in_ok-systems.ensures c.as_slice.ensures.value c.requires.lawful c.requires.asked c.in-len1-up.len_at_least c.first-item.is in
    rw c.as_slice-in-len1-up.ensures usable.0

pub with_extras-requires-clause-named : goal.with_extras-requires-clause-named
with_extras-requires-clause-named c =
    let usable = first_usable c.args.table.now c.args.list.now c.args.question.now c.in_ok-systems.systems.items c.as_slice.result.now c.first-item.result c.in_ok-systems.ensures c.as_slice.ensures.value c.requires.lawful c.requires.asked c.in-len1-up.len_at_least c.first-item.is in
    rw c.as_slice-in-len1-up.ensures usable.1
