use Rattle.std.proofs.Common.{◌<◌, length, ap, subst, arith}
use Rattle.ror_elements.specs.Tree.{tree_of}
use Rattle.ror_xmcda.proofs.LawfulLemmas.{IsPlace, standing_at_within}
use Rattle.ror_xmcda.proofs.affectations.class_at.Goals as goal

pub class_of-requires-clause-kept : goal.class_of-requires-clause-kept
class_of-requires-clause-kept c =
    let found = standing_at_within c.args.categories.now.ids (tree_of c.args.element.now) c.in_ok-standing_at.field-0 c.in_ok-standing_at.ensures in
    let within : c.in-Some.place < length c.args.categories.now.ids.kept = subst (IsPlace (length c.args.categories.now.ids.kept)) c.in-Some.is found in
    omega (arith, within, c.requires.paired, ap length c.as_slice.ensures)
