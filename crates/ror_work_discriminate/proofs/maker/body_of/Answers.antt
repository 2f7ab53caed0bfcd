use Rattle.std.proofs.Common.{rules, FitsSigned, [], subst, arith}
use Rattle.std.specs.Int.{w128}
use Rattle.std.proofs.lemmas.Int.{to_z-of_z}
use Rattle.ror_pivot.specs.Answers.{most_of}
use Rattle.ror_system.specs.System.{IsWellFormed}
use Rattle.ror_check.specs.Proof.{base_system}
use Rattle.ror_relation.proofs.NoteBounds.{well_formed}
use Rattle.ror_discriminate.specs.Discriminating.{IsRefuted, IsBaseWide, IsClimbWide, IsDueFault}
use Rattle.ror_discriminate.proofs.FoundBodies.{found_have_texts}
use Rattle.ror_work_discriminate.proofs.maker.body_of.Goals as goal

pub returns-in-Ok-clause-printable : goal.returns-in-Ok-clause-printable
returns-in-Ok-clause-printable c =
    let best = c.in-Ok.field-0 in
    let narrow = c.in-Ok.ensures.narrow in
    let one : FitsSigned w128 best.margin.least = search rules in
    let other : FitsSigned w128 best.margin.total = search rules in
    rw (to_z-of_z w128 _ one, to_z-of_z w128 _ other) (found_have_texts.best c.args.bits best.margin.least best.margin.total best.optimum narrow.0 narrow.1 c.in-Ok.ensures.found.narrow)

pub returns-in-Err-Contradictory-clause-printable :
    goal.returns-in-Err-Contradictory-clause-printable
returns-in-Err-Contradictory-clause-printable c =
    let m = c.in-Err-Contradictory.multipliers in
    let refuted : IsRefuted (most_of c.args.bits) c.args.table.now c.args.list.now m = subst (IsDueFault (most_of c.args.bits) c.args.table.now c.args.list.now) c.in-Err-Contradictory.field-0-is c.in-Err-Contradictory.ensures.fault in
    found_have_texts.contradiction c.args.bits m refuted.narrow_weak refuted.narrow_strict

pub returns-in-Err-BaseWide-clause-printable : goal.returns-in-Err-BaseWide-clause-printable
returns-in-Err-BaseWide-clause-printable c =
    let t = c.args.table.now in
    let list = c.args.list.now in
    let note = c.in-Err-BaseWide.note in
    let form : IsWellFormed (base_system t list) = well_formed t list c.requires.table c.requires.lawful [] (omega arith) tt in
    let wide : IsBaseWide (most_of c.args.bits) t list note = subst (IsDueFault (most_of c.args.bits) t list) c.in-Err-BaseWide.field-0-is c.in-Err-BaseWide.ensures.fault in
    found_have_texts.base_wide (base_system t list) note form wide.within

pub returns-in-Err-Wide-clause-printable : goal.returns-in-Err-Wide-clause-printable
returns-in-Err-Wide-clause-printable c =
    let t = c.args.table.now in
    let list = c.args.list.now in
    let note = c.in-Err-Wide.note in
    let form : IsWellFormed (base_system t list) = well_formed t list c.requires.table c.requires.lawful [] (omega arith) tt in
    let wide : IsClimbWide (most_of c.args.bits) t list note = subst (IsDueFault (most_of c.args.bits) t list) c.in-Err-Wide.field-0-is c.in-Err-Wide.ensures.fault in
    found_have_texts.climb_wide (base_system t list) note form wide.within
