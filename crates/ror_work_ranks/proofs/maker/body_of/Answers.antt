use Rattle.std.proofs.Common.{subst}
use Rattle.ror_pivot.specs.Answers.{most_of}
use Rattle.ror_ranks_text.specs.declared.entry.EntryBody.TheVariants as bodies
use Rattle.ror_ranks_find.specs.RankingFaults.{IsDueFault}
use Rattle.ror_ranks_text.proofs.GivenTexts.{given_have_texts}
use Rattle.ror_work_ranks.proofs.maker.body_of.Goals as goal

pub returns-in-Ok-clause-printable : goal.returns-in-Ok-clause-printable
returns-in-Ok-clause-printable c =
    rw c.from.ensures (given_have_texts c.args.bits c.args.table.now c.args.list.now (bodies.Ranks c.in-Ok.extremes.items) c.requires.table c.requires.lawful c.in-Ok.ensures.given)

pub returns-in-Err-Contradictory-clause-printable : goal.returns-in-Err-Contradictory-clause-printable
returns-in-Err-Contradictory-clause-printable c =
    let m = c.in-Err-Contradictory.multipliers in
    let due = subst (IsDueFault (most_of c.args.bits) c.args.table.now c.args.list.now) c.in-Err-Contradictory.field-0-is c.in-Err-Contradictory.ensures.fault in
    given_have_texts c.args.bits c.args.table.now c.args.list.now (bodies.Contradiction m) c.requires.table c.requires.lawful due

pub returns-in-Err-BaseWide-clause-printable : goal.returns-in-Err-BaseWide-clause-printable
returns-in-Err-BaseWide-clause-printable c =
    let note = c.in-Err-BaseWide.note in
    let due = subst (IsDueFault (most_of c.args.bits) c.args.table.now c.args.list.now) c.in-Err-BaseWide.field-0-is c.in-Err-BaseWide.ensures.fault in
    given_have_texts c.args.bits c.args.table.now c.args.list.now (bodies.BaseWide note) c.requires.table c.requires.lawful due
