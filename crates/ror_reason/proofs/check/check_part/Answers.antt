use Rattle.std.proofs.Common.{◌∙◌, sym, subst}
use Rattle.ror_value.specs.Over.{IsLawfulIn}
use Rattle.ror_reason.proofs.Parts.{stated_lawful}
use Rattle.ror_reason.proofs.check.check_part.Goals as goal

pub check_answer-requires-clause-lawful : goal.check_answer-requires-clause-lawful
check_answer-requires-clause-lawful c =
    let is = c.as_slice.ensures.value ∙ c.in_ok-part.ensures in
    subst (IsLawfulIn c.args.table.now) (sym is) (stated_lawful c.args.table.now c.args.list.now c.args.numbers.now c.requires.lawful)
