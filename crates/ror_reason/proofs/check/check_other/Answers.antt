use Rattle.std.proofs.Common.{◌∙◌, sym, ap, subst}
use Rattle.ror_value.specs.Over.{IsLawfulIn}
use Rattle.ror_reason.specs.Reducts.{stated, without}
use Rattle.ror_reason.proofs.Parts.{stated_lawful}
use Rattle.ror_reason.proofs.check.check_other.Goals as goal

pub check_answer-requires-clause-lawful : goal.check_answer-requires-clause-lawful
check_answer-requires-clause-lawful c =
    let list = c.args.list.now in
    let is = c.as_slice-statements.ensures.value ∙ c.in_ok-part.ensures ∙ ap (λ ns. stated ns list) (c.as_slice.ensures.value ∙ c.in_ok-rest.ensures) in
    subst (IsLawfulIn c.args.table.now) (sym is) (stated_lawful c.args.table.now list (without c.args.other.number c.args.numbers.now) c.requires.lawful)
