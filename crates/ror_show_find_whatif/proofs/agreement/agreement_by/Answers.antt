use Rattle.std.proofs.Common.{rules, ◌≡◌, Some, None, sym, ap, ◌∙◌}
use Rattle.std.specs.List.{find}
use Rattle.ror_show_find_whatif.specs.Agreement.{agreement_in, agreement_of, is_concluded}
use Rattle.ror_show_find_whatif.proofs.agreement.agreement_by.Goals as goal

pub returns-in-Some : goal.returns-in-Some
returns-in-Some c =
    let there : find is_concluded c.args.answers.now ≡ Some c.in-Some.answer.now = search rules in
    c.agreement_in.ensures ∙ ap agreement_in c.said_by.ensures ∙ sym (ap agreement_of there)

pub returns-in-None : goal.returns-in-None
returns-in-None c =
    let none : find is_concluded c.args.answers.now ≡ None = search rules in
    sym (ap agreement_of none)
