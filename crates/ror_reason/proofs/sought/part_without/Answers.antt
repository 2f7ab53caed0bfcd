use Rattle.std.proofs.Common.{◌∙◌, ap, subst}
use Rattle.std.specs.Prelude.{IfOk}
use Rattle.ror_reason.specs.Reducts.{without}
use Rattle.ror_reason.specs.SearchSteps.{IsDecidedPart}
use Rattle.ror_reason.proofs.sought.part_without.Goals as goal

pub returns-clause-ok : goal.returns-clause-ok
returns-clause-ok c =
    subst (λ ns. IfOk c.answered_part.result (IsDecidedPart c.args.sought.now ns)) (c.in_ok-numbers.ensures ∙ ap (without c.args.number) c.as_slice.ensures.value) c.answered_part.ensures.ok
