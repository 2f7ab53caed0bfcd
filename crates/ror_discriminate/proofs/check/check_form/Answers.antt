use Rattle.std.proofs.Common.{refl, subst}
use Rattle.ror_text.specs.FirstFault.{IsFirst}
use Rattle.ror_system.specs.Acceptance.{FailsMultipliers, IsEarlierTest}
use Rattle.ror_system.specs.declared.reject.Reject.TheVariants as rejects
use Rattle.ror_discriminate.proofs.Columns.{form_of, form_of_others}
use Rattle.ror_discriminate.proofs.check.check_form.Goals as goal

pub returns-in-NoStrict : goal.returns-in-NoStrict
returns-in-NoStrict c =
    let s = c.args.s.now in
    let m = c.args.m.now in
    let h = form_of s m.weak m.strict rejects.NoStrict (subst (IsFirst (FailsMultipliers s m.weak m.strict) IsEarlierTest) c.in-NoStrict.is c.in-Err.ensures.rejected) in
    (h.0, (λ no. absurd cc, λ some. absurd (h.1 some)))

pub returns-in_default-reject : goal.returns-in_default-reject
returns-in_default-reject c =
    let m = c.args.m.now in
    let other = c.in_default-reject in
    let h = form_of_others c.args.s.now m.weak m.strict c.in-Err.reject other.not-Length other.not-Negative other.not-NoStrict c.in-Err.ensures.rejected in
    (h.0, (λ yes. h.1, λ some. refl))
