use Rattle.std.proofs.Common.{◌+◌, refl, subst}
use Rattle.std.proofs.lemmas.Result.{err_from_is_err_and}
use Rattle.ror_show_forms.specs.Answered.{IsProvedCertificate}
use Rattle.ror_show_forms.proofs.Refusals.{all_more, all_end, rejects}
use Rattle.ror_show_forms.proofs.check.check_certificates.Goals as goal

pub returns-in_err-check_block-clause-rejected : goal.returns-in_err-check_block-clause-rejected
returns-in_err-check_block-clause-rejected c =
    let p = err_from_is_err_and c.from_residual.result c.from_residual.ensures.1 in
    rw (p.1, p.2) (rejects c.args.table.now c.args.kept.now c.args.certificates.now c.certificates.k (c.certificates.k + 1) c.index-certificates-k.result c.in_err-check_block.field-0.0 c.certificates-test.true c.index-certificates-k.is refl c.certificates.invariant c.in_err-check_block.ensures.rejected)

pub certificates-preserved : goal.certificates-preserved
certificates-preserved c =
    let P = IsProvedCertificate c.args.table.now c.args.kept.now in
    all_more P c.args.certificates.now c.certificates.k c.index-certificates-k.result c.certificates-test.true c.certificates.invariant (subst P c.index-certificates-k.is c.in_ok-check_block.ensures.proved)

pub returns-clause-proved : goal.returns-clause-proved
returns-clause-proved c = all_end (IsProvedCertificate c.args.table.now c.args.kept.now) c.args.certificates.now c.certificates.k c.certificates-test.false c.certificates.invariant
