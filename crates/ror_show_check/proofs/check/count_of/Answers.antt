use Rattle.std.proofs.Common.{rules, ◌≡◌, List, length, ap, subst, arith}
use Rattle.std.specs.List.{AllByRecursion}
use Rattle.std.proofs.lemmas.Result.{err_from_is_err_and}
use Rattle.ror_bench.specs.Reports.{IfRejected}
use Rattle.ror_show_forms.specs.declared.certificate.Certificate.{Certificate}
use Rattle.ror_show_forms.specs.Answered.{IsProvedCertificate, IsFirstUnproved}
use Rattle.ror_show_check.proofs.Checking.{misread_over, unproved_over, all_proved}
use Rattle.ror_show_check.proofs.check.count_of.Goals as goal

pub returns-in_err-certificates-clause-rejected : goal.returns-in_err-certificates-clause-rejected
returns-in_err-certificates-clause-rejected c =
    let p = err_from_is_err_and c.from_residual.result c.from_residual.ensures.1 in
    rw (p.1, p.2) (misread_over c.args.table.now c.args.kept.now c.args.bytes.now c.in_err-certificates.field-0.0 c.in_err-certificates.ensures.exact)

pub check_certificates-requires-clause-few : goal.check_certificates-requires-clause-few
check_certificates-requires-clause-few c =
    let same = ap length c.as_slice.ensures.value in
    let few = c.in_ok-certificates.ensures.few in
    let short = c.requires.within in
    omega (arith, same, few, short)

pub returns-in_err-check_certificates-clause-rejected : goal.returns-in_err-check_certificates-clause-rejected
returns-in_err-check_certificates-clause-rejected c =
    let p = err_from_is_err_and c.from_residual-in_err-check_certificates.result c.from_residual-in_err-check_certificates.ensures.1 in
    let e = c.in_err-check_certificates.field-0.0 in
    let first = subst (λ (xs : List Certificate). IfRejected (IsFirstUnproved c.args.table.now c.args.kept.now xs) e) c.as_slice.ensures.value c.in_err-check_certificates.ensures.rejected in
    rw (p.1, p.2) (unproved_over c.args.table.now c.args.kept.now c.args.bytes.now c.in_ok-certificates.certificates.items e c.in_ok-certificates.ensures.exact first)

pub returns-clause-proved : goal.returns-clause-proved
returns-clause-proved c =
    let counted : c.len.result ≡ length c.in_ok-certificates.certificates.items = search rules in
    let proved = subst (AllByRecursion (IsProvedCertificate c.args.table.now c.args.kept.now)) c.as_slice.ensures.value c.in_ok-check_certificates.ensures.proved in
    all_proved c.args.table.now c.args.kept.now c.args.bytes.now c.in_ok-certificates.certificates.items c.len.result c.in_ok-certificates.ensures.exact proved counted
