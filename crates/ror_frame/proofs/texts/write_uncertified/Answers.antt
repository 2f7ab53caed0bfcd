use Rattle.std.proofs.Common.{◌++◌, Ok, Err, refl, codes, decimal, append_assoc}
use Rattle.std.proofs.lemmas.Result.{err_from_is_err_and}
use Rattle.ror_frame.specs.Statuses.{certificate_reason_text}
use Rattle.ror_frame.proofs.PrintLemmas.{cut, follow}
use Rattle.ror_frame.proofs.texts.write_uncertified.Goals as goal

pub returns-in_err-write_numbered : goal.returns-in_err-write_numbered
returns-in_err-write_numbered g c =
    let p = err_from_is_err_and c.from_residual.result c.from_residual.ensures.1 in
    rw p.1 (cut _ _ _ _ _ _ _ c.in_err-write_numbered.ensures (append_assoc (codes "rejected: certificate " ++ decimal c.args.rejection.now.block ++ codes " ") (certificate_reason_text c.args.rejection.now.reason) (codes "\n")))

pub returns-in_err-write_certificate_reason : goal.returns-in_err-write_certificate_reason
returns-in_err-write_certificate_reason g c =
    let p = err_from_is_err_and c.from_residual-in_err-write_certificate_reason.result c.from_residual-in_err-write_certificate_reason.ensures.1 in
    rw p.1 (cut _ _ _ _ _ _ _ (follow {A = Unit {0}} {E = Unit {0}} _ _ _ _ _ _ _ _ _ (Err tt) c.in_ok-write_numbered.ensures c.in_err-write_certificate_reason.ensures refl) refl)

pub returns : goal.returns
returns g c =
    follow _ _ _ _ _ _ _ _ _ _ (follow {A = Unit {0}} {E = Unit {0}} _ _ _ _ _ _ _ _ _ (Ok tt) c.in_ok-write_numbered.ensures c.in_ok-write_certificate_reason.ensures refl) c.write_text.ensures refl
