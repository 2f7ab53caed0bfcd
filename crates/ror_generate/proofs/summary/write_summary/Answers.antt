use Rattle.std.proofs.Common.{◌++◌, refl, sym, ap}
use Rattle.std.proofs.lemmas.Result.{err_from_is_err_and}
use Rattle.ror_frame.specs.Statuses.{accepted_text}
use Rattle.ror_generate.specs.Generating.{verdict_lines}
use Rattle.ror_frame.proofs.PrintLemmas.{cut, follow}
use Rattle.ror_generate.proofs.summary.write_summary.Goals as goal

pub returns-in_err-write_verdicts : goal.returns-in_err-write_verdicts
returns-in_err-write_verdicts g c =
    let p = err_from_is_err_and c.from_residual.result c.from_residual.ensures.1 in
    rw p.1 (cut _ _ _ _ _ _ _ c.in_err-write_verdicts.ensures refl)

pub returns : goal.returns
returns g c = follow _ _ _ _ _ _ _ _ _ _ c.in_ok-write_verdicts.ensures c.write_accepted.ensures (ap (λ accepted. verdict_lines c.args.number c.args.summary.now.verdicts ++ accepted_text accepted) (sym c.requires))
