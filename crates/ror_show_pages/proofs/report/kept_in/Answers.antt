use Rattle.std.proofs.lemmas.Result.{err_from_is_err_and}
use Rattle.ror_work.proofs.Judging.{rejected_as}
use Rattle.ror_show_pages.specs.Reads.{ReadsKept}
use Rattle.ror_show_pages.proofs.ReadLemmas.{kept_as}
use Rattle.ror_show_pages.proofs.report.kept_in.Goals as goal

pub returns-in_err-checked-clause-read : goal.returns-in_err-checked-clause-read
returns-in_err-checked-clause-read c =
    let p = err_from_is_err_and c.from_residual.result c.from_residual.ensures.1 in
    λ i held. rw (p.1, p.2) (rejected_as (ReadsKept c.args.keep.now i c.args.session.now) i c.args.session.now c.args.bench.now _ c.args.bytes.now _ held c.as_slice-lines.ensures c.requires.within c.in_err-checked.ensures.rejected c.in_err-checked.ensures.pure)

pub returns-clause-read : goal.returns-clause-read
returns-clause-read c =
    let checked = c.in_ok-checked.checked in
    λ i held. rw c.from.ensures (kept_as c.args.keep.now i c.args.session.now c.args.bench.now c.as_slice-lines.result.now c.args.bytes.now checked.0 checked.1.items held c.as_slice-lines.ensures c.requires.within c.in_ok-checked.ensures.accepted)
