use Rattle.std.proofs.Common.{arith, ◌+◌, ◌<◌, length, get_or, refl}
use Rattle.std.proofs.lemmas.Result.{err_from_is_err_and}
use Rattle.ror_check.proofs.Checking.{slice_get-at}
use Rattle.ror_reason.proofs.Parts.{get_or-there}
use Rattle.ror_reason.proofs.FaultLemmas.{proved_more, others_refuse}
use Rattle.ror_reason.proofs.check.check_others.Goals as goal

pub returns-in_err-check_other-clause-err : goal.returns-in_err-check_other-clause-err
returns-in_err-check_other-clause-err c =
    let ns = c.args.numbers.now in
    let xs = c.args.others.now in
    let i = c.loop-place.place in
    let lt : i < length ns = c.loop-place-test.true in
    let as_many = c.requires.as_many in
    let exit = err_from_is_err_and c.from_residual.result c.from_residual.ensures.1 in
    rw (exit.1, exit.2) (others_refuse c.args.table.now c.args.list.now c.args.claim.question c.args.claim.conclusion ns xs i (i + 1) (get_or ns i 0) c.index-others-place.result c.in_err-check_other.field-0.0 refl c.loop-place.invariant
    (get_or-there ns i 0 lt)
    (slice_get-at xs i c.index-others-place.result (omega (arith, lt, as_many)) c.index-others-place.is)
    c.in_err-check_other.ensures.err)

pub loop-place-preserved : goal.loop-place-preserved
loop-place-preserved c =
    let ns = c.args.numbers.now in
    let xs = c.args.others.now in
    let i = c.loop-place.place in
    let lt : i < length ns = c.loop-place-test.true in
    let as_many = c.requires.as_many in
    proved_more c.args.table.now c.args.list.now c.args.claim.question c.args.claim.conclusion ns xs i (get_or ns i 0) c.index-others-place.result c.loop-place.invariant
    (get_or-there ns i 0 lt)
    (slice_get-at xs i c.index-others-place.result (omega (arith, lt, as_many)) c.index-others-place.is)
    c.in_ok-check_other.ensures.ok
