use Rattle.std.proofs.Common.{ap}
use Rattle.std.proofs.lemmas.Result.{err_from_is_err_and}
use Rattle.ror_frame.specs.Statuses.{reason_text}
use Rattle.ror_frame.proofs.PrintLemmas.{cut, follow}
use Rattle.ror_frame.proofs.texts.write_reason.Goals as goal

pub returns-in_err-write_numbered-in-Answer : goal.returns-in_err-write_numbered-in-Answer
returns-in_err-write_numbered-in-Answer g c =
    let p = err_from_is_err_and c.from_residual.result c.from_residual.ensures.1 in
    rw p.1 (cut _ _ _ _ _ _ _ c.in_err-write_numbered-in-Answer.ensures (ap reason_text c.in-Answer.is))

pub returns-in_ok-write_numbered-in-Answer : goal.returns-in_ok-write_numbered-in-Answer
returns-in_ok-write_numbered-in-Answer g c =
    follow _ _ _ _ _ _ _ _ _ _ c.in_ok-write_numbered-in-Answer.ensures c.write_check_fault.ensures (ap reason_text c.in-Answer.is)

pub returns-in_err-write_text-in-Repair : goal.returns-in_err-write_text-in-Repair
returns-in_err-write_text-in-Repair g c =
    let p = err_from_is_err_and c.from_residual-in_err-write_text-in-Repair.result c.from_residual-in_err-write_text-in-Repair.ensures.1 in
    rw p.1 (cut _ _ _ _ _ _ _ c.in_err-write_text-in-Repair.ensures (ap reason_text c.in-Repair.is))

pub returns-in_ok-write_text-in-Repair : goal.returns-in_ok-write_text-in-Repair
returns-in_ok-write_text-in-Repair g c =
    follow _ _ _ _ _ _ _ _ _ _ c.in_ok-write_text-in-Repair.ensures c.write_repair_fault.ensures (ap reason_text c.in-Repair.is)

pub returns-in_err-write_text-in-Optimal : goal.returns-in_err-write_text-in-Optimal
returns-in_err-write_text-in-Optimal g c =
    let p = err_from_is_err_and c.from_residual-in_err-write_text-in-Optimal.result c.from_residual-in_err-write_text-in-Optimal.ensures.1 in
    rw p.1 (cut _ _ _ _ _ _ _ c.in_err-write_text-in-Optimal.ensures (ap reason_text c.in-Optimal.is))

pub returns-in_ok-write_text-in-Optimal : goal.returns-in_ok-write_text-in-Optimal
returns-in_ok-write_text-in-Optimal g c =
    follow _ _ _ _ _ _ _ _ _ _ c.in_ok-write_text-in-Optimal.ensures c.write_optimal_fault.ensures (ap reason_text c.in-Optimal.is)

pub returns-in_err-write_numbered-in-Rank : goal.returns-in_err-write_numbered-in-Rank
returns-in_err-write_numbered-in-Rank g c =
    let p = err_from_is_err_and c.from_residual-in_err-write_numbered-in-Rank.result c.from_residual-in_err-write_numbered-in-Rank.ensures.1 in
    rw p.1 (cut _ _ _ _ _ _ _ c.in_err-write_numbered-in-Rank.ensures (ap reason_text c.in-Rank.is))

pub returns-in_ok-write_numbered-in-Rank : goal.returns-in_ok-write_numbered-in-Rank
returns-in_ok-write_numbered-in-Rank g c =
    follow _ _ _ _ _ _ _ _ _ _ c.in_ok-write_numbered-in-Rank.ensures c.write_extreme_fault.ensures (ap reason_text c.in-Rank.is)
