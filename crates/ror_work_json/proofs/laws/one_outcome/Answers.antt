use Rattle.ror_work_json.proofs.Rejections.{one_json_count}
use Rattle.ror_work_json.proofs.Judging.{rejection_or_proof, one_rejection_of}
use Rattle.ror_work_json.proofs.laws.one_outcome.Goals as goal

pub returns-clause-not_proved : goal.returns-clause-not_proved
returns-clause-not_proved c = λ bench lines bytes rejection accepted table short rejected proved.
    rejection_or_proof bench lines bytes rejection accepted table rejected short proved

pub returns-clause-rejection : goal.returns-clause-rejection
returns-clause-rejection c = one_rejection_of

pub returns-clause-count : goal.returns-clause-count
returns-clause-count c = one_json_count
