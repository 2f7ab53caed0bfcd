use Rattle.ror_work_json.proofs.Writing.{replayed_json_proved, report_has_json}
use Rattle.ror_work_json.proofs.Judging.{rejection_or_proof}
use Rattle.ror_work_json.proofs.laws.written_is_accepted.Goals as goal

pub returns-clause-proved : goal.returns-clause-proved
returns-clause-proved c = replayed_json_proved

pub returns-clause-not_rejected : goal.returns-clause-not_rejected
returns-clause-not_rejected c = λ most bench lines bytes accepted rejection table short written rejected.
    rejection_or_proof bench lines bytes rejection accepted table rejected short (replayed_json_proved most bench lines bytes accepted table written)

pub returns-clause-of_report : goal.returns-clause-of_report
returns-clause-of_report c = report_has_json
