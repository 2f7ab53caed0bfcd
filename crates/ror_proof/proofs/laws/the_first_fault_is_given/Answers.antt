use Rattle.ror_proof.proofs.LineFaults.{answer_err, answer_fails}
use Rattle.ror_proof.proofs.RepairFaults.{kept_err, kept_fails}
use Rattle.ror_proof.proofs.laws.the_first_fault_is_given.Goals as goal

pub returns-clause-of_answers : goal.returns-clause-of_answers
returns-clause-of_answers c = λ t from fault. (answer_err t from fault, answer_fails t from fault)

pub returns-clause-of_repairs : goal.returns-clause-of_repairs
returns-clause-of_repairs c = λ t from fault. (kept_err t from fault, kept_fails t from fault)
