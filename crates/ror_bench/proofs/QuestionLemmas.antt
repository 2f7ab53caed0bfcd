-- That no answer is refused since its question is another.
use Rattle.std.proofs.Common.{◌≡◌, ◌≢◌, ℕ, List, [], ◌∷◌, ◌++◌, length, refl, sym, ap, subst}
use Rattle.ror_statement.specs.declared.statement.Statement.{Statement}
use Rattle.ror_table.specs.Table.{DecisionTable}
use Rattle.ror_session.specs.declared.session.Line.{Line}
use Rattle.ror_proof.specs.declared.answer.Answer.{Answer}
use Rattle.ror_proof.specs.declared.read.ProofFault.{ProofFault}
use Rattle.ror_proof.specs.declared.read.ProofFault.TheVariants as forms
use Rattle.ror_check.specs.Faults.{FailsAnswerAt}
use Rattle.ror_check.specs.declared.fault.CheckFault.{CheckFault}
use Rattle.ror_check.specs.declared.fault.CheckFault.TheVariants as checks
use Rattle.ror_report.specs.declared.block.Block.{Block}
use Rattle.ror_report.specs.Text.{answers_of}
use Rattle.ror_history.specs.History.{Revisions, statements_of}
use Rattle.ror_bench.specs.declared.bench.BlockFault.TheVariants as faults
use Rattle.ror_bench.specs.declared.report.Reason.{Reason}
use Rattle.ror_bench.specs.declared.report.Rejection.{Rejection}
use Rattle.ror_bench.specs.declared.report.Reason.TheVariants as reasons
use Rattle.ror_bench.specs.Bench.{Workbench}
use Rattle.ror_bench.specs.Reports.{revisions_then, IsOfItsQuestion, misread_reason, block_reason, RejectsNext, RejectsEnd, IsRejectedFrom, end_misread, ends_early, block_misread, refused, miscounted, one_too_many, at_line, at_end, later, not_utf8, no_header, in_blocks}
use Rattle.ror_bench.specs.Laws.{NoBlockOfAnother, NoReportOfAnother}

own_question : (t : DecisionTable) (list : List Statement) (xs : List Answer) (k : ℕ) (fault : CheckFault) → FailsAnswerAt t list xs k fault → fault ≢ checks.WrongQuestion
own_question t list xs k fault fails other =
    let here = subst (FailsAnswerAt t list xs k) other fails in here.first.fails refl

pub no_block_of_another : NoBlockOfAnother
no_block_of_another t r line block faults.WrongBlock fails = tt
no_block_of_another t r line block (faults.Answer k fault) fails = own_question t (statements_of r) (answers_of block.body) k fault fails
no_block_of_another t r line block (faults.Repair fault) fails = tt
no_block_of_another t r line block faults.Memory fails = tt

misread_own : (bytes : List ℕ) (fault : ProofFault) → IsOfItsQuestion (misread_reason bytes fault)
misread_own bytes (forms.BadLine place) = tt
misread_own bytes (forms.BadNumber place) = tt
misread_own bytes forms.Memory = tt

own_reason : (reason other : Reason) → reason ≡ other → IsOfItsQuestion other → IsOfItsQuestion reason
own_reason reason other is own = subst IsOfItsQuestion (sym is) own

next_own : (t : DecisionTable) (r : Revisions) (line : Line) (bytes : List ℕ) (from : ℕ) (reason : Reason) → RejectsNext t r line bytes from reason → IsOfItsQuestion reason
next_own t r line bytes from reason (end_misread fault begins read is) = own_reason reason (misread_reason bytes fault) is (misread_own bytes fault)
next_own t r line bytes from reason (ends_early n begins read is) = own_reason reason reasons.WrongBlock is tt
next_own t r line bytes from reason (block_misread fault begins read is) = own_reason reason (misread_reason bytes fault) is (misread_own bytes fault)
next_own t r line bytes from reason (refused b after fault begins read first is) = own_reason reason (block_reason fault) is (no_block_of_another t r line b fault first.fails)

end_own : (t : DecisionTable) (bytes : List ℕ) (from count : ℕ) (reason : Reason) → RejectsEnd t bytes from count reason → IsOfItsQuestion reason
end_own t bytes from count reason (end_misread fault begins read is) = own_reason reason (misread_reason bytes fault) is (misread_own bytes fault)
end_own t bytes from count reason (miscounted n begins read other is) = own_reason reason reasons.WrongBlock is tt
end_own t bytes from count reason (block_misread fault begins read is) = own_reason reason (misread_reason bytes fault) is (misread_own bytes fault)
end_own t bytes from count reason (one_too_many b after begins read is) = own_reason reason reasons.WrongBlock is tt

from_own : (bench : Workbench) (bytes : List ℕ) (rejection : Rejection) (before : List (Line × Block)) (lines : List Line) (from : ℕ) → IsRejectedFrom bench bytes rejection before lines from → IsOfItsQuestion rejection.reason
from_own bench bytes rejection _ _ _ (at_line before line lines from number rejects) = next_own bench.table (revisions_then bench before line.desk) line bytes from rejection.reason rejects
from_own bench bytes rejection _ _ _ (at_end before from number rejects) = end_own bench.table bytes from (length before) rejection.reason rejects
from_own bench bytes rejection _ _ _ (later before line lines from b after no_end read holds more) = from_own bench bytes rejection (before ++ (line, b) ∷ []) lines after more

pub no_report_of_another : NoReportOfAnother
no_report_of_another bench lines bytes rejection (not_utf8 none is) = own_reason rejection.reason reasons.NotUtf8 (ap (λ (r : Rejection). r.reason) is) tt
no_report_of_another bench lines bytes rejection (no_header text none is) = own_reason rejection.reason (reasons.BadLine 1) (ap (λ (r : Rejection). r.reason) is) tt
no_report_of_another bench lines bytes rejection (in_blocks text start header from) = from_own bench bytes rejection [] lines start from
