-- What an accepted certificate says of a session's report.
use Rattle.std.specs.Prelude.{◌≡◌, ℕ, ◌+◌, List, take, length, slice_get, Option, Some}
use Rattle.std.specs.List.{AllByRecursion}
use Rattle.ror_statement.specs.declared.question.Conclusion.{Conclusion}
use Rattle.ror_value.specs.declared.input.Input.{Input}
use Rattle.ror_session.specs.declared.session.Asked.{Asked}
use Rattle.ror_session.specs.declared.session.Command.TheVariants.{Ask}
use Rattle.ror_session.specs.declared.session.Line.{Line}
use Rattle.ror_session.specs.declared.session.Session.{Session}
use Rattle.ror_proof.specs.declared.answer.Answer.{Answer}
use Rattle.ror_report.specs.declared.block.Block.{Block}
use Rattle.ror_report.specs.declared.block.Body.TheVariants.{Answers}
use Rattle.ror_history.specs.History.{standing}
use Rattle.ror_bench.specs.declared.report.Accepted.{Accepted}
use Rattle.ror_bench.specs.Desks.{with_blocks}
use Rattle.ror_bench.specs.Reports.{revisions_then, IsAcceptedReport}
use Rattle.ror_reason.specs.Reducts.{IsReduct, Concludes}
use Rattle.ror_show_forms.specs.declared.certificate.Certificate.{Certificate}
use Rattle.ror_show_forms.specs.CertificateText.{IsCertificatesText}
use Rattle.ror_frame.specs.Inputs.{bench_for}

-- The certificate names a line of the session that asks, and by its place, from 1, an answer in that line's block. Over what stood at
-- the line's desk then, the statements with its numbers carry that answer, and none of them can be spared.
pub record IsTrueCertificate (i : Input) (s : Session) (blocks : List Block) (x : Certificate) : Type 0 where
  pub n : ℕ
  pub line : Line
  pub line_there : slice_get s.lines n ≡ Some line
  pub number : line.number ≡ x.line
  pub asked : Asked
  pub asks : line.command ≡ Ask asked
  pub block : Block
  pub block_there : slice_get blocks n ≡ Some block
  pub answers : List Answer
  pub body : block.body ≡ Answers answers
  pub before : ℕ
  pub place : x.place ≡ before + 1
  pub answer : Answer
  pub answer_there : slice_get answers before ≡ Some answer
  pub conclusion : Conclusion
  pub concludes : Concludes conclusion answer.verdict
  pub reduct : IsReduct i.table
      (standing (revisions_then (bench_for i s) (with_blocks (take n s.lines) (take n blocks)) line.desk))
      answer.question conclusion x.reduct.numbers

-- the report is proved, and its answers are true; the text is that of so many certificates, and each is true of the report
pub record AreTrueOf (i : Input) (s : Session) (text : Option (List ℕ)) (report : List ℕ) (count : ℕ) : Type 0 where
  pub accepted : Accepted
  pub is : IsAcceptedReport (bench_for i s) s.lines report accepted
  pub bytes : List ℕ
  pub given : text ≡ Some bytes
  pub certificates : List Certificate
  pub is_text : IsCertificatesText i.table bytes certificates
  pub all_true : AllByRecursion (IsTrueCertificate i s is.proved.blocks) certificates
  pub counted : count ≡ length certificates
