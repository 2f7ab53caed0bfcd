-- The certificates that a printer takes.
use Rattle.std.specs.Prelude.{◌<◌, ◌^◌}
use Rattle.std.specs.List.{AllByRecursion}
use Rattle.ror_table.specs.Table.{DecisionTable}
use Rattle.ror_reason.specs.declared.reducts.Reduct.{Reduct}
use Rattle.ror_report.specs.Printing.{HasValidQuestion, HasNarrowVerdict}
use Rattle.ror_show_forms.specs.declared.certificate.Certificate.{Certificate}

-- each answer is to a valid question of the table
abbrev pub HasValidQuestions : DecisionTable → Reduct → Type 0
HasValidQuestions t x = HasValidQuestion t x.answer × AllByRecursion (HasValidQuestion t) x.others

-- no number of their certificates is of absolute value above 2^127 - 1
abbrev pub HasNarrowAnswers : Reduct → Type 0
HasNarrowAnswers x = HasNarrowVerdict x.answer × AllByRecursion HasNarrowVerdict x.others

-- both, and the place of the answer is a number of 32 bits
pub record IsWritable (t : DecisionTable) (x : Certificate) : Type 0 where
  pub valid : HasValidQuestions t x.reduct
  pub narrow : HasNarrowAnswers x.reduct
  pub place : x.place < 2 ^ 32
