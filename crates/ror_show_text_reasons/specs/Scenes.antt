-- What a reason is read against, and its text.
use Rattle.std.specs.Prelude.{ℕ, List, Option, Some}
use Rattle.ror_statement.specs.declared.statement.Numbered.{Numbered}
use Rattle.ror_table.specs.Table.{DecisionTable}
use Rattle.ror_proof.specs.declared.answer.Answer.{Answer}
use Rattle.ror_reason.specs.declared.reducts.Reason.{Reason}
use Rattle.ror_reason.specs.declared.reducts.Reason.TheVariants as reasons
use Rattle.ror_reason.specs.declared.reducts.Reduct.{Reduct}
use Rattle.ror_show_text_reasons.specs.Reasons as texts
use Rattle.ror_show_text_reasons.specs.declared.scene.Scene as scenes
use Rattle.ror_show_text_reasons.specs.declared.scene.Case as cases

-- a table, what stood at a line, the line that said each statement of it, and which of them the reason is of where a repair dropped one
pub record Scene : Type 0 where
  pub table : DecisionTable
  pub list : List Numbered
  pub lines : List (Option ℕ)
  pub dropped : Option ℕ

abbrev pub scene_of : scenes.Scene → Scene
scene_of sc = record { table = sc.table.now; list = sc.list.now; lines = sc.lines.now; dropped = sc.dropped }

-- where a repair dropped this statement
abbrev pub of_drop : Scene → ℕ → Scene
of_drop sc n = record sc { dropped = Some n }

-- what is lent of a part that carries an answer, seen as the reduct that it is, or is as far as it is known
abbrev pub case_of : cases.Case → Reduct
case_of x = record { numbers = x.numbers.now; answer = x.answer.now; others = x.others.now }

abbrev pub reduct_text : Scene → Reduct → List ℕ
reduct_text sc x = texts.reduct_text sc.table sc.list sc.lines sc.dropped x.numbers x.answer x.others

abbrev pub decided_text : Scene → Answer → List ℕ
decided_text sc x = texts.decided_text sc.table sc.list x

-- ---- a reason

abbrev pub reason_text : Scene → Reason → List ℕ
reason_text sc (reasons.Carried x) = reduct_text sc x
reason_text sc (reasons.Wide ns x others) = reduct_text sc (record { numbers = ns; answer = x; others = others })
reason_text sc (reasons.OneHas x) = decided_text sc x
reason_text sc (reasons.OneLacks x) = decided_text sc x
reason_text sc (reasons.ClassLeft x) = texts.bounded_text sc.table x.question
reason_text sc (reasons.WhollyWide system note) = texts.wide_text

-- a conflict: that of a part of which none can be spared, as far as that is known, or that a number is too wide
abbrev pub conflict_text : Scene → Reason → List ℕ
conflict_text sc (reasons.Carried x) = reduct_text sc x
conflict_text sc (reasons.Wide ns x others) = reduct_text sc (record { numbers = ns; answer = x; others = others })
conflict_text sc _ = texts.wide_text
