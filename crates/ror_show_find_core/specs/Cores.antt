-- What is found beside each answer that is told: what becomes of it without each statement of what carries it.
use Rattle.std.specs.Prelude.{◌≡◌, ℕ, List, [], slice_get, Option, Some, None, if◌then◌else◌}
use Rattle.std.specs.List.{AllZip}
use Rattle.std.specs.Option.{option_map_or}
use Rattle.ror_statement.specs.declared.statement.Numbered.{Numbered}
use Rattle.ror_statement.specs.declared.question.Question.{Question}
use Rattle.ror_statement.specs.declared.question.Conclusion.{Conclusion}
use Rattle.ror_statement.specs.declared.question.Conclusion.TheVariants as conclusions
use Rattle.ror_statement.specs.Questions.{kind_of, property_of}
use Rattle.ror_table.specs.Table.{DecisionTable}
use Rattle.ror_proof.specs.declared.answer.Answer.{Answer}
use Rattle.ror_proof.specs.declared.answer.Verdict.{Verdict}
use Rattle.ror_proof.specs.declared.answer.Verdict.TheVariants as verdicts
use Rattle.ror_report.specs.Text.{answers_of}
use Rattle.ror_bench.specs.declared.kept.KeptLine.{KeptLine}
use Rattle.ror_reason.specs.declared.reducts.Reason.{Reason}
use Rattle.ror_reason.specs.declared.reducts.Reason.TheVariants as reasons
use Rattle.ror_reason.specs.Reducts.{rests_on_part}
use Rattle.ror_show_ground.specs.Grounds.{Ground}
use Rattle.ror_show_find_reasons.specs.declared.lines.LineFound.{LineFound}
use Rattle.ror_show_find_reasons.specs.declared.lines.Told.{Told}
use Rattle.ror_show_find_core.specs.declared.outcomes.CoreFound.{CoreFound}
use Rattle.ror_show_find_core.specs.declared.outcomes.LineCores.{LineCores}
use Rattle.ror_show_find_core.specs.Withdrawals.{AreWithdrawals}

-- ---- which answers, and which statements

-- what is concluded, where statements carry that
abbrev pub carried_as : Question → Conclusion → Option Conclusion
carried_as q c = if rests_on_part (kind_of q) (property_of q) c then Some c else None

abbrev pub carried_conclusion : Question → Verdict → Option Conclusion
carried_conclusion q (verdicts.Yes proof) = carried_as q conclusions.Yes
carried_conclusion q (verdicts.No proof) = carried_as q conclusions.No
carried_conclusion q (verdicts.Contradiction proof) = carried_as q conclusions.Contradiction
carried_conclusion q (verdicts.Wide system note) = None

-- the statements that a reason names: a reduct, or a part that carries the answer
abbrev pub named_in : Reason → List ℕ
named_in (reasons.Carried x) = x.numbers
named_in (reasons.Wide ns x others) = ns
named_in _ = []

abbrev pub named_by : Option Reason → List ℕ
named_by told = option_map_or named_in told []

-- ---- what is found

-- of each statement that is named, where statements carry the answer; of none, where they don't
abbrev pub IsCoreOf : DecisionTable → List Numbered → Question → List ℕ → Option Conclusion → CoreFound → Type 0
IsCoreOf t list q ns (Some c) f = AreWithdrawals t list q c ns f.withdrawals
IsCoreOf t list q ns None f = f.withdrawals ≡ []

-- beside an answer and its reason
abbrev pub IsCoreBeside : DecisionTable → List Numbered → Option Reason → Answer → CoreFound → Type 0
IsCoreBeside t list told x f = IsCoreOf t list x.question (named_by told) (carried_conclusion x.question x.verdict) f

abbrev pub IsCoreWhere : DecisionTable → List Numbered → Option Reason → Option Answer → CoreFound → Type 0
IsCoreWhere t list told (Some x) f = IsCoreBeside t list told x f
IsCoreWhere t list told None f = f.withdrawals ≡ []

-- beside one that is told, of these answers
abbrev pub IsCoreAt : DecisionTable → List Numbered → List Answer → Told → CoreFound → Type 0
IsCoreAt t list xs told f = IsCoreWhere t list told.reason (slice_get xs told.answer) f

-- beside each, in order
abbrev pub AreCores : DecisionTable → List Numbered → List Answer → List Told → List CoreFound → Type 0
AreCores t list xs told fs = AllZip (IsCoreAt t list xs) told fs

-- over what stood, where that is kept
abbrev pub AreCoresOver : DecisionTable → List Answer → Option (List Numbered) → List Told → List CoreFound → Type 0
AreCoresOver t xs (Some list) told fs = AreCores t list xs told fs
AreCoresOver t xs None told fs = fs ≡ []

-- of a line, where it is kept
abbrev pub AreCoresWhere : DecisionTable → List Told → Option KeptLine → List CoreFound → Type 0
AreCoresWhere t told (Some x) fs = AreCoresOver t (answers_of x.block.body) x.standing told fs
AreCoresWhere t told None fs = fs ≡ []

abbrev pub AreLineCores : Ground → LineFound → LineCores → Type 0
AreLineCores g f c = AreCoresWhere g.table f.told (slice_get g.kept f.place) c.cores

-- of each line that is found, in order
abbrev pub AreCoresFound : Ground → List LineFound → List LineCores → Type 0
AreCoresFound g fs cs = AllZip (AreLineCores g) fs cs
