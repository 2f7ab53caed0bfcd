use Rattle.std.proofs.Common.{◌≡◌, ◌++◌, drop}
use Rattle.std.specs.List.{flat_map, AllByRecursion}
use Rattle.ror_report.specs.Printing.{HasValidQuestion, HasNarrowVerdict}
use Rattle.ror_spans.specs.Text.{level_answer_text}
use Rattle.ror_spans.proofs.print.write_answers.Given as goal

abbrev pub invariant-answers : goal.invariant-answers
invariant-answers l = record {
  printed : l.text.items ++ flat_map (level_answer_text l.table) (drop l.answer-index l.answers) ≡ l.initial.text.items ++ flat_map (level_answer_text l.table) l.answers;
  valid : AllByRecursion (λ x. HasValidQuestion l.table x.answer) (drop l.answer-index l.answers);
  narrow : AllByRecursion (λ x. HasNarrowVerdict x.answer) (drop l.answer-index l.answers);
}
