use Rattle.std.proofs.Common.{◌++◌, refl, subst, sym}
use Rattle.std.specs.List.{flat_map}
use Rattle.ror_text.proofs.Everywhere.{all-rest}
use Rattle.ror_proof.proofs.PrintLemmas.{one_more, all_printed}
use Rattle.ror_report.specs.Printing.{HasValidQuestion, HasNarrowVerdict}
use Rattle.ror_confidence.specs.declared.span.LevelAnswer.{LevelAnswer}
use Rattle.ror_spans.specs.Text.{level_answer_text}
use Rattle.ror_spans.proofs.print.write_answers.Goals as goal

pub write_level_answer-requires-clause-valid : goal.write_level_answer-requires-clause-valid
write_level_answer-requires-clause-valid c =
    let P = λ (x : LevelAnswer). HasValidQuestion c.args.table.now x.answer in
    let rest = all-rest P c.args.answers.now c.answers.answer-index c.answer-item.result c.answers-test.true c.answers.invariant.valid in
    subst P (sym c.answer-item.is) rest.0

pub write_level_answer-requires-clause-narrow : goal.write_level_answer-requires-clause-narrow
write_level_answer-requires-clause-narrow c =
    let P = λ (x : LevelAnswer). HasNarrowVerdict x.answer in
    let rest = all-rest P c.args.answers.now c.answers.answer-index c.answer-item.result c.answers-test.true c.answers.invariant.narrow in
    subst P (sym c.answer-item.is) rest.0

pub answers-preserved : goal.answers-preserved
answers-preserved c =
    let t = c.args.table.now in
    let answers = c.args.answers.now in
    let i = c.answers.answer-index in
    let x = c.answer-item.result in
    let text = c.answers.text.items in
    record {
      printed = one_more (flat_map (level_answer_text t)) (level_answer_text t) (λ x xs. refl) answers i x text c.write_level_answer.new.text.items (c.args.text.now.items ++ flat_map (level_answer_text t) answers) c.answers-test.true c.answer-item.is c.in_ok-write_level_answer.ensures c.answers.invariant.printed;
      valid = (all-rest (λ (y : LevelAnswer). HasValidQuestion t y.answer) answers i x c.answers-test.true c.answers.invariant.valid).1;
      narrow = (all-rest (λ (y : LevelAnswer). HasNarrowVerdict y.answer) answers i x c.answers-test.true c.answers.invariant.narrow).1;
    }

pub returns : goal.returns
returns c =
    let t = c.args.table.now in
    all_printed (flat_map (level_answer_text t)) refl c.args.answers.now c.answers.answer-index c.answers.text.items (c.args.text.now.items ++ flat_map (level_answer_text t) c.args.answers.now) c.answers-test.false c.answers.invariant.printed
