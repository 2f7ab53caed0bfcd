use Rattle.std.proofs.Common.{◌≡◌, [], ◌∷◌, ◌++◌, ap, ◌∙◌}
use Rattle.std.specs.Prelude.{codes}
use Rattle.ror_proof.proofs.PrintLemmas.{one_word, line_made, on_ok}
use Rattle.ror_proof.specs.Names.{verdict_name, verdict_word}
use Rattle.ror_proof.specs.Text.{question_words}
use Rattle.ror_proof.proofs.print.write_head.Goals as goal

pub returns-clause-ok : goal.returns-clause-ok
returns-clause-ok c =
    let begun = c.extend_from_slice.new.self.items in
    let asked = c.write_question.new.text.items in
    let text = c.write_word.new.text.items in
    let words = question_words c.args.table.now c.args.answer.now.question in
    let verdict = verdict_word (verdict_name c.args.answer.now.verdict) in
    let word : c.word.result.now ≡ verdict = c.word.ensures ∙ ap verdict_word c.of.ensures in
    let all = one_word begun asked text words verdict c.in_ok-write_question.ensures.ok (c.in_ok-write_word.ensures.ok ∙ ap (λ w. asked ++ 32 ∷ w) word) in
    on_ok c.end_line.result c.end_line.ensures.ok (λ e. e ∙ line_made c.args.text.now.items begun text (codes "answer") (words ++ verdict ∷ []) c.in_ok-extend_from_slice.ensures.items all)
