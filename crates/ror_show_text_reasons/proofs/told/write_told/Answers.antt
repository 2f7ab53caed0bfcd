use Rattle.std.proofs.Common.{rules, ◌≡◌, ◌++◌, ◌∙◌, List, ap, sym}
use Rattle.std.specs.Prelude.{slice_get}
use Rattle.std.proofs.lemmas.Bool.{ltb-true}
use Rattle.ror_proof.specs.declared.answer.Answer.{Answer}
use Rattle.ror_check.proofs.Checking.{slice_get-at}
use Rattle.ror_show_ground.specs.Grounds.{ground_of}
use Rattle.ror_show_text_functions.specs.Text.{is_contradiction}
use Rattle.ror_show_text_reasons.specs.Scenes.{scene_of}
use Rattle.ror_show_text_reasons.specs.Withdrawn.{withdrawn_text}
use Rattle.ror_show_text_reasons.proofs.SceneLemmas.{told_more, told_none}
use Rattle.ror_show_text_reasons.proofs.told.write_told.Goals as goal

pub returns-in_ok-push-in-Some : goal.returns-in_ok-push-in-Some
returns-in_ok-push-in-Some c =
    let beside = c.args.beside.now in
    let told = beside.told.now in
    let a = c.in-Some.answer.now in
    let there = slice_get-at c.answers_of.result.now told.answer a (ltb-true told.answer _ (sym c.in-Some.ensures.lookup.0)) c.in-Some.ensures.lookup.1 in
    let withdrawn : c.write_withdrawn.new.text.items ≡ c.write_words.new.text.items ++ withdrawn_text (is_contradiction c.in-Some.answer.now.verdict) c.args.beside.now.withdrawals.now = search rules in
    told_more (ground_of c.args.ground.now) c.args.line.now (scene_of c.args.scene.now) beside.withdrawals.now told a c.args.text.now.items c.write_head.new.text.items c.write_words.new.text.items c.write_withdrawn.new.text.items c.push.new.self.items
    (ap (λ (xs : List Answer). slice_get xs told.answer) (sym c.answers_of.ensures) ∙ there) c.in_ok-write_head-in-Some.ensures c.in_ok-write_words-in-Some.ensures withdrawn c.in_ok-push-in-Some.ensures.items

pub returns-in-None : goal.returns-in-None
returns-in-None c = told_none (ground_of c.args.ground.now) c.args.line.now (scene_of c.args.scene.now) c.args.beside.now.withdrawals.now c.args.beside.now.told.now c.answers_of.result.now c.args.text.now.items c.answers_of.ensures c.in-None.ensures.lookup.0
