use Rattle.std.proofs.Common.{refl, subst}
use Rattle.ror_statement.specs.Statements.{statements_in}
use Rattle.ror_proof.specs.declared.answer.Answer.{Answer}
use Rattle.ror_show_ground.specs.Sound.{IsSoundAnswer}
use Rattle.ror_show_ground.proofs.Lists.{got_at}
use Rattle.ror_show_find_reasons.specs.Carrying.{IsTold}
use Rattle.ror_show_find_reasons.proofs.Steps.{held_at}
use Rattle.ror_show_find_reasons.proofs.telling.tell.Goals as goal

pub find_reason-requires-clause-sound : goal.find_reason-requires-clause-sound
find_reason-requires-clause-sound c =
    let s = c.args.stood.now in
    held_at (IsSoundAnswer s.table.now (statements_in s.list.now)) s.answers.now c.args.place _ c.requires.there c.requires.stood.sound

pub returns : goal.returns
returns c =
    let s = c.args.stood.now in
    (refl, λ x here. subst (λ (y : Answer). IsTold s.table.now s.list.now y.question y.verdict c.in_ok-reason.reason) (got_at s.answers.now c.args.place c.index-stood-place.result x c.requires.there here) c.in_ok-reason.ensures)
