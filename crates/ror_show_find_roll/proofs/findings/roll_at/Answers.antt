use Rattle.std.proofs.Common.{List, length, ap, ◌∙◌}
use Rattle.ror_session.specs.declared.session.Line.{Line}
use Rattle.ror_show_find_roll.specs.declared.findings.RollFound.{RollFound}
use Rattle.ror_show_find_roll.specs.declared.roll.Roll.{Roll}
use Rattle.ror_show_find_roll.specs.Findings.{roll_at}
use Rattle.ror_show_find_roll.specs.Roll.{roll_of}
use Rattle.ror_show_find_roll.specs.Steps.{kept_turns}
use Rattle.ror_show_find_roll.proofs.findings.roll_at.Goals as goal

pub returns : goal.returns
unfolding roll_at
returns c =
    let g = c.args.ground.now in
    let desk = c.args.desk in
    let turns = c.deref.ensures.value ∙ c.in_ok-steps.ensures ∙ ap (λ (ls : List Line). kept_turns ls desk g.kept.now) c.as_slice-lines.ensures in
    let rolled = c.in_ok-roll.ensures ∙ ap (roll_of (length g.opening.now)) turns in
    let found : Roll → RollFound = λ roll. record { desk = desk; roll = roll } in
    ap found rolled
