use Rattle.std.proofs.Common.{ℕ, List, length, take, ap, ◌∙◌}
use Rattle.ror_session.specs.declared.session.Line.{Line}
use Rattle.ror_show_find_roll.specs.Said.{said_lines}
use Rattle.ror_show_find_roll.proofs.said.said_before.Goals as goal

pub returns : goal.returns
returns c =
    let g = c.args.ground.now in
    let s = g.session.now in
    let opening = length g.opening.now in
    let before = take c.args.place g.kept.now in
    c.from.ensures ∙ c.in_ok-said.ensures ∙ ap (λ (ls : List Line). said_lines ls opening c.desk_of.result before) c.as_slice.ensures
    ∙ ap (λ (d : ℕ). said_lines s.lines opening d before) c.desk_of.ensures
