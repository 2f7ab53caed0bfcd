use Rattle.std.proofs.Common.{[], ◌∷◌}
use Rattle.std.specs.Prelude.{codes}
use Rattle.ror_show_kit.specs.Heads.{counted}
use Rattle.ror_show_kit.proofs.Pieces.{three_more}
use Rattle.ror_show_text_relation.proofs.text.write_proved.Goals as goal

pub returns : goal.returns
returns c =
    let h = c.args.heading.now in
    three_more (counted (codes "  ask relation    proved: ") h.proved) (counted (codes " of ") h.answers) (10 ∷ []) c.args.text.now.items c.write_count.new.text.items c.write_count-2.new.text.items c.push.new.self.items c.in_ok-write_count.ensures c.in_ok-write_count-2.ensures c.in_ok-push.ensures.items
