use Rattle.std.proofs.Common.{[], ◌∷◌}
use Rattle.std.specs.Prelude.{codes}
use Rattle.ror_show_kit.specs.Heads.{counted}
use Rattle.ror_show_text_relation.specs.Text.{contradiction_text}
use Rattle.ror_show_kit.proofs.Pieces.{four_more}
use Rattle.ror_show_text_relation.proofs.text.write_rest.Goals as goal

pub returns : goal.returns
returns c =
    four_more (codes " not concluded") (contradiction_text c.args.contradictory) (counted (codes "; by dominance alone ") c.args.by_dominance) (10 ∷ []) c.args.text.now.items c.extend_from_slice.new.self.items c.write_contradiction.new.text.items c.write_count.new.text.items c.push.new.self.items c.in_ok-extend_from_slice.ensures.items c.in_ok-write_contradiction.ensures c.in_ok-write_count.ensures c.in_ok-push.ensures.items
