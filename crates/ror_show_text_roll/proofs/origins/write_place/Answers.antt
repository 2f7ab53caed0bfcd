use Rattle.std.specs.Prelude.{codes}
use Rattle.std.proofs.lemmas.Result.{on_ok_weaker}
use Rattle.ror_show_kit.proofs.Pieces.{three_more}
use Rattle.ror_show_ground.specs.Grounds.{ground_of}
use Rattle.ror_show_text_roll.specs.Page.{source_text, behind_text}
use Rattle.ror_show_text_roll.proofs.origins.write_place.Goals as goal

pub returns : goal.returns
returns c =
    let g = ground_of c.args.ground.now in
    on_ok_weaker c.write_behind.result
    (λ last. three_more (codes " (in the place of ") (source_text g c.args.source) (behind_text g c.args.number c.args.source) c.args.text.now.items c.extend_from_slice.new.self.items c.write_source.new.text.items c.write_behind.new.text.items c.in_ok-extend_from_slice.ensures.items c.in_ok-write_source.ensures last)
    c.write_behind.ensures
