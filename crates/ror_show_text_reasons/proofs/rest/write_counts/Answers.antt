use Rattle.std.proofs.Common.{◌++◌, ℕ, List, ap, ◌∙◌}
use Rattle.std.proofs.lemmas.Result.{on_ok_weaker}
use Rattle.ror_show_kit.proofs.Pieces.{two_more}
use Rattle.ror_show_kit.specs.Heads.{line_text}
use Rattle.ror_show_ground.specs.Grounds.{ground_of}
use Rattle.ror_show_text_reasons.specs.Pages.{place_text, carried_text}
use Rattle.ror_show_text_reasons.proofs.rest.write_counts.Goals as goal

pub returns : goal.returns
returns c =
    let g = ground_of c.args.ground.now in
    let placed = c.in_ok-write_line.ensures ∙ ap (λ (name : List ℕ). c.args.text.now.items ++ line_text c.args.line.now.block.line name) c.desk_at.ensures in
    on_ok_weaker c.write_carried.result
    (λ last. two_more (place_text g c.args.line.now) (carried_text c.args.carried) c.args.text.now.items c.write_line.new.text.items c.write_carried.new.text.items placed last)
    c.write_carried.ensures
