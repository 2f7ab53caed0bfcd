-- One part more.
use Rattle.std.proofs.Common.{◌≡◌, ◌++◌, length, rules}
use Rattle.ror_show_ground.proofs.Tests.{pieces_more}
use Rattle.ror_show_kit.specs.Parts.{widest}
use Rattle.ror_show_text_group.specs.Matrix.{part_text_at}
use Rattle.ror_show_text_group.proofs.matrix.write_matrix.Goals as goal

pub loop-place-preserved : goal.loop-place-preserved
loop-place-preserved c =
    let t = c.args.table.now in
    let pushed : c.write_part_at.new.text.items ≡ c.loop-place.text.items ++ part_text_at t c.args.rows.now (widest t (length t.alternatives)) c.loop-place.place = search rules in
    pieces_more (part_text_at t c.args.rows.now (widest t (length t.alternatives))) c.loop-place.place c.args.text.now.items c.loop-place.text.items c.write_part_at.new.text.items c.loop-place.invariant pushed
