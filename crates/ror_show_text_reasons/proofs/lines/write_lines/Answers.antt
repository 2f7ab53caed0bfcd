-- One line more.
use Rattle.ror_show_ground.specs.Grounds.{ground_of}
use Rattle.ror_show_ground.proofs.Lists.{holds_at}
use Rattle.ror_show_ground.proofs.Tests.{pieces_more}
use Rattle.ror_show_find_reasons.specs.Lines.{AreAsked}
use Rattle.ror_show_text_reasons.specs.Pages.{line_at}
use Rattle.ror_show_text_reasons.proofs.SceneLemmas.{line_beside}
use Rattle.ror_show_text_reasons.proofs.lines.write_lines.Goals as goal

pub write_line_found-requires-clause-asked : goal.write_line_found-requires-clause-asked
write_line_found-requires-clause-asked c = holds_at (AreAsked c.args.ground.now.table.now) c.args.found.now c.found.k c.index-found-k.result c.found-test.true c.index-found-k.is c.requires.asked

pub found-preserved : goal.found-preserved
found-preserved c =
    let g = ground_of c.args.ground.now in
    pieces_more (line_at c.args.meant g c.args.found.now c.args.cores.now) c.found.k c.args.text.now.items c.found.text.items c.write_line_found.new.text.items c.found.invariant
    (line_beside c.args.meant g c.args.found.now c.args.cores.now c.found.k c.index-found-k.result c.cores_at.result.now c.found.text.items c.write_line_found.new.text.items c.found-test.true c.index-found-k.is c.cores_at.ensures c.in_ok-write_line_found.ensures)
