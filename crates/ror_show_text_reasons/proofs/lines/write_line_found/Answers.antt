use Rattle.std.proofs.Common.{sym}
use Rattle.std.proofs.lemmas.Bool.{ltb-true}
use Rattle.ror_check.proofs.Checking.{slice_get-at}
use Rattle.ror_text.proofs.Everywhere.{all_at}
use Rattle.ror_show_ground.specs.Ready.{IsReady}
use Rattle.ror_show_text_reasons.proofs.lines.write_line_found.Goals as goal

pub write_over-requires-clause-ready : goal.write_over-requires-clause-ready
write_over-requires-clause-ready c =
    let g = c.args.ground.now in
    let n = c.args.explained.now.found.now.place in
    let x = c.in-Some.line.now in
    all_at (IsReady g.table.now) g.kept.now n x c.requires.judged.ready (slice_get-at g.kept.now n x (ltb-true n _ (sym c.in-Some.ensures.lookup.0)) c.in-Some.ensures.lookup.1)
