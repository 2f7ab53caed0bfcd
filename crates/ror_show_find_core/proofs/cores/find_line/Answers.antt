use Rattle.std.proofs.Common.{List, Option, sym, subst}
use Rattle.std.proofs.lemmas.Bool.{ltb-true}
use Rattle.ror_check.proofs.Checking.{slice_get-at}
use Rattle.ror_text.proofs.Everywhere.{all_at}
use Rattle.ror_report.specs.Text.{answers_of}
use Rattle.ror_bench.specs.declared.kept.KeptLine.{KeptLine}
use Rattle.ror_show_ground.specs.Ready.{IsReady}
use Rattle.ror_show_find_reasons.specs.declared.lines.Told.{Told}
use Rattle.ror_show_find_core.specs.Cores.{AreCoresOver, AreCoresWhere}
use Rattle.ror_show_find_core.proofs.Lists.{past}
use Rattle.ror_show_find_core.proofs.cores.find_line.Goals as goal

pub find_over-requires : goal.find_over-requires
find_over-requires c =
    let g = c.args.ground.now in
    let n = c.args.line.now.place in
    let x = c.in-Some.kept.now in
    all_at (IsReady g.table.now) g.kept.now n x c.requires.ready (slice_get-at g.kept.now n x (ltb-true n _ (sym c.in-Some.ensures.lookup.0)) c.in-Some.ensures.lookup.1)

pub returns-in_ok-cores-in-Some : goal.returns-in_ok-cores-in-Some
returns-in_ok-cores-in-Some c =
    let g = c.args.ground.now in
    let n = c.args.line.now.place in
    let x = c.in-Some.kept.now in
    let there = slice_get-at g.kept.now n x (ltb-true n _ (sym c.in-Some.ensures.lookup.0)) c.in-Some.ensures.lookup.1 in
    subst (λ (o : Option KeptLine). AreCoresWhere g.table.now c.args.line.now.told o c.in_ok-cores-in-Some.cores) (sym there)
    (subst (λ (told : List Told). AreCoresOver g.table.now (answers_of x.block.body) x.standing told c.in_ok-cores-in-Some.cores) c.as_slice.ensures c.in_ok-cores-in-Some.ensures)

pub returns-in-None : goal.returns-in-None
returns-in-None c =
    let g = c.args.ground.now in
    subst (λ (o : Option KeptLine). AreCoresWhere g.table.now c.args.line.now.told o c.no_cores.result.cores) (sym (past g.kept.now c.args.line.now.place c.in-None.ensures.lookup.0)) c.no_cores.ensures
