-- One answer more.
use Rattle.std.proofs.Common.{◌≡◌, ◌<◌, List, length, get_or, subst}
use Rattle.ror_show_ground.specs.Grounds.{ground_of}
use Rattle.ror_show_ground.proofs.Lists.{holds_at}
use Rattle.ror_show_ground.proofs.Tests.{pieces_more}
use Rattle.ror_show_find_reasons.specs.declared.lines.Told.{Told}
use Rattle.ror_show_find_reasons.specs.Lines.{AsksOf}
use Rattle.ror_show_text_reasons.specs.Pages.{told_at}
use Rattle.ror_show_text_reasons.specs.Scenes.{scene_of}
use Rattle.ror_show_text_reasons.proofs.SceneLemmas.{told_beside}
use Rattle.ror_show_text_reasons.proofs.lines.write_each_told.Goals as goal

pub write_told-requires-clause-asked : goal.write_told-requires-clause-asked
write_told-requires-clause-asked c =
    let told = c.args.explained.now.found.now.told in
    let lent = c.as_slice-told.ensures in
    let k = c.told.k in
    let one = c.index-told-k.result in
    holds_at (λ (x : Told). AsksOf c.args.scene.now.table.now x.reason) told k one (subst (λ (xs : List Told). k < length xs) lent c.told-test.true) (subst (λ (xs : List Told). one ≡ get_or xs k one) lent c.index-told-k.is) c.requires.asked

pub told-preserved : goal.told-preserved
told-preserved c =
    let g = ground_of c.args.ground.now in
    let x = c.args.line.now in
    let sc = scene_of c.args.scene.now in
    let cores = c.args.explained.now.cores.now in
    let told = c.args.explained.now.found.now.told in
    let lent = c.as_slice-told.ensures in
    let k = c.told.k in
    let one = c.index-told-k.result in
    pieces_more (told_at g x sc cores told) k c.args.text.now.items c.told.text.items c.write_told.new.text.items c.told.invariant
    (told_beside g x sc cores told k one c.withdrawals_at.result.now c.told.text.items c.write_told.new.text.items (subst (λ (xs : List Told). k < length xs) lent c.told-test.true) (subst (λ (xs : List Told). one ≡ get_or xs k one) lent c.index-told-k.is) c.withdrawals_at.ensures c.in_ok-write_told.ensures)
