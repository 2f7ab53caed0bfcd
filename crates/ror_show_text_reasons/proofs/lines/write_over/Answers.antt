use Rattle.std.proofs.Common.{◌++◌, List, ap, sym, subst, ◌∙◌}
use Rattle.std.specs.List.{AllByRecursion, flat_map}
use Rattle.std.proofs.lemmas.Result.{on_ok_weaker}
use Rattle.ror_statement.specs.Statements.{statements_in}
use Rattle.ror_value.specs.Over.{IsLawfulIn}
use Rattle.ror_show_kit.proofs.Pieces.{three_more}
use Rattle.ror_show_ground.specs.Grounds.{ground_of}
use Rattle.ror_show_find_reasons.specs.declared.lines.Told.{Told}
use Rattle.ror_show_find_reasons.specs.declared.lines.DropFound.{DropFound}
use Rattle.ror_show_find_reasons.specs.Lines.{AsksIn, AsksOf}
use Rattle.ror_show_text_reasons.specs.Pages.{scene_for, each_told, drop_in, drop_text, rest_text}
use Rattle.ror_show_text_reasons.specs.Scenes.{Scene}
use Rattle.ror_show_text_reasons.proofs.SceneLemmas.{stood_lawful}
use Rattle.ror_show_text_reasons.proofs.lines.write_over.Goals as goal

pub write_each_told-requires-clause-lawful : goal.write_each_told-requires-clause-lawful
write_each_told-requires-clause-lawful c =
    subst (λ (sc : Scene). IsLawfulIn sc.table (statements_in sc.list)) (sym c.scene_for-scene.ensures) (stood_lawful c.args.ground.now.table.now c.args.line.now c.requires.ready)

pub write_each_told-requires-clause-asked : goal.write_each_told-requires-clause-asked
write_each_told-requires-clause-asked c =
    subst (λ (sc : Scene). AllByRecursion (λ (x : Told). AsksOf sc.table x.reason) c.args.explained.now.found.now.told) (sym c.scene_for-scene.ensures) c.requires.asked.told

pub write_each_drop-requires-clause-lawful : goal.write_each_drop-requires-clause-lawful
write_each_drop-requires-clause-lawful c =
    subst (λ (sc : Scene). IsLawfulIn sc.table (statements_in sc.list)) (sym c.scene_for-scene.ensures) (stood_lawful c.args.ground.now.table.now c.args.line.now c.requires.ready)

pub write_each_drop-requires-clause-asked : goal.write_each_drop-requires-clause-asked
write_each_drop-requires-clause-asked c =
    let t = c.args.ground.now.table.now in
    subst (λ (sc : Scene). AllByRecursion (λ (x : DropFound). AsksIn sc.table x.conflict) c.as_slice.result.now) (sym c.scene_for-scene.ensures)
    (subst (AllByRecursion (λ (x : DropFound). AsksIn t x.conflict)) (sym c.as_slice.ensures) c.requires.asked.drops)

pub returns : goal.returns
returns c =
    let g = ground_of c.args.ground.now in
    let x = c.args.line.now in
    let cores = c.args.explained.now.cores.now in
    let f = c.args.explained.now.found.now in
    let old = c.args.text.now.items in
    let same = c.scene_for-scene.ensures in
    let told = c.in_ok-write_each_told.ensures ∙ ap (λ (sc : Scene). old ++ each_told g x sc cores f.told) same in
    let rest = c.in_ok-write_rest.ensures in
    let begun = c.write_rest.new.text.items in
    on_ok_weaker c.write_each_drop.result
    (λ last. three_more (each_told g x (scene_for g x f) cores f.told) (rest_text c.args.meant g x) (flat_map (drop_text g x f) f.drops) old c.write_each_told.new.text.items begun c.write_each_drop.new.text.items told rest
    (last ∙ ap (λ (sc : Scene). begun ++ flat_map (drop_in g x sc) c.as_slice.result.now) same ∙ ap (λ (xs : List DropFound). begun ++ flat_map (drop_text g x f) xs) c.as_slice.ensures))
    c.write_each_drop.ensures
