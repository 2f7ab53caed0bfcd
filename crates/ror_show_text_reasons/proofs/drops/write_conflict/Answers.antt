use Rattle.std.proofs.Common.{◌++◌, ℕ, List, ap, ◌∙◌}
use Rattle.std.proofs.lemmas.Result.{on_ok_weaker}
use Rattle.ror_show_text_reasons.specs.Scenes.{scene_of}
use Rattle.ror_show_text_reasons.proofs.SceneLemmas.{part_told, wide_told}
use Rattle.ror_show_text_reasons.proofs.drops.write_conflict.Goals as goal

pub returns-in-Carried : goal.returns-in-Carried
returns-in-Carried c =
    on_ok_weaker c.write_reason.result
    (λ last. last ∙ ap (λ (qs : List ℕ). c.args.text.now.items ++ qs) (part_told (scene_of c.args.scene.now) _ c.args.conflict.now c.in-Carried.is))
    c.write_reason.ensures

pub returns-in-Wide : goal.returns-in-Wide
returns-in-Wide c =
    on_ok_weaker c.write_reason-in-Wide.result
    (λ last. last ∙ ap (λ (qs : List ℕ). c.args.text.now.items ++ qs) (wide_told (scene_of c.args.scene.now) _ _ _ c.args.conflict.now c.in-Wide.is))
    c.write_reason-in-Wide.ensures
