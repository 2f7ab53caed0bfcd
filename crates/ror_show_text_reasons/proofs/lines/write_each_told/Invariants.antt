use Rattle.std.proofs.Common.{◌≡◌, ◌++◌}
use Rattle.std.specs.List.{flat_map, range_with_len}
use Rattle.ror_show_ground.specs.Grounds.{ground_of}
use Rattle.ror_show_text_reasons.specs.Pages.{told_at}
use Rattle.ror_show_text_reasons.specs.Scenes.{scene_of}
use Rattle.ror_show_text_reasons.proofs.lines.write_each_told.Given as goal

abbrev pub invariant-told : goal.invariant-told
invariant-told l =
    l.text.items ≡ l.fn.text.items ++ flat_map (told_at (ground_of l.ground) l.line (scene_of l.scene) l.explained.cores.now l.explained.found.now.told) (range_with_len 0 l.k)
