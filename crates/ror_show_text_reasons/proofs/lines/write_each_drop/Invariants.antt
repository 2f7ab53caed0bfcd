use Rattle.std.proofs.Common.{◌≡◌, ◌++◌, take}
use Rattle.std.specs.List.{flat_map}
use Rattle.ror_show_ground.specs.Grounds.{ground_of}
use Rattle.ror_show_text_reasons.specs.Pages.{drop_in}
use Rattle.ror_show_text_reasons.specs.Scenes.{scene_of}
use Rattle.ror_show_text_reasons.proofs.lines.write_each_drop.Given as goal

abbrev pub invariant-drops : goal.invariant-drops
invariant-drops l = l.text.items ≡ l.fn.text.items ++ flat_map (drop_in (ground_of l.ground) l.line (scene_of l.scene)) (take l.k l.drops)
