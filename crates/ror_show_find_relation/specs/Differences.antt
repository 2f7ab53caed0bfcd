-- The pairs of each change from one relation to another, as a value.
use Rattle.std.specs.Prelude.{◌≡◌}
use Rattle.ror_show_find_relation.specs.Relations.{Square}
use Rattle.ror_show_find_relation.specs.declared.change.Change.TheVariants as changes
use Rattle.ror_show_find_relation.specs.Changes.{changed_pairs}
use Rattle.ror_show_find_relation.specs.declared.differences.Differences.{Differences}

pub record AreDifferences (before now : Square) (f : Differences) : Type 0 where
  pub turned : f.turned ≡ changed_pairs before now changes.TurnedRound
  pub no_longer : f.no_longer ≡ changed_pairs before now changes.NoLonger
  pub stayed : f.stayed ≡ changed_pairs before now changes.Stayed
  pub new : f.new ≡ changed_pairs before now changes.New
