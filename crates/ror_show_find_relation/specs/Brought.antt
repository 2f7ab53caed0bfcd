use Rattle.std.specs.Prelude.{ℕ, List, ◌++◌, map}
use Rattle.ror_show_find_relation.specs.Relations.{Square}
use Rattle.ror_show_find_relation.specs.declared.change.Change.TheVariants.{TurnedRound, New}
use Rattle.ror_show_find_relation.specs.Changes.{changed_pairs}

-- the other way round
abbrev pub turned : List (ℕ × ℕ) → List (ℕ × ℕ)
turned pairs = map (λ pair. (pair.1, pair.0)) pairs

-- those that were turned round, as they are now, and those that are new
abbrev pub brought : Square → Square → List (ℕ × ℕ)
brought before now = turned (changed_pairs before now TurnedRound) ++ changed_pairs before now New
