-- The words of the two sides.
use Rattle.std.specs.Prelude.{ℕ, List, [], ◌∷◌, codes}
use Rattle.ror_ranks.specs.declared.extreme.Side.{Side}
use Rattle.ror_ranks.specs.declared.extreme.Side.TheVariants.{Best, Worst}

abbrev pub side_word : Side → List ℕ
side_word Best = codes "best"
side_word Worst = codes "worst"

abbrev pub side_list : List Side
side_list = Best ∷ Worst ∷ []
