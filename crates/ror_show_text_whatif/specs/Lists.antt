-- Which pairs hang on a statement.
use Rattle.std.specs.Prelude.{ℕ, ◌==◌, List, [], ◌∷◌, ◌++◌, codes, decimal, length, Option, Some, None, if◌then◌else◌}
use Rattle.std.specs.List.{flat_map}
use Rattle.ror_table.specs.Table.{DecisionTable}
use Rattle.ror_show_kit.specs.Spoken.{statement_text}
use Rattle.ror_show_text_relation.specs.Text.{pairs_below}
use Rattle.ror_show_find_whatif.specs.declared.cases.Case.{Case}
use Rattle.ror_show_find_whatif.specs.declared.outcome.Effect.{Effect}
use Rattle.ror_show_find_whatif.specs.declared.outcome.Effect.TheVariants.{OfPairs, OfClasses}
use Rattle.ror_show_find_whatif.specs.declared.outcome.Outcome.{Outcome}
use Rattle.ror_show_find_whatif.specs.declared.pairs.PairEffect.{PairEffect}
use Rattle.ror_show_text_whatif.specs.declared.ways.Way.{Way}
use Rattle.ror_show_text_whatif.specs.declared.ways.Way.TheVariants.{Withdrawn, Contrary}
use Rattle.ror_show_text_whatif.specs.Ways.{outcome_in, said_in}

-- pairs below what they have in common, where there are some
abbrev pub some_pairs : DecisionTable → List ℕ → List (ℕ × ℕ) → List ℕ
some_pairs t head pairs = if length pairs == 0 then [] else pairs_below t head pairs

abbrev pub lost_head : List ℕ
lost_head = codes "    lost: no longer at least as good by every function\n"

abbrev pub weaker_head : List ℕ
weaker_head = codes "    weaker: no longer better by every function, but at least as good\n"

abbrev pub won_head : List ℕ
won_head = codes "    won: at least as good by every function then\n"

abbrev pub stronger_head : List ℕ
stronger_head = codes "    stronger: better by every function then, and now at least as good\n"

abbrev pub unknown_head : List ℕ
unknown_head = codes "    unknown: a number is too wide to say how they stand, now or then\n"

-- what stands no longer
abbrev pub losses_text : DecisionTable → PairEffect → List ℕ
losses_text t f = some_pairs t lost_head f.lost ++ some_pairs t weaker_head f.weaker

-- what stands then, and what isn't known
abbrev pub gains_text : DecisionTable → PairEffect → List ℕ
gains_text t f = some_pairs t won_head f.won ++ some_pairs t stronger_head f.stronger ++ some_pairs t unknown_head f.unknown

abbrev pub effect_text : DecisionTable → Effect → List ℕ
effect_text t (OfPairs f) = losses_text t f ++ gains_text t f
effect_text t (OfClasses f) = []

abbrev pub way_text : Way → List ℕ
way_text Withdrawn = codes " is withdrawn: "
way_text Contrary = codes " is turned to its contrary: "

abbrev pub heading : DecisionTable → Way → Case → List ℕ
heading t way c = codes "\n  if " ++ decimal c.stated.number ++ way_text way ++ statement_text t (said_in way c) ++ 10 ∷ []

-- lists below a heading, where there are some
abbrev pub below : List ℕ → List ℕ → List ℕ
below head lists = if length lists == 0 then [] else head ++ lists

abbrev pub lists_for : DecisionTable → Way → Case → Option Outcome → List ℕ
lists_for t way c (Some o) = below (heading t way c) (effect_text t o.effect)
lists_for t way c None = []

abbrev pub way_lists : DecisionTable → Way → Case → List ℕ
way_lists t way c = lists_for t way c (outcome_in way c)

abbrev pub case_lists : DecisionTable → Case → List ℕ
case_lists t c = way_lists t Withdrawn c ++ way_lists t Contrary c

-- statement by statement
abbrev pub lists_text : DecisionTable → List Case → List ℕ
lists_text t cases = flat_map (case_lists t) cases
