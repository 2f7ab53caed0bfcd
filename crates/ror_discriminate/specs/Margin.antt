-- How much a value function discriminates: by how much it meets what a list says strictly, at least, over the value of the best
-- levels; and which functions do so most.
use Rattle.std.specs.Prelude.{◌≡◌, ◌≢◌, Bool, true, false, List, [], map, ℤ, ◌-ℤ◌, ◌*ℤ◌, ◌≤ℤ◌}
use Rattle.std.specs.List.{filter}
use Rattle.ror_statement.specs.declared.comparison.Relation.{Relation}
use Rattle.ror_statement.specs.declared.comparison.Relation.TheVariants.{Above}
use Rattle.ror_statement.specs.declared.comparison.Comparison.{Comparison}
use Rattle.ror_statement.specs.declared.statement.Statement.{Statement}
use Rattle.ror_statement.specs.Statements.{comparisons_of}
use Rattle.ror_table.specs.Table.{DecisionTable}
use Rattle.ror_value.specs.Value.{ideal_value}
use Rattle.ror_value.specs.Meaning.{first_quantity, second_quantity, IsCompatible}
use Rattle.ror_pivot.specs.Optimality.{least}
use Rattle.ror_discriminate.specs.declared.margin.Margin.{Margin}

-- the first quantity is to be above the second
abbrev pub is_strict : Relation → Bool
is_strict Above = true
is_strict _ = false

-- what a list says strictly: that one alternative is preferred to another, that one preference is stronger than another, and
-- that of two alternatives in classes of which the one's are all above the other's the one is worth more
abbrev pub strict_comparisons : List Statement → List Comparison
strict_comparisons list = filter (λ c. is_strict c.relation) (comparisons_of list)

-- by how much a function has the first quantity above the second
abbrev pub margin_on : DecisionTable → List ℤ → Comparison → ℤ
margin_on t w c = first_quantity t w c.form -ℤ second_quantity t w c.form

-- the same of all that the list says strictly, in order
abbrev pub margins : DecisionTable → List Statement → List ℤ → List ℤ
margins t list w = map (margin_on t w) (strict_comparisons list)

-- the least of these
abbrev pub least_margin : DecisionTable → List Statement → List ℤ → ℤ
least_margin t list w = least (margins t list w)

-- A function stands for the normalised one, whose values are divided by the ideal value. The least margin of the first,
-- normalised, is at least that of the second.
abbrev pub DiscriminatesAsMuch : DecisionTable → List Statement → List ℤ → List ℤ → Type 0
DiscriminatesAsMuch t list w v =
    (least_margin t list v *ℤ ideal_value t w) ≤ℤ (least_margin t list w *ℤ ideal_value t v)

-- The list says something strictly, the function is compatible with it, and no compatible function discriminates more.
pub record IsMostDiscriminating (t : DecisionTable) (list : List Statement) (w : List ℤ) : Type 0 where
  pub says_strictly : strict_comparisons list ≢ []
  pub compatible : IsCompatible t list w
  pub most : (v : List ℤ) → IsCompatible t list v → DiscriminatesAsMuch t list w v

-- the function's least margin, and the ideal value that it is to be divided by
pub record IsMarginOf (t : DecisionTable) (list : List Statement) (w : List ℤ) (m : Margin) : Type 0 where
  pub least_is : m.least ≡ least_margin t list w
  pub total_is : m.total ≡ ideal_value t w
