-- What statements say: the comparisons that each makes, and those that a list makes.
use Rattle.std.specs.Prelude.{ℕ, Bool, nat_lt, if◌then◌else◌, List, [], ◌∷◌, ◌++◌, map, Option, Some, None, option_to_list}
use Rattle.std.specs.List.{flat_map}
use Rattle.ror_statement.specs.declared.comparison.Relation.{Relation}
use Rattle.ror_statement.specs.declared.comparison.Relation.TheVariants as relations
use Rattle.ror_statement.specs.declared.comparison.Form.{Form}
use Rattle.ror_statement.specs.declared.comparison.Form.TheVariants.{Value, Strength}
use Rattle.ror_statement.specs.declared.comparison.Comparison.{Comparison}
use Rattle.ror_statement.specs.declared.statement.Assignment.{Assignment}
use Rattle.ror_statement.specs.declared.statement.Numbered.{Numbered}
use Rattle.ror_statement.specs.declared.statement.Statement.{Statement}
use Rattle.ror_statement.specs.declared.statement.Statement.TheVariants.{Prefer, AtLeast, Same, Stronger, AsStrong, EqualStrength, Class}

abbrev pub comparison_by : Relation → Form → Comparison
comparison_by relation form = record { relation = relation; form = form }

-- the comparison that a statement makes, if it makes one
abbrev pub comparison_of : Statement → Option Comparison
comparison_of (Prefer a b) = Some (comparison_by relations.Above (Value a b))
comparison_of (AtLeast a b) = Some (comparison_by relations.AtLeast (Value a b))
comparison_of (Same a b) = Some (comparison_by relations.Equal (Value a b))
comparison_of (Stronger p q s) = Some (comparison_by relations.Above (Strength p q s))
comparison_of (AsStrong p q s) = Some (comparison_by relations.AtLeast (Strength p q s))
comparison_of (EqualStrength p q s) = Some (comparison_by relations.Equal (Strength p q s))
comparison_of (Class a lowest highest) = None

-- the classes to which a statement assigns an alternative, if it does
abbrev pub assignment_of : Statement → Option Assignment
assignment_of (Class a lowest highest) = Some (record { alternative = a; lowest = lowest; highest = highest })
assignment_of _ = None

-- every class of the first assignment is above every one of the second
abbrev pub outranks : Assignment → Assignment → Bool
outranks r s = nat_lt s.highest r.lowest

-- what two assignments say together: where the first outranks the second, its alternative is worth more
abbrev pub outranking_by : Option Assignment → Option Assignment → List Comparison
outranking_by (Some r) (Some s) = if outranks r s then comparison_by relations.Above (Value r.alternative s.alternative) ∷ [] else []
outranking_by _ _ = []

abbrev pub outranking : Statement → Statement → List Comparison
outranking r s = outranking_by (assignment_of r) (assignment_of s)

-- what the class statements of a list say together: for each of them in order, what it says with each of them in order
abbrev pub class_comparisons : List Statement → List Comparison
class_comparisons list = flat_map (λ r. flat_map (outranking r) list) list

-- all that a list says: the comparisons of its statements in order, then those of its class statements
abbrev pub comparisons_of : List Statement → List Comparison
comparisons_of list = flat_map (λ s. option_to_list (comparison_of s)) list ++ class_comparisons list

-- ---- numbered statements

abbrev pub numbers_in : List Numbered → List ℕ
numbers_in list = map (λ x. x.number) list

abbrev pub statements_in : List Numbered → List Statement
statements_in list = map (λ x. x.statement) list
