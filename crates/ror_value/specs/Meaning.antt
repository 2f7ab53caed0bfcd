-- What a statement means of a value function, and which conclusion answers a question.
use Rattle.std.specs.Prelude.{◌≡◌, ℕ, ◌≤◌, max, min, int_le, List, map, ℤ, ◌-ℤ◌, ◌≤ℤ◌, ◌<ℤ◌}
use Rattle.std.specs.List.{AllByRecursion, filter, filter_map, fold}
use Rattle.ror_statement.specs.declared.comparison.Scope.{Scope}
use Rattle.ror_statement.specs.declared.comparison.Scope.TheVariants.{Whole, One}
use Rattle.ror_statement.specs.declared.comparison.Pair.{Pair}
use Rattle.ror_statement.specs.declared.comparison.Form.{Form}
use Rattle.ror_statement.specs.declared.comparison.Form.TheVariants.{Value, Strength}
use Rattle.ror_statement.specs.declared.comparison.Relation.{Relation}
use Rattle.ror_statement.specs.declared.comparison.Relation.TheVariants.{Above, AtLeast, Equal}
use Rattle.ror_statement.specs.declared.comparison.Comparison.{Comparison}
use Rattle.ror_statement.specs.declared.statement.Assignment.{Assignment}
use Rattle.ror_statement.specs.declared.statement.Statement.{Statement}
use Rattle.ror_statement.specs.declared.question.QuestionKind.{QuestionKind}
use Rattle.ror_statement.specs.declared.question.QuestionKind.TheVariants.{Plain, Any, Every}
use Rattle.ror_statement.specs.declared.question.Property.{Property}
use Rattle.ror_statement.specs.declared.question.Property.TheVariants as property
use Rattle.ror_statement.specs.declared.question.Question.{Question}
use Rattle.ror_statement.specs.declared.question.Conclusion.{Conclusion}
use Rattle.ror_statement.specs.declared.question.Conclusion.TheVariants.{Yes, No, Contradiction}
use Rattle.ror_statement.specs.Statements.{comparisons_of, assignment_of}
use Rattle.ror_statement.specs.Questions.{kind_of, property_of}
use Rattle.ror_table.specs.Table.{DecisionTable, rank}
use Rattle.ror_value.specs.Value.{IsValueFunction, marginal, value}

-- an alternative's value over all criteria, or its marginal value on one
abbrev pub value_in : DecisionTable → List ℤ → Scope → ℕ → ℤ
value_in t w Whole a = value t w a
value_in t w (One i) a = marginal t w i (rank t a i)

-- by how much the first of a pair is worth more than the second
abbrev pub strength : DecisionTable → List ℤ → Scope → Pair → ℤ
strength t w s p = value_in t w s p.first -ℤ value_in t w s p.second

-- the two quantities that a function gives to a form
abbrev pub first_quantity : DecisionTable → List ℤ → Form → ℤ
first_quantity t w (Value a b) = value t w a
first_quantity t w (Strength p q s) = strength t w s p

abbrev pub second_quantity : DecisionTable → List ℤ → Form → ℤ
second_quantity t w (Value a b) = value t w b
second_quantity t w (Strength p q s) = strength t w s q

-- one number stands to another as the relation says
abbrev pub Stands : Relation → ℤ → ℤ → Type 0
Stands Above x y = y <ℤ x
Stands AtLeast x y = y ≤ℤ x
Stands Equal x y = x ≡ y

-- a function has the two quantities of the comparison in its relation
abbrev pub Holds : DecisionTable → List ℤ → Comparison → Type 0
Holds t w c = Stands c.relation (first_quantity t w c.form) (second_quantity t w c.form)

-- a function meets all that the list says
abbrev pub Meets : DecisionTable → List ℤ → List Statement → Type 0
Meets t w list = AllByRecursion (Holds t w) (comparisons_of list)

pub record IsCompatible (t : DecisionTable) (list : List Statement) (w : List ℤ) : Type 0 where
  pub function : IsValueFunction t w
  pub meets : Meets t w list

-- some value function is compatible with the list
abbrev pub IsConsistent : DecisionTable → List Statement → Type 0
IsConsistent t list = (w : List ℤ) × IsCompatible t list w

-- no value function is compatible with the list
abbrev pub IsContradictory : DecisionTable → List Statement → Type 0
IsContradictory t list = (w : List ℤ) → IsCompatible t list w → ⊥

-- the assignments to classes that the list makes, in order
abbrev pub assignments_of : List Statement → List Assignment
assignments_of list = filter_map assignment_of list

-- the worst class to which the alternative may belong by its value: the best of the lowest classes of the assigned
-- alternatives that are worth at most as much, and of the worst class of all
abbrev pub worst_class : DecisionTable → List Statement → List ℤ → ℕ → ℕ
worst_class t list w a =
    fold max 1 (map (λ x. x.lowest)
    (filter (λ x. int_le (value t w x.alternative) (value t w a)) (assignments_of list)))

-- the best class to which it may belong: the worst of the highest classes of the assigned alternatives that are worth at
-- least as much, and of the best class of all
abbrev pub best_class : DecisionTable → List Statement → List ℤ → ℕ → ℕ
best_class t list w a =
    fold min t.classes (map (λ x. x.highest)
    (filter (λ x. int_le (value t w a) (value t w x.alternative)) (assignments_of list)))

-- a compatible function has what a question asks of it
abbrev pub Has : DecisionTable → List Statement → List ℤ → Property → Type 0
Has t list w property.Compatible = Unit {0}
Has t list w (property.AtLeast form) = second_quantity t w form ≤ℤ first_quantity t w form
Has t list w (property.InClass a h) = (worst_class t list w a ≤ h) × (h ≤ best_class t list w a)

-- the compatible functions over which it is asked have the property: some one, or every one
abbrev pub HoldsOfCompatible : DecisionTable → List Statement → QuestionKind → Property → Type 0
HoldsOfCompatible t list Plain p = IsConsistent t list
HoldsOfCompatible t list Any p = (w : List ℤ) × IsCompatible t list w × Has t list w p
HoldsOfCompatible t list Every p = (w : List ℤ) → IsCompatible t list w → Has t list w p

-- the conclusion answers the question over the list
abbrev pub Answers : DecisionTable → List Statement → Question → Conclusion → Type 0
Answers t list q Yes = IsConsistent t list × HoldsOfCompatible t list (kind_of q) (property_of q)
Answers t list q No = IsConsistent t list × (HoldsOfCompatible t list (kind_of q) (property_of q) → ⊥)
Answers t list q Contradiction = IsContradictory t list
