-- Which statements and questions name what a table has.
use Rattle.std.specs.Prelude.{ℕ, ◌<◌, ◌≤◌, Option, Some, None}
use Rattle.ror_statement.specs.declared.comparison.Scope.{Scope}
use Rattle.ror_statement.specs.declared.comparison.Scope.TheVariants.{Whole, One}
use Rattle.ror_statement.specs.declared.comparison.Pair.{Pair}
use Rattle.ror_statement.specs.declared.comparison.Form.{Form}
use Rattle.ror_statement.specs.declared.comparison.Form.TheVariants.{Value, Strength}
use Rattle.ror_statement.specs.declared.comparison.Comparison.{Comparison}
use Rattle.ror_statement.specs.declared.statement.Assignment.{Assignment}
use Rattle.ror_statement.specs.declared.statement.Statement.{Statement}
use Rattle.ror_statement.specs.declared.question.Question.{Question}
use Rattle.ror_statement.specs.declared.question.Property.{Property}
use Rattle.ror_statement.specs.declared.question.Property.TheVariants.{Compatible, AtLeast, InClass}
use Rattle.ror_statement.specs.Statements.{comparison_of, assignment_of}
use Rattle.ror_statement.specs.Questions.{property_of}

abbrev pub ScopeWithin : ℕ → Scope → Type 0
ScopeWithin criteria Whole = Unit {0}
ScopeWithin criteria (One i) = i < criteria

abbrev pub PairWithin : ℕ → Pair → Type 0
PairWithin alternatives p = (p.first < alternatives) × (p.second < alternatives)

-- the form names some of so many alternatives and criteria
abbrev pub NamesWithin : ℕ → ℕ → Form → Type 0
NamesWithin alternatives criteria (Value a b) = (a < alternatives) × (b < alternatives)
NamesWithin alternatives criteria (Strength p q s) =
    PairWithin alternatives p × PairWithin alternatives q × ScopeWithin criteria s

-- the alternative is there, and the classes are some of those from 1 to the last
pub record IsAssignmentWithin (alternatives classes : ℕ) (x : Assignment) : Type 0 where
  pub alternative : x.alternative < alternatives
  pub from_first : 1 ≤ x.lowest
  pub some_class : x.lowest ≤ x.highest
  pub to_last : x.highest ≤ classes

abbrev pub IsComparedWithin : ℕ → ℕ → Option Comparison → Type 0
IsComparedWithin alternatives criteria (Some c) = NamesWithin alternatives criteria c.form
IsComparedWithin alternatives criteria None = Unit {0}

abbrev pub IsAssignedWithin : ℕ → ℕ → Option Assignment → Type 0
IsAssignedWithin alternatives classes (Some x) = IsAssignmentWithin alternatives classes x
IsAssignedWithin alternatives classes None = Unit {0}

-- all that the statement names is in a table of so many alternatives, criteria and classes
pub record IsValid (alternatives criteria classes : ℕ) (s : Statement) : Type 0 where
  pub compared : IsComparedWithin alternatives criteria (comparison_of s)
  pub assigned : IsAssignedWithin alternatives classes (assignment_of s)

abbrev pub IsPropertyWithin : ℕ → ℕ → ℕ → Property → Type 0
IsPropertyWithin alternatives criteria classes Compatible = Unit {0}
IsPropertyWithin alternatives criteria classes (AtLeast form) = NamesWithin alternatives criteria form
IsPropertyWithin alternatives criteria classes (InClass a h) = (a < alternatives) × (1 ≤ h) × (h ≤ classes)

abbrev pub IsValidQuestion : ℕ → ℕ → ℕ → Question → Type 0
IsValidQuestion alternatives criteria classes q = IsPropertyWithin alternatives criteria classes (property_of q)
