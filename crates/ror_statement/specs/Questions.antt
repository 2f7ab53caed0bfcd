-- What questions ask: of which compatible functions, and what of each.
use Rattle.ror_statement.specs.declared.comparison.Form.TheVariants.{Value, Strength}
use Rattle.ror_statement.specs.declared.question.Question.{Question}
use Rattle.ror_statement.specs.declared.question.Question.TheVariants.{Consistent, Necessary, Possible, NecessaryStrength, PossibleStrength, PossibleClass, NecessaryClass}
use Rattle.ror_statement.specs.declared.question.QuestionKind.{QuestionKind}
use Rattle.ror_statement.specs.declared.question.QuestionKind.TheVariants.{Plain, Any, Every}
use Rattle.ror_statement.specs.declared.question.Property.{Property}
use Rattle.ror_statement.specs.declared.question.Property.TheVariants.{Compatible, AtLeast, InClass}

abbrev pub kind_of : Question → QuestionKind
kind_of Consistent = Plain
kind_of (Necessary a b) = Every
kind_of (Possible a b) = Any
kind_of (NecessaryStrength p q s) = Every
kind_of (PossibleStrength p q s) = Any
kind_of (PossibleClass a h) = Any
kind_of (NecessaryClass a h) = Every

abbrev pub property_of : Question → Property
property_of Consistent = Compatible
property_of (Necessary a b) = AtLeast (Value a b)
property_of (Possible a b) = AtLeast (Value a b)
property_of (NecessaryStrength p q s) = AtLeast (Strength p q s)
property_of (PossibleStrength p q s) = AtLeast (Strength p q s)
property_of (PossibleClass a h) = InClass a h
property_of (NecessaryClass a h) = InClass a h
