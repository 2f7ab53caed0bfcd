-- What a sign says of all value functions that are compatible with the statements.
use Rattle.std.specs.Prelude.{ℕ, List, ℤ}
use Rattle.ror_statement.specs.declared.statement.Statement.{Statement}
use Rattle.ror_statement.specs.declared.question.Property.TheVariants.{InClass}
use Rattle.ror_table.specs.Table.{DecisionTable}
use Rattle.ror_value.specs.Meaning.{Has, IsConsistent, IsContradictory}
use Rattle.ror_show_ground.specs.Meaning.{ByEvery, BySome}
use Rattle.ror_show_find_classes.specs.declared.sign.Sign.{Sign}
use Rattle.ror_show_find_classes.specs.declared.sign.Sign.TheVariants as signs

-- by the function the alternative may belong to the class
abbrev pub MayBelong : DecisionTable → List Statement → ℕ → ℕ → List ℤ → Type 0
MayBelong t list a h w = Has t list w (InClass a h)

-- some function is compatible, and by every one it may belong to the class
pub record IsNecessaryClass (t : DecisionTable) (list : List Statement) (a h : ℕ) : Type 0 where
  pub consistent : IsConsistent t list
  pub by_every : ByEvery t list (MayBelong t list a h)

-- by some compatible function it may belong to the class, and not by every one
pub record IsPossibleClass (t : DecisionTable) (list : List Statement) (a h : ℕ) : Type 0 where
  pub by_some : BySome t list (MayBelong t list a h)
  pub not_by_every : ByEvery t list (MayBelong t list a h) → ⊥

-- some function is compatible, and by none it may belong to the class
pub record IsImpossibleClass (t : DecisionTable) (list : List Statement) (a h : ℕ) : Type 0 where
  pub consistent : IsConsistent t list
  pub by_none : BySome t list (MayBelong t list a h) → ⊥

-- what the sign of an alternative and a class says
abbrev pub SignSays : DecisionTable → List Statement → Sign → ℕ → ℕ → Type 0
SignSays t list signs.Necessary a h = IsNecessaryClass t list a h
SignSays t list signs.Possible a h = IsPossibleClass t list a h
SignSays t list signs.Impossible a h = IsImpossibleClass t list a h
SignSays t list signs.Contradiction a h = IsContradictory t list
SignSays t list signs.Unknown a h = Unit {0}
