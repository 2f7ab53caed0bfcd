-- What is found says of all value functions: of those that agree with what stands, and of those that agree with what would.
use Rattle.std.specs.Prelude.{◌≡◌, ◌↔◌, ℕ, List, ◌∷◌, [], slice_get, Contains, Some, ℤ}
use Rattle.std.specs.List.{AllZip}
use Rattle.ror_statement.specs.declared.comparison.Comparison.{Comparison}
use Rattle.ror_statement.specs.declared.statement.Numbered.{Numbered}
use Rattle.ror_statement.specs.declared.statement.Statement.{Statement}
use Rattle.ror_statement.specs.Statements.{comparison_of, statements_in}
use Rattle.ror_table.specs.Table.{DecisionTable}
use Rattle.ror_value.specs.Value.{value}
use Rattle.ror_value.specs.Meaning.{Holds, IsConsistent, IsContradictory}
use Rattle.ror_value.specs.Laws.{IsNecessarilyPreferred}
use Rattle.ror_proof.specs.declared.answer.Answer.{Answer}
use Rattle.ror_report.specs.Text.{answers_of}
use Rattle.ror_bench.specs.declared.kept.KeptLine.{KeptLine}
use Rattle.ror_show_ground.specs.Grounds.{Ground}
use Rattle.ror_show_ground.specs.Meaning.{ByEvery, BySome}
use Rattle.ror_show_find_relation.specs.Meaning.{IsAlwaysBetter}
use Rattle.ror_show_find_relation.specs.WholeLaws.{IsPreferredAlone}
use Rattle.ror_show_find_classes.specs.Meaning.{MayBelong}
use Rattle.ror_show_find_classes.specs.Signs.{alternative_of}
use Rattle.ror_show_find_whatif.specs.declared.agreement.Agreement.{Agreement}
use Rattle.ror_show_find_whatif.specs.declared.agreement.Agreement.TheVariants.{Agrees, Contradicts, Unknown}
use Rattle.ror_show_find_whatif.specs.declared.classes.ClassEffect.{ClassEffect}
use Rattle.ror_show_find_whatif.specs.declared.classes.ClassShift.{ClassShift}
use Rattle.ror_show_find_whatif.specs.declared.classes.ClassShift.TheVariants as class_shifts
use Rattle.ror_show_find_whatif.specs.declared.cases.Case.{Case}
use Rattle.ror_show_find_whatif.specs.declared.cases.Contrary.{Contrary}
use Rattle.ror_show_find_whatif.specs.declared.whatif.WhatIf.{WhatIf}
use Rattle.ror_show_find_whatif.specs.declared.outcome.Effect.{Effect}
use Rattle.ror_show_find_whatif.specs.declared.outcome.Effect.TheVariants.{OfPairs, OfClasses}
use Rattle.ror_show_find_whatif.specs.declared.outcome.Outcome.{Outcome}
use Rattle.ror_show_find_whatif.specs.declared.pairs.PairEffect.{PairEffect}
use Rattle.ror_show_find_whatif.specs.declared.shift.Shift.{Shift}
use Rattle.ror_show_find_whatif.specs.declared.shift.Shift.TheVariants as shifts
use Rattle.ror_show_find_whatif.specs.Changed.{left_of, instead_of}

-- ---- agreement

abbrev pub AgreementSays : DecisionTable → List Statement → Agreement → Type 0
AgreementSays t list Agrees = IsConsistent t list
AgreementSays t list Contradicts = IsContradictory t list
AgreementSays t list Unknown = Unit {0}

-- ---- pairs

-- by every function that agrees with the list the first is worth at least as much as the second, and by some one the same
pub record IsPreferredWithTie (t : DecisionTable) (list : List Statement) (a b : ℕ) : Type 0 where
  pub preferred : IsNecessarilyPreferred t list a b
  pub tie : BySome t list (λ w. value t w a ≡ value t w b)

-- what becomes of a pair: lost is what holds of every function that agrees with what stands, and not of every one that agrees with what would
abbrev pub ShiftSays : Shift → DecisionTable → List Statement → List Statement → ℕ → ℕ → Type 0
ShiftSays shifts.Lost t before after a b = IsPreferredAlone t before after a b
ShiftSays shifts.Weaker t before after a b = IsAlwaysBetter t before a b × IsPreferredWithTie t after a b
ShiftSays shifts.Won t before after a b = IsPreferredAlone t after before a b
ShiftSays shifts.Stronger t before after a b = IsPreferredWithTie t before a b × IsAlwaysBetter t after a b
ShiftSays shifts.Unknown t before after a b = Unit {0}

-- so it is of each pair of a list
abbrev pub PairsSay : Shift → DecisionTable → List Statement → List Statement → List (ℕ × ℕ) → Type 0
PairsSay shift t before after pairs = (a b : ℕ) → Contains {X = ℕ × ℕ} pairs (a, b) → ShiftSays shift t before after a b

pub record MeansPairs (t : DecisionTable) (before after : List Statement) (f : PairEffect) : Type 0 where
  pub lost : PairsSay shifts.Lost t before after f.lost
  pub weaker : PairsSay shifts.Weaker t before after f.weaker
  pub won : PairsSay shifts.Won t before after f.won
  pub stronger : PairsSay shifts.Stronger t before after f.stronger

-- ---- classes

-- some function that agrees with the list lets the alternative belong to the class; each does
abbrev pub MayBelongBySome : DecisionTable → List Statement → ℕ → ℕ → Type 0
MayBelongBySome t list a h = BySome t list (MayBelong t list a h)

abbrev pub MayBelongByEvery : DecisionTable → List Statement → ℕ → ℕ → Type 0
MayBelongByEvery t list a h = ByEvery t list (MayBelong t list a h)

-- What becomes of a class: opened is one to which no function that agrees with what stands lets the alternative belong, and some function
-- that agrees with what would does.
abbrev pub ClassShiftSays : ClassShift → DecisionTable → List Statement → List Statement → ℕ → ℕ → Type 0
ClassShiftSays class_shifts.Opened t before after a h = (MayBelongBySome t before a h → ⊥) × MayBelongBySome t after a h
ClassShiftSays class_shifts.Closed t before after a h = MayBelongBySome t before a h × (MayBelongBySome t after a h → ⊥)
ClassShiftSays class_shifts.Loosened t before after a h =
    MayBelongByEvery t before a h × MayBelongBySome t after a h × (MayBelongByEvery t after a h → ⊥)
ClassShiftSays class_shifts.Bound t before after a h =
    MayBelongBySome t before a h × (MayBelongByEvery t before a h → ⊥) × MayBelongByEvery t after a h
ClassShiftSays class_shifts.Unknown t before after a h = Unit {0}

abbrev pub ClassesSay : ClassShift → DecisionTable → List Statement → List Statement → ℕ → List ℕ → Type 0
ClassesSay shift t before after a classes = (h : ℕ) → Contains {X = ℕ} classes h → ClassShiftSays shift t before after a h

pub record MeansClasses (t : DecisionTable) (before after : List Statement) (a : ℕ) (f : ClassEffect) : Type 0 where
  pub opened : ClassesSay class_shifts.Opened t before after a f.opened
  pub closed : ClassesSay class_shifts.Closed t before after a f.closed
  pub loosened : ClassesSay class_shifts.Loosened t before after a f.loosened
  pub bound : ClassesSay class_shifts.Bound t before after a f.bound

-- ---- an outcome

abbrev pub MeansEffect : DecisionTable → List Statement → List Statement → List Answer → Effect → Type 0
MeansEffect t before after xs (OfPairs f) = MeansPairs t before after f
MeansEffect t before after xs (OfClasses f) = MeansClasses t before after (alternative_of xs) f

pub record MeansOutcome (t : DecisionTable) (before after : List Statement) (xs : List Answer) (f : Outcome) : Type 0 where
  pub agreement : AgreementSays t after f.agreement
  pub effect : MeansEffect t before after xs f.effect

-- ---- a statement

-- a function has the one comparison exactly where it hasn't the other
abbrev pub AreContrary : DecisionTable → Comparison → Comparison → Type 0
AreContrary t c d = (w : List ℤ) → Holds t w c ↔ (Holds t w d → ⊥)

-- both statements make a comparison, and these are contrary
pub record IsContraryTo (t : DecisionTable) (s r : Statement) : Type 0 where
  pub says : Comparison
  pub denies : Comparison
  pub first : comparison_of s ≡ Some says
  pub second : comparison_of r ≡ Some denies
  pub contrary : AreContrary t says denies

pub record MeansContrary (t : DecisionTable) (list : List Numbered) (xs : List Answer) (x : Numbered) (f : Contrary) : Type 0 where
  pub contrary : IsContraryTo t x.statement f.statement
  pub outcome : MeansOutcome t (statements_in list) (instead_of x.number f.statement list) xs f.outcome

pub record MeansCase (t : DecisionTable) (list : List Numbered) (xs : List Answer) (x : Numbered) (f : Case) : Type 0 where
  pub stated : f.stated ≡ x
  pub withdrawn : MeansOutcome t (statements_in list) (left_of (x.number ∷ []) list) xs f.withdrawn
  pub contrary : (c : Contrary) → f.contrary ≡ Some c → MeansContrary t list xs x c

-- ---- a line

-- whether some function agrees with what stood, and what hangs on each statement of it
pub record MeansOver (t : DecisionTable) (list : List Numbered) (xs : List Answer) (f : WhatIf) : Type 0 where
  pub agreement : AgreementSays t (statements_in list) f.agreement
  pub cases : AllZip (MeansCase t list xs) list f.cases

pub record MeansWhatIf (g : Ground) (f : WhatIf) : Type 0 where
  pub line : KeptLine
  pub there : slice_get g.kept f.place ≡ Some line
  pub over : (list : List Numbered) → line.standing ≡ Some list → MeansOver g.table list (answers_of line.block.body) f
