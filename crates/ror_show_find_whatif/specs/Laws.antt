-- What holds of what is found.
use Rattle.std.specs.Prelude.{◌≡◌, ◌≢◌, ℕ, ◌<◌, ◌≤◌, List, ◌∷◌, [], Contains, Some, slice_get}
use Rattle.std.specs.List.{AllByRecursion}
use Rattle.std.specs.List.Sorted.{IsStrictlyIncreasing}
use Rattle.ror_statement.specs.declared.comparison.Comparison.{Comparison}
use Rattle.ror_statement.specs.declared.statement.Numbered.{Numbered}
use Rattle.ror_statement.specs.declared.statement.Statement.{Statement}
use Rattle.ror_statement.specs.Statements.{comparison_of, numbers_in}
use Rattle.ror_table.specs.Table.{DecisionTable}
use Rattle.ror_value.specs.Meaning.{Holds, IsConsistent, IsContradictory}
use Rattle.ror_proof.specs.declared.answer.Answer.{Answer}
use Rattle.ror_show_ground.specs.Grounds.{Ground, IsJudged}
use Rattle.ror_show_ground.specs.Meaning.{ByEvery}
use Rattle.ror_show_find_relation.specs.Cells.{cell_rows}
use Rattle.ror_show_find_relation.specs.CellLaws.{AreTrueAnswers, IsWholeRelation}
use Rattle.ror_show_find_classes.specs.declared.sign.Sign.TheVariants as signs
use Rattle.ror_show_find_classes.specs.Signs.{alternative_of, sign_of_class}
use Rattle.ror_show_find_whatif.specs.declared.classes.ClassShift.{ClassShift}
use Rattle.ror_show_find_whatif.specs.declared.classes.ClassShift.TheVariants as class_shifts
use Rattle.ror_show_find_whatif.specs.declared.times.TimeWhatIf.{TimeWhatIf}
use Rattle.ror_show_find_whatif.specs.declared.whatif.WhatIf.{WhatIf}
use Rattle.ror_show_find_whatif.specs.declared.shift.Shift.{Shift}
use Rattle.ror_show_find_whatif.specs.declared.shift.Shift.TheVariants as shifts
use Rattle.ror_show_find_whatif.specs.Changed.{contrary_of, left_of, instead_of}
use Rattle.ror_show_find_whatif.specs.ClassShifts.{shifted_classes}
use Rattle.ror_show_find_whatif.specs.Findings.{AreRelationWhatIfs, AreClassWhatIfs}
use Rattle.ror_show_find_whatif.specs.Meaning.{IsContraryTo, ShiftSays, ClassShiftSays, MeansWhatIf}
use Rattle.ror_show_find_whatif.specs.Shifts.{shifted_pairs}

-- A pair is listed only where it is so: by true answers, of what stands and of what would.
abbrev pub ListedAreSo : Type 0
ListedAreSo = (shift : Shift) (t : DecisionTable) (before after : List Statement) (n : ℕ) (xs ys : List Answer) (a b : ℕ)
    → AreTrueAnswers t before xs → AreTrueAnswers t after ys
    → Contains {X = ℕ × ℕ} (shifted_pairs (cell_rows n xs) (cell_rows n ys) shift) (a, b)
    → ShiftSays shift t before after a b

-- Where both lists have functions that agree with them, and no answer is too wide to say how two alternatives stand, nothing else is lost,
-- weaker, won or stronger.
abbrev pub NothingElseIsSo : Type 0
NothingElseIsSo = (shift : Shift) (t : DecisionTable) (before after : List Statement) (n : ℕ) (xs ys : List Answer) (a b : ℕ)
    → AreTrueAnswers t before xs → AreTrueAnswers t after ys
    → IsWholeRelation t before n xs → IsWholeRelation t after n ys
    → shift ≢ shifts.Unknown → a < n → b < n → a ≢ b → ShiftSays shift t before after a b
    → Contains {X = ℕ × ℕ} (shifted_pairs (cell_rows n xs) (cell_rows n ys) shift) (a, b)

-- ---- classes

abbrev pub ListedClassesAreSo : Type 0
ListedClassesAreSo = (shift : ClassShift) (t : DecisionTable) (before after : List Statement) (xs ys : List Answer) (classes h : ℕ)
    → AreTrueAnswers t before xs → AreTrueAnswers t after ys → alternative_of xs ≡ alternative_of ys
    → Contains {X = ℕ} (shifted_classes classes xs ys shift) h → ClassShiftSays shift t before after (alternative_of xs) h

-- each of so many classes has a sign that says something
abbrev pub AreWholeSigns : ℕ → List Answer → Type 0
AreWholeSigns classes xs = (h : ℕ) → 1 ≤ h → h ≤ classes → sign_of_class xs h ≢ signs.Unknown

-- Where both lists have functions that agree with them, and each sign says something, no other class is so.
abbrev pub NoOtherClassIsSo : Type 0
NoOtherClassIsSo = (shift : ClassShift) (t : DecisionTable) (before after : List Statement) (xs ys : List Answer) (classes h : ℕ)
    → AreTrueAnswers t before xs → AreTrueAnswers t after ys → alternative_of xs ≡ alternative_of ys
    → IsConsistent t before → IsConsistent t after → AreWholeSigns classes xs → AreWholeSigns classes ys
    → shift ≢ class_shifts.Unknown → 1 ≤ h → h ≤ classes → ClassShiftSays shift t before after (alternative_of xs) h
    → Contains {X = ℕ} (shifted_classes classes xs ys shift) h

-- ---- contraries

-- what is given as the contrary of a statement is one
abbrev pub ContrariesAreContrary : Type 0
ContrariesAreContrary = (t : DecisionTable) (s r : Statement) → contrary_of s ≡ Some r → IsContraryTo t s r

-- Where no function agrees with the others and the contrary of a statement, the statement follows from the others: each function that agrees
-- with them has what it says.
abbrev pub ContradictedFollows : Type 0
ContradictedFollows = (t : DecisionTable) (list : List Numbered) (k : ℕ) (x : Numbered) (r : Statement) (c : Comparison)
    → IsStrictlyIncreasing (numbers_in list) → slice_get list k ≡ Some x → contrary_of x.statement ≡ Some r
    → comparison_of x.statement ≡ Some c → IsContradictory t (instead_of x.number r list)
    → ByEvery t (left_of (x.number ∷ []) list) (λ w. Holds t w c)

-- ---- all that is found

-- of a judged ground each finding means what it says
pub record WhatIfsAreMeant : Type 0 where
  pub relations : (g : Ground) (fs : List WhatIf) → IsJudged g → AreRelationWhatIfs g fs → AllByRecursion (MeansWhatIf g) fs
  pub classes : (g : Ground) (fs : List TimeWhatIf) → IsJudged g → AreClassWhatIfs g fs → AllByRecursion (λ f. AllByRecursion (MeansWhatIf g) f.rows) fs
