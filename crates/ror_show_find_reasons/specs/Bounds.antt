-- What settles the bounds of the classes between which an alternative is.
use Rattle.std.specs.Prelude.{◌≡◌, ◌==◌, ◌<◌, ℕ, suc, ◌-◌, ◌≤◌, Bool, true, false, not, ◌&&◌, List, slice_get, Option, Some, None}
use Rattle.std.specs.List.{find, AllByRecursion, AllZip}
use Rattle.ror_statement.specs.declared.statement.Numbered.{Numbered}
use Rattle.ror_statement.specs.declared.statement.Statement.{Statement}
use Rattle.ror_statement.specs.declared.question.Conclusion.TheVariants as conclusions
use Rattle.ror_statement.specs.declared.question.Question.{Question}
use Rattle.ror_statement.specs.declared.question.Question.TheVariants.{PossibleClass}
use Rattle.ror_table.specs.Table.{DecisionTable}
use Rattle.ror_value.specs.Meaning.{IsConsistent, worst_class, best_class}
use Rattle.ror_proof.specs.declared.answer.Answer.{Answer}
use Rattle.ror_proof.specs.declared.answer.Verdict.{Verdict}
use Rattle.ror_proof.specs.declared.answer.Verdict.TheVariants as verdicts
use Rattle.ror_check.specs.Repair.{AreNumbersIn}
use Rattle.ror_pivot.specs.declared.note.Bits.TheVariants.{B127}
use Rattle.ror_pivot.specs.Answers.{most_of}
use Rattle.ror_report.specs.Text.{answers_of}
use Rattle.ror_bench.specs.declared.kept.KeptLine.{KeptLine}
use Rattle.ror_show_ground.specs.Meaning.{ByEvery}
use Rattle.ror_reason.specs.declared.reducts.Reason.{Reason}
use Rattle.ror_reason.specs.declared.reducts.Reason.TheVariants as reasons
use Rattle.ror_reason.specs.Reasons.{IsWideReason}
use Rattle.ror_reason.specs.Reducts.{stated, without}
use Rattle.ror_show_find_classes.specs.Signs.{alternative_of}
use Rattle.ror_show_find_classes.specs.Intervals.{lowest, highest}
use Rattle.ror_show_ground.specs.Grounds.{Ground}
use Rattle.ror_show_find_classes.specs.declared.findings.ClassLine.{ClassLine}
use Rattle.ror_show_find_classes.specs.Findings.{IsTimeFound}
use Rattle.ror_show_find_classes.specs.Times.{times}
use Rattle.ror_show_find_reasons.specs.declared.bounds.Side.{Side}
use Rattle.ror_show_find_reasons.specs.declared.bounds.Side.TheVariants.{Below, Above}
use Rattle.ror_show_find_reasons.specs.declared.bounds.Bound.{Bound}
use Rattle.ror_show_find_reasons.specs.declared.bounds.Bounds.{Bounds}
use Rattle.ror_show_find_reasons.specs.declared.bounds.ClassesFound.{ClassesFound}
use Rattle.ror_show_find_reasons.specs.Carrying.{HasReason}

-- ---- which answer settles it

-- the least of the classes that the answers don't exclude, or the greatest; 0 where they exclude each
abbrev pub end_of : Side → List Answer → ℕ → ℕ
end_of Below xs classes = lowest xs classes
end_of Above xs classes = highest xs classes

-- the class is the next one beyond an end
abbrev pub is_next : Side → ℕ → ℕ → Bool
is_next Below end h = h == end - 1
is_next Above end h = h - 1 == end

-- where some class is left
abbrev pub is_beyond : Side → ℕ → ℕ → Bool
is_beyond side end h = not (end == 0) && is_next side end h

-- the answer is no, to whether by some function the alternative may belong to the class beyond the end
abbrev pub is_no_beyond : Side → ℕ → ℕ → Question → Verdict → Bool
is_no_beyond side end a (PossibleClass x h) (verdicts.No proof) = x == a && is_beyond side end h
is_no_beyond side end a _ _ = false

abbrev pub excludes : Side → ℕ → ℕ → Answer → Bool
excludes side end a x = is_no_beyond side end a x.question x.verdict

-- ---- what is found

-- the bound that an answer settles, with the reason why the answer is no, which may be one of several
abbrev pub IsBoundBy : ℕ → DecisionTable → List Numbered → Answer → Option Bound → Type 0
IsBoundBy end t list x f = (reason : Reason) × HasReason t list x.question x.verdict (Some reason)
    × (f ≡ Some (record { class = end; reason = reason }))

-- none, where no answer does
abbrev pub IsBoundWhere : ℕ → DecisionTable → List Numbered → Option Answer → Option Bound → Type 0
IsBoundWhere end t list (Some x) f = IsBoundBy end t list x f
IsBoundWhere end t list None f = f ≡ None

abbrev pub IsBoundFrom : Side → ℕ → DecisionTable → List Numbered → List Answer → Option Bound → Type 0
IsBoundFrom side end t list xs f = IsBoundWhere end t list (find (excludes side end (alternative_of xs)) xs) f

-- the bound on a side, by the answers on the classes of an alternative
abbrev pub IsBound : Side → DecisionTable → List Numbered → List Answer → Option Bound → Type 0
IsBound side t list xs f = IsBoundFrom side (end_of side xs t.classes) t list xs f

abbrev pub AreBounds : DecisionTable → List Numbered → List Answer → Bounds → Type 0
AreBounds t list xs f = IsBound Below t list xs f.below × IsBound Above t list xs f.above

-- over what stood, where that is kept
abbrev pub no_bounds : Bounds
no_bounds = record { below = None; above = None }

abbrev pub AreBoundsOver : DecisionTable → List Answer → Option (List Numbered) → Bounds → Type 0
AreBoundsOver t xs (Some list) f = AreBounds t list xs f
AreBoundsOver t xs None f = f ≡ no_bounds

-- where they are sought
abbrev pub AreBoundsWhere : Bool → DecisionTable → KeptLine → Bounds → Type 0
AreBoundsWhere true t x f = AreBoundsOver t (answers_of x.block.body) x.standing f
AreBoundsWhere false t x f = f ≡ no_bounds

-- of the kept line at a place
abbrev pub AreBoundsAt : Bool → Ground → ℕ → Bounds → Type 0
AreBoundsAt sought g n f = (x : KeptLine) × (slice_get g.kept n ≡ Some x) × AreBoundsWhere sought g.table x f

-- the row is of one of so many kept lines
abbrev pub IsRowWithin : ℕ → ClassLine → Type 0
IsRowWithin n row = row.place < n

-- of each row, in order
abbrev pub AreBoundsOf : Bool → Ground → ClassLine → Bounds → Type 0
AreBoundsOf sought g row f = AreBoundsAt sought g row.place f

abbrev pub AreRowBounds : Bool → Ground → List ClassLine → List Bounds → Type 0
AreRowBounds sought g rows fs = AllZip (AreBoundsOf sought g) rows fs

-- one time: its rows, and the bounds of each
pub record IsClassesFound (sought : Bool) (g : Ground) (n : ℕ) (f : ClassesFound) : Type 0 where
  pub time : IsTimeFound g n f.time
  pub bounds : AreRowBounds sought g f.time.rows f.bounds

-- at the times that the lines at these places begin, in order
abbrev pub AreClassesAt : Bool → Ground → List ℕ → List ClassesFound → Type 0
AreClassesAt sought g starts fs = AllZip (IsClassesFound sought g) starts fs

-- at each time
abbrev pub AreClassesFound : Bool → Ground → List ClassesFound → Type 0
AreClassesFound sought g fs = AreClassesAt sought g (times g.session g.kept) fs

-- ---- what it means over all value functions

-- by every value function that agrees with the statements the alternative is not below the class, or not above it
abbrev pub IsWithin : Side → DecisionTable → List Statement → ℕ → ℕ → Type 0
IsWithin Below t list a end = ByEvery t list (λ w. end ≤ worst_class t list w a)
IsWithin Above t list a end = ByEvery t list (λ w. best_class t list w a ≤ end)

-- The numbers name statements of the list. Some function agrees with these, and by every one that does the alternative is not beyond the
-- end; of those that agree with all of them but one, not by every one.
pub record AreNeeded (side : Side) (t : DecisionTable) (list : List Numbered) (a end : ℕ) (ns : List ℕ) : Type 0 where
  pub numbers : AreNumbersIn list ns
  pub consistent : IsConsistent t (stated ns list)
  pub settle : IsWithin side t (stated ns list) a end
  pub needed : AllByRecursion (λ n. IsWithin side t (stated (without n ns) list) a end → ⊥) ns

-- they are that; or they exclude the class beyond the end, and of some of them that isn't known, since over the others a number passes the
-- greatest width
abbrev pub SettlesBound : Side → DecisionTable → List Numbered → ℕ → ℕ → ℕ → Reason → Type 0
SettlesBound side t list a end h (reasons.Carried x) = AreNeeded side t list a end x.numbers
SettlesBound side t list a end h (reasons.Wide ns x others) =
    IsWideReason (most_of B127) t list (PossibleClass a h) conclusions.No ns x others
SettlesBound side t list a end h _ = ⊥

-- the class is the next one below the least that is left, or above the greatest
abbrev pub IsNextTo : Side → ℕ → ℕ → Type 0
IsNextTo Below end h = suc h ≡ end
IsNextTo Above end h = h ≡ suc end

-- a bound of an alternative says so: it isn't beyond the class, and statements settle that
pub record MeansBound (side : Side) (t : DecisionTable) (list : List Numbered) (a : ℕ) (f : Bound) : Type 0 where
  pub class : ℕ
  pub from : 1 ≤ class
  pub within : class ≤ t.classes
  pub next : IsNextTo side f.class class
  pub named : SettlesBound side t list a f.class class f.reason
