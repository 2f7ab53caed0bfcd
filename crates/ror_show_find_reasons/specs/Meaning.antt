-- What each finding says of all value functions that agree with what stood: one definition a sort, and one law for all that is found.
use Rattle.std.specs.Prelude.{◌≡◌, ◌≢◌, ◌⊎◌, ◌↔◌, ℕ, ◌+◌, ◌<◌, ◌≤◌, Bool, true, false, List, [], ◌++◌, length, map, slice_get, Contains, Option, Some, None, ℤ, IfSome}
use Rattle.std.specs.List.{AllByRecursion, list_any}
use Rattle.ror_statement.specs.declared.statement.Numbered.{Numbered}
use Rattle.ror_statement.specs.declared.statement.Statement.{Statement}
use Rattle.ror_statement.specs.declared.question.Conclusion.{Conclusion}
use Rattle.ror_statement.specs.declared.question.Conclusion.TheVariants.{Yes, No, Contradiction}
use Rattle.ror_statement.specs.declared.question.Question.{Question}
use Rattle.ror_statement.specs.declared.question.Question.TheVariants.{Consistent, Necessary, Possible, PossibleClass}
use Rattle.ror_statement.specs.Questions.{kind_of, property_of}
use Rattle.ror_statement.specs.Statements.{statements_in}
use Rattle.ror_table.specs.Table.{DecisionTable}
use Rattle.ror_value.specs.Meaning.{Has, IsCompatible, IsConsistent, IsContradictory, Answers}
use Rattle.ror_proof.specs.declared.answer.Answer.{Answer}
use Rattle.ror_check.specs.Proof.{IsWide, is_wide}
use Rattle.ror_check.specs.Repair.{AreNumbersIn, is_among}
use Rattle.ror_report.specs.Text.{answers_of}
use Rattle.ror_bench.specs.declared.kept.KeptLine.{KeptLine}
use Rattle.ror_show_find_relation.specs.declared.change.Change.TheVariants as changes
use Rattle.ror_show_ground.specs.Meaning.{ByEvery, BySome}
use Rattle.ror_value.specs.Laws.{IsNecessarilyPreferred}
use Rattle.ror_show_find_relation.specs.Meaning.{Says}
use Rattle.ror_show_find_relation.specs.Brought.{turned as turned_pairs}
use Rattle.ror_show_find_relation.specs.CellLaws.{IsWholeRelation}
use Rattle.ror_show_find_relation.specs.Levels.{level_at, IsBefore}
use Rattle.ror_show_find_relation.specs.Relations.{Path}
use Rattle.ror_show_find_relation.specs.Rows.{cell_in}
use Rattle.ror_show_find_relation.specs.DifferenceLaws.{IsTrueChange}
use Rattle.ror_show_find_relation.specs.WholeLaws.{IsWholeChange}
use Rattle.ror_show_find_relation.specs.declared.differences.Differences.{Differences}
use Rattle.ror_show_find_classes.specs.declared.sign.Sign.{Sign}
use Rattle.ror_show_find_classes.specs.declared.sign.Sign.TheVariants.{Impossible, Unknown}
use Rattle.ror_show_find_classes.specs.declared.value.ClassRow.{ClassRow}
use Rattle.ror_show_find_classes.specs.declared.changes.ClassChangeFound.{ClassChangeFound}
use Rattle.ror_show_find_classes.specs.declared.changes.RowChange.{RowChange}
use Rattle.ror_show_find_classes.specs.ChangeLaws.{ChangeSays}
use Rattle.ror_show_find_classes.specs.ClassChanges.{AreClassChanges}
use Rattle.ror_show_find_classes.specs.Meaning.{MayBelong, SignSays}
use Rattle.ror_show_find_classes.specs.TimeTurns.{turns}
use Rattle.ror_show_find_classes.specs.Values.{interval_of, class_times}
use Rattle.ror_reason.specs.declared.reducts.Reason.{Reason}
use Rattle.ror_reason.specs.declared.reducts.Reason.TheVariants as reasons
use Rattle.ror_reason.specs.declared.reducts.Reduct.{Reduct}
use Rattle.ror_reason.specs.Functions.{IsDeciding, IsBeside, IsAgainst}
use Rattle.ror_reason.specs.Reasons.{one_has, one_lacks, leaves_class}
use Rattle.ror_reason.specs.Reducts.{stated, without, RestsOnPart, IsReduct, Concludes}
use Rattle.ror_show_ground.specs.Grounds.{Ground, IsJudged}
use Rattle.ror_show_find_classes.specs.declared.findings.ClassLine.{ClassLine}
use Rattle.ror_show_find_reasons.specs.declared.pairs.CarriedPair.{CarriedPair}
use Rattle.ror_show_find_reasons.specs.declared.pairs.RelationFound.{RelationFound}
use Rattle.ror_show_find_reasons.specs.declared.pairs.ChangeFound.{ChangeFound}
use Rattle.ror_show_find_reasons.specs.declared.bounds.Bound.{Bound}
use Rattle.ror_show_find_reasons.specs.declared.bounds.Side.{Side}
use Rattle.ror_show_find_reasons.specs.declared.bounds.Side.TheVariants.{Below, Above}
use Rattle.ror_show_find_reasons.specs.declared.bounds.Bounds.{Bounds}
use Rattle.ror_show_find_reasons.specs.declared.bounds.ClassesFound.{ClassesFound}
use Rattle.ror_show_find_reasons.specs.declared.lines.Meant.{Meant}
use Rattle.ror_show_find_reasons.specs.declared.lines.Meant.TheVariants.{All}
use Rattle.ror_show_find_reasons.specs.declared.lines.Told.{Told}
use Rattle.ror_show_find_reasons.specs.declared.lines.DropFound.{DropFound}
use Rattle.ror_show_find_reasons.specs.declared.lines.LineFound.{LineFound}
use Rattle.ror_show_find_reasons.specs.Pairs.{MeansCarried, IsBetterTold, AreRelationsFound, AreChangesFound}
use Rattle.ror_show_find_reasons.specs.Bounds.{IsNextTo, MeansBound, AreClassesFound}
use Rattle.ror_show_find_reasons.specs.Lines.{clash_list, dropped_by, AreLinesFound}

-- ---- a reason

-- The numbers are those of a reduct; and beside each stands a function that agrees with all the others, and is against what is concluded.
pub record MeansReduct (t : DecisionTable) (list : List Numbered) (q : Question) (c : Conclusion) (x : Reduct) : Type 0 where
  pub reduct : IsReduct t list q c x.numbers
  pub as_many : length x.others ≡ length x.numbers
  pub against : (k n : ℕ) (other : Answer) → slice_get x.numbers k ≡ Some n → slice_get x.others k ≡ Some other
      → (w : List ℤ) × IsBeside c other w × IsCompatible t (stated (without n x.numbers) list) w
      × IsAgainst t (stated (without n x.numbers) list) q c w

-- The part of these numbers carries the answer. Without a number that a narrow answer stands beside it doesn't; of some other that isn't
-- known.
pub record MeansWide (t : DecisionTable) (list : List Numbered) (q : Question) (c : Conclusion) (ns : List ℕ)
    (others : List Answer) : Type 0 where
  pub rests : RestsOnPart q c
  pub numbers : AreNumbersIn list ns
  pub carries : Answers t (stated ns list) q c
  pub as_many : length others ≡ length ns
  pub needed : (k n : ℕ) (other : Answer) → slice_get ns k ≡ Some n → slice_get others k ≡ Some other
      → is_wide other.verdict ≡ false → Answers t (stated (without n ns) list) q c → ⊥
  pub unknown : list_any (λ other. is_wide other.verdict) others ≡ true

-- statements carry it, and none of them can be spared, or as far as that is known; one function that agrees shows it; or every function
-- that agrees leaves the alternative the class
abbrev pub MeansReason : DecisionTable → List Numbered → Question → Conclusion → Reason → Type 0
MeansReason t list q c (reasons.Carried x) = MeansReduct t list q c x
MeansReason t list q c (reasons.Wide ns x others) = MeansWide t list q c ns others
MeansReason t list q c (reasons.OneHas x) = (one_has (kind_of q) c ≡ true) × ((w : List ℤ) × IsDeciding x w
    × IsCompatible t (statements_in list) w × Has t (statements_in list) w (property_of q))
MeansReason t list q c (reasons.OneLacks x) = (one_lacks (kind_of q) c ≡ true) × ((w : List ℤ) × IsDeciding x w
    × IsCompatible t (statements_in list) w × (Has t (statements_in list) w (property_of q) → ⊥))
MeansReason t list q c (reasons.ClassLeft x) = (leaves_class (kind_of q) (property_of q) c ≡ true)
    × ByEvery t (statements_in list) (λ w. Has t (statements_in list) w (property_of q))
MeansReason t list q c (reasons.WhollyWide system note) = ⊥

-- there is one, and it means that
abbrev pub MeansFound : DecisionTable → List Numbered → Question → Conclusion → Option Reason → Type 0
MeansFound t list q c (Some reason) = MeansReason t list q c reason
MeansFound t list q c None = ⊥

-- of a pair, why the first is at least as good as the second by every function
abbrev pub MeansPair : DecisionTable → List Numbered → CarriedPair → Type 0
MeansPair t list f = MeansFound t list (Necessary f.pair.0 f.pair.1) Yes f.reason

-- and why it is always better, where that is said
abbrev pub MeansFoundWhere : DecisionTable → List Numbered → Question → Conclusion → Option Reason → Type 0
MeansFoundWhere t list q c (Some reason) = MeansReason t list q c reason
MeansFoundWhere t list q c None = Unit {0}

abbrev pub MeansBetter : DecisionTable → List Numbered → CarriedPair → Type 0
MeansBetter t list f = MeansFoundWhere t list (Possible f.pair.1 f.pair.0) No f.better

-- ---- a relation

-- by every function that agrees the one is at least as good as the other, and not the other as the one
abbrev pub IsStrictlyPreferred : DecisionTable → List Statement → ℕ → ℕ → Type 0
IsStrictlyPreferred t list a b = IsNecessarilyPreferred t list a b × (IsNecessarilyPreferred t list b a → ⊥)

-- Each cell says what is true. An arrow leads from what is necessarily preferred and not the other way, and from a level before; where each
-- cell says something, paths of arrows lead to all that is so. Each alternative has a level. What is named with an arrow carries it, its reason
-- means what it says, and where that is sought each arrow has it.
pub record MeansRelation (sought : Bool) (t : DecisionTable) (xs : List Answer) (list : List Numbered) (f : RelationFound) : Type 0 where
  pub cells : (a b : ℕ) → Says t (statements_in list) (cell_in f.relation.rows a b) a b
  pub arrows : (a b : ℕ) → Contains {X = ℕ × ℕ} f.relation.arrows (a, b) → IsStrictlyPreferred t (statements_in list) a b
  pub paths : IsWholeRelation t (statements_in list) (length t.alternatives) xs → (a b : ℕ)
      → a < length t.alternatives → b < length t.alternatives
      → Path (λ c d. Contains {X = ℕ × ℕ} f.relation.arrows (c, d)) a b ↔ IsStrictlyPreferred t (statements_in list) a b
  pub levels : (a : ℕ) → a < length t.alternatives → level_at f.relation.levels a ≡ None → ⊥
  pub before : (a b k : ℕ) → Contains {X = ℕ × ℕ} f.relation.arrows (a, b) → level_at f.relation.levels b ≡ Some k
      → IsBefore f.relation.levels k a
  pub carried : AllByRecursion (MeansCarried t list) f.carried
  pub why : AllByRecursion (MeansPair t list) f.carried
  pub why_better : AllByRecursion (MeansBetter t list) f.carried
  pub each_better : AllByRecursion (IsBetterTold f.relation.rows) f.carried
  pub each : sought ≡ true → map (λ c. c.pair) f.carried ≡ f.relation.arrows

-- ---- a change

-- the pairs of each change, where each cell says something, before and now
pub record AreWholeChanges (t : DecisionTable) (before now : List Statement) (f : Differences) : Type 0 where
  pub turned : AllByRecursion (λ p. IsWholeChange changes.TurnedRound t before now p.0 p.1) f.turned
  pub no_longer : AllByRecursion (λ p. IsWholeChange changes.NoLonger t before now p.0 p.1) f.no_longer
  pub stayed : AllByRecursion (λ p. IsWholeChange changes.Stayed t before now p.0 p.1) f.stayed
  pub new : AllByRecursion (λ p. IsWholeChange changes.New t before now p.0 p.1) f.new

-- What is listed was and is so; where each cell says something, before and now, what is no longer so is not necessarily so now, and what is
-- new was not before. What is named with a pair carries it now.
pub record MeansChange (sought : Bool) (t : DecisionTable) (xs ys : List Answer) (before now : List Numbered) (f : ChangeFound) : Type 0 where
  pub turned : AllByRecursion (λ p. IsTrueChange changes.TurnedRound t (statements_in before) (statements_in now) p.0 p.1) f.pairs.turned
  pub no_longer : AllByRecursion (λ p. IsTrueChange changes.NoLonger t (statements_in before) (statements_in now) p.0 p.1) f.pairs.no_longer
  pub stayed : AllByRecursion (λ p. IsTrueChange changes.Stayed t (statements_in before) (statements_in now) p.0 p.1) f.pairs.stayed
  pub new : AllByRecursion (λ p. IsTrueChange changes.New t (statements_in before) (statements_in now) p.0 p.1) f.pairs.new
  pub whole : IsWholeRelation t (statements_in before) (length t.alternatives) xs
      → IsWholeRelation t (statements_in now) (length t.alternatives) ys
      → AreWholeChanges t (statements_in before) (statements_in now) f.pairs
  pub brought : AllByRecursion (MeansCarried t now) f.brought
  pub why : AllByRecursion (MeansPair t now) f.brought
  pub why_better : AllByRecursion (MeansBetter t now) f.brought
  pub each_better : AllByRecursion (IsBetterTold f.second.rows) f.brought
  pub each : sought ≡ true → map (λ c. c.pair) f.brought ≡ turned_pairs f.pairs.turned ++ f.pairs.new

-- ---- the classes of an alternative

abbrev pub bound_on : Side → Bounds → Option Bound
bound_on Below b = b.below
bound_on Above b = b.above

abbrev pub end_on : Side → ClassRow → ℕ
end_on Below r = r.lowest
end_on Above r = r.highest

-- it says so of an alternative, and its reason why the class next to it is excluded means what it says
abbrev pub MeansSettled : Side → DecisionTable → List Numbered → ℕ → Bound → Type 0
MeansSettled side t list a f = (is : MeansBound side t list a f) × MeansReason t list (PossibleClass a is.class) No f.reason

-- a bound is the class at the end, and says so
abbrev pub IsBoundOf : Side → DecisionTable → List Numbered → ClassRow → Bound → Type 0
IsBoundOf side t list r f = (f.class ≡ end_on side r) × MeansSettled side t list r.alternative f

-- Each sign says what is true. The classes that some function leaves lie between both ends, and some function leaves an end, where its sign
-- says something and some function agrees at all; where it is settled they are one, which some function leaves. Where it is said that no
-- function agrees, none does. A bound means what it says, and where bounds are sought there is one wherever the next class is excluded.
pub record MeansRow (sought : Bool) (t : DecisionTable) (list : List Numbered) (row : ClassLine) (b : Bounds) : Type 0 where
  pub signs : (h : ℕ) (sign : Sign) → slice_get row.signs h ≡ Some sign → SignSays t (statements_in list) sign row.row.alternative (h + 1)
  pub between : (h : ℕ) → 1 ≤ h → h ≤ t.classes
      → BySome t (statements_in list) (MayBelong t (statements_in list) row.row.alternative h) → (row.row.lowest ≤ h) × (h ≤ row.row.highest)
  pub tight : IsConsistent t (statements_in list) → (side : Side) (k : ℕ) → end_on side row.row ≡ k + 1
      → (slice_get row.signs k ≡ Some Unknown → ⊥)
      → BySome t (statements_in list) (MayBelong t (statements_in list) row.row.alternative (k + 1))
  pub settled : row.row.settled ≡ true → (row.row.lowest ≡ row.row.highest)
      × BySome t (statements_in list) (MayBelong t (statements_in list) row.row.alternative row.row.lowest)
  pub contradictory : row.row.contradictory ≡ true → IsContradictory t (statements_in list)
  pub bounds : (side : Side) → IfSome (bound_on side b) (IsBoundOf side t list row.row)
  pub each : sought ≡ true → (side : Side) (k : ℕ) → end_on side row.row ≢ 0 → slice_get row.signs k ≡ Some Impossible
      → IsNextTo side (end_on side row.row) (k + 1) → bound_on side b ≡ None → ⊥

-- ---- what became of the classes of an alternative

-- both rows are those of kept lines, and of one alternative; what is said of the change is so
pub record MeansRowChange (g : Ground) (f : RowChange) : Type 0 where
  pub earlier : KeptLine
  pub later : KeptLine
  pub earlier_kept : (n : ℕ) × (slice_get g.kept n ≡ Some earlier)
  pub later_kept : (n : ℕ) × (slice_get g.kept n ≡ Some later)
  pub before : f.before ≡ interval_of g.table.classes earlier
  pub now : f.now ≡ interval_of g.table.classes later
  pub same : f.before.alternative ≡ f.now.alternative
  pub says : (before now : List Numbered) → earlier.standing ≡ Some before → later.standing ≡ Some now
      → ChangeSays g.table (statements_in before) (statements_in now) f.now.alternative f.change

-- ---- an answer

-- the answer is what is concluded, over what stood; none is told where it is too wide
abbrev pub MeansTold : DecisionTable → List Numbered → Answer → Option Reason → Type 0
MeansTold t list x (Some reason) = (c : Conclusion) × Concludes c x.verdict × Answers t (statements_in list) x.question c
    × MeansReason t list x.question c reason
MeansTold t list x None = IsWide x.verdict

-- ---- a repair: what is found with a dropped statement can't all be meant, and none of it can be spared

-- the statement is named, unless the table has no value function at all
abbrev pub NamesIt : List ℕ → Numbered → Type 0
NamesIt ns s = (is_among ns s ≡ true) ⊎ (ns ≡ [])

abbrev pub MeansConflict : DecisionTable → List Numbered → Numbered → Reason → Type 0
MeansConflict t clash s (reasons.Carried x) = MeansReduct t clash Consistent Contradiction x × NamesIt x.numbers s
MeansConflict t clash s (reasons.Wide ns x others) = MeansWide t clash Consistent Contradiction ns others × NamesIt ns s
MeansConflict t clash s (reasons.WhollyWide system note) = IsContradictory t (statements_in clash)
MeansConflict t clash s _ = ⊥

-- the statement was dropped, and no function agrees with it and all that was kept before it
pub record MeansDrop (t : DecisionTable) (list : List Numbered) (ds : List ℕ) (s : Numbered) (f : DropFound) : Type 0 where
  pub number : f.number ≡ s.number
  pub dropped : is_among ds s ≡ true
  pub contradicts : IsContradictory t (statements_in (clash_list ds list f.at s))
  pub conflict : MeansConflict t (clash_list ds list f.at s) s f.conflict

-- ---- all that is found, of a judged ground

pub record FoundAreMeant : Type 0 where
  pub relations : (sought : Bool) (g : Ground) (fs : List RelationFound) (f : RelationFound) (x : KeptLine) (list : List Numbered)
      → IsJudged g → AreRelationsFound sought g fs → Contains fs f → slice_get g.kept f.place ≡ Some x → x.standing ≡ Some list
      → MeansRelation sought g.table (answers_of x.block.body) list f
  pub changes : (sought : Bool) (g : Ground) (fs : List ChangeFound) (f : ChangeFound) (x y : KeptLine)
      (before now : List Numbered) → IsJudged g → AreChangesFound sought g fs → Contains fs f
      → slice_get g.kept f.before ≡ Some x → x.standing ≡ Some before → slice_get g.kept f.now ≡ Some y → y.standing ≡ Some now
      → MeansChange sought g.table (answers_of x.block.body) (answers_of y.block.body) before now f
  pub classes : (sought : Bool) (g : Ground) (fs : List ClassesFound) (f : ClassesFound) (k : ℕ) (row : ClassLine) (b : Bounds)
      (x : KeptLine) (list : List Numbered) → IsJudged g → AreClassesFound sought g fs → Contains fs f
      → slice_get f.time.rows k ≡ Some row → slice_get f.bounds k ≡ Some b → slice_get g.kept row.place ≡ Some x → x.standing ≡ Some list
      → MeansRow sought g.table list row b
  pub class_changes : (g : Ground) (fs : List ClassChangeFound) (f : ClassChangeFound) (row : RowChange) → IsJudged g
      → AreClassChanges (class_times g.table g.session g.kept) (turns (class_times g.table g.session g.kept)) fs
      → Contains fs f → Contains f.rows row → MeansRowChange g row
  pub told : (m : Meant) (g : Ground) (fs : List LineFound) (f : LineFound) (k : ℕ) (told : Told) (x : KeptLine) (list : List Numbered)
      (answer : Answer) → IsJudged g → AreLinesFound m g fs → Contains fs f → slice_get f.told k ≡ Some told
      → slice_get g.kept f.place ≡ Some x → x.standing ≡ Some list → slice_get (answers_of x.block.body) told.answer ≡ Some answer
      → MeansTold g.table list answer told.reason
  pub drops : (m : Meant) (g : Ground) (fs : List LineFound) (f : LineFound) (k : ℕ) (dropped : DropFound) (x : KeptLine) (list : List Numbered)
      (s : Numbered) → IsJudged g → AreLinesFound m g fs → Contains fs f → slice_get f.drops k ≡ Some dropped
      → slice_get g.kept f.place ≡ Some x → x.standing ≡ Some list → slice_get list dropped.at ≡ Some s
      → MeansDrop g.table list (dropped_by x) s dropped
  pub each_drop : (g : Ground) (fs : List LineFound) (f : LineFound) (x : KeptLine) (list : List Numbered) → IsJudged g → AreLinesFound All g fs
      → Contains fs f → slice_get g.kept f.place ≡ Some x → x.standing ≡ Some list → map (λ d. d.number) f.drops ≡ dropped_by x
