-- What carries the arrows of a relation, and the pairs that a change brought.
use Rattle.std.specs.Prelude.{◌≡◌, ◌==◌, ◌<◌, ℕ, Bool, true, false, ◌&&◌, List, [], slice_get, Option, Some, None}
use Rattle.std.specs.List.{find, AllByRecursion, AllZip}
use Rattle.std.specs.Option.{option_and_then}
use Rattle.ror_statement.specs.declared.statement.Numbered.{Numbered}
use Rattle.ror_statement.specs.declared.question.Conclusion.TheVariants as conclusions
use Rattle.ror_statement.specs.declared.question.Question.{Question}
use Rattle.ror_statement.specs.declared.question.Question.TheVariants.{Necessary, Possible}
use Rattle.ror_table.specs.Table.{DecisionTable}
use Rattle.ror_value.specs.Laws.{IsNecessarilyPreferred}
use Rattle.ror_value.specs.Meaning.{IsConsistent}
use Rattle.ror_proof.specs.declared.answer.Answer.{Answer}
use Rattle.ror_proof.specs.declared.answer.Verdict.{Verdict}
use Rattle.ror_proof.specs.declared.answer.Verdict.TheVariants as verdicts
use Rattle.ror_check.specs.Repair.{AreNumbersIn}
use Rattle.ror_pivot.specs.declared.note.Bits.TheVariants.{B127}
use Rattle.ror_pivot.specs.Answers.{most_of}
use Rattle.ror_report.specs.Text.{answers_of}
use Rattle.ror_bench.specs.declared.kept.KeptLine.{KeptLine}
use Rattle.ror_show_find_relation.specs.declared.cell.Cell.{Cell}
use Rattle.ror_show_find_relation.specs.declared.cell.Cell.TheVariants.{AlwaysBetter}
use Rattle.ror_show_find_relation.specs.Meaning.{IsAlwaysBetter}
use Rattle.ror_show_find_relation.specs.Rows.{cell_in}
use Rattle.ror_show_find_relation.specs.Relations.{Square}
use Rattle.ror_show_find_relation.specs.declared.page.RelationPage.{RelationPage}
use Rattle.ror_show_find_relation.specs.Pages.{IsRelationPage, known}
use Rattle.ror_reason.specs.declared.reducts.Reason.{Reason}
use Rattle.ror_reason.specs.declared.reducts.Reason.TheVariants as reasons
use Rattle.ror_reason.specs.Reasons.{IsWideReason}
use Rattle.ror_reason.specs.Reducts.{stated, without}
use Rattle.ror_show_find_relation.specs.Brought.{brought}
use Rattle.ror_show_ground.specs.Grounds.{Ground}
use Rattle.ror_show_ground.specs.Lines.{line_of, has_answers, places_where}
use Rattle.ror_show_ground.specs.Turns.{asks_for_relation, turns}
use Rattle.ror_session.specs.declared.session.Line.{Line}
use Rattle.ror_session.specs.declared.session.Session.{Session}
use Rattle.ror_show_find_relation.specs.Differences.{AreDifferences}
use Rattle.ror_show_find_reasons.specs.declared.changes.Between.{Between}
use Rattle.ror_show_find_reasons.specs.declared.pairs.CarriedPair.{CarriedPair}
use Rattle.ror_show_find_reasons.specs.declared.pairs.ChangeFound.{ChangeFound}
use Rattle.ror_show_find_reasons.specs.declared.pairs.RelationFound.{RelationFound}
use Rattle.ror_show_find_reasons.specs.Carrying.{HasReason, numbers_of}

-- ---- which answer says it

-- the answer is yes, to whether the first is at least as good as the second by every function
abbrev pub is_yes_over : ℕ × ℕ → Question → Verdict → Bool
is_yes_over arrow (Necessary a b) (verdicts.Yes proof) = a == arrow.0 && b == arrow.1
is_yes_over arrow _ _ = false

abbrev pub says_over : ℕ × ℕ → Answer → Bool
says_over arrow x = is_yes_over arrow x.question x.verdict

-- why it is so, where an answer says it, and none where none does
abbrev pub CarriesWhere : DecisionTable → List Numbered → Option Answer → Option Reason → Type 0
CarriesWhere t list (Some x) told = HasReason t list x.question x.verdict told
CarriesWhere t list None told = told ≡ None

-- by what some answers say
abbrev pub IsCarriedBy : DecisionTable → List Numbered → List Answer → ℕ × ℕ → Option Reason → Type 0
IsCarriedBy t list xs arrow told = CarriesWhere t list (find (says_over arrow) xs) told

-- the answer is no, to whether by some function the second is at least as good as the first
abbrev pub is_no_back : ℕ × ℕ → Question → Verdict → Bool
is_no_back arrow (Possible b a) (verdicts.No proof) = b == arrow.1 && a == arrow.0
is_no_back arrow _ _ = false

abbrev pub denies_back : ℕ × ℕ → Answer → Bool
denies_back arrow x = is_no_back arrow x.question x.verdict

-- why the first is better by every function, by what some answers say
abbrev pub IsBetterBy : DecisionTable → List Numbered → List Answer → ℕ × ℕ → Option Reason → Type 0
IsBetterBy t list xs arrow told = CarriesWhere t list (find (denies_back arrow) xs) told

-- ---- what is found

-- the numbers of what carries a pair; none where it isn't known which statements can be spared
abbrev pub carrying_numbers : CarriedPair → Option (List ℕ)
carrying_numbers f = option_and_then numbers_of f.reason

-- a pair, with the reason that carries it, and the one that carries that the first is always better; each may be one of several that do
abbrev pub IsCarriedPair : DecisionTable → List Numbered → List Answer → ℕ × ℕ → CarriedPair → Type 0
IsCarriedPair t list xs pair f = (f.pair ≡ pair) × IsCarriedBy t list xs pair f.reason × IsBetterBy t list xs pair f.better

-- one for each pair, in order
abbrev pub AreCarriedPairs : DecisionTable → List Numbered → List Answer → List (ℕ × ℕ) → List CarriedPair → Type 0
AreCarriedPairs t list xs pairs fs = AllZip (IsCarriedPair t list xs) pairs fs

-- of what stood, where that is kept
abbrev pub AreCarriedOver : DecisionTable → List Answer → Option (List Numbered) → List (ℕ × ℕ) → List CarriedPair → Type 0
AreCarriedOver t xs (Some list) pairs fs = AreCarriedPairs t list xs pairs fs
AreCarriedOver t xs None pairs fs = fs ≡ []

-- where they are sought at all: a form for programs has no reasons yet, and none are sought for it
abbrev pub AreCarriedWhere : Bool → DecisionTable → KeptLine → List (ℕ × ℕ) → List CarriedPair → Type 0
AreCarriedWhere true t x pairs fs = AreCarriedOver t (answers_of x.block.body) x.standing pairs fs
AreCarriedWhere false t x pairs fs = fs ≡ []

-- at the kept line at a place: what its answers say of the relation, and what carries each arrow
pub record IsRelationFound (sought : Bool) (g : Ground) (n : ℕ) (f : RelationFound) : Type 0 where
  pub line : KeptLine
  pub there : slice_get g.kept n ≡ Some line
  pub place : f.place ≡ n
  pub relation : IsRelationPage g.table (answers_of line.block.body) f.relation
  pub carried : AreCarriedWhere sought g.table line f.relation.arrows f.carried

-- the session's line asks for the relation
abbrev pub asks_relation : Option Line → Bool
asks_relation (Some line) = asks_for_relation line.command
asks_relation None = false

-- and is answered
abbrev pub has_relation : Session → KeptLine → Bool
has_relation s x = has_answers x && asks_relation (line_of s x)

abbrev pub relation_places : Session → List KeptLine → List ℕ
relation_places s kept = places_where (has_relation s) kept

-- at each kept line that asks for the relation and is answered, in order
abbrev pub AreRelationsFound : Bool → Ground → List RelationFound → Type 0
AreRelationsFound sought g fs = AllZip (IsRelationFound sought g) (relation_places g.session g.kept) fs

-- from one kept line to a later one: both relations, the pairs of each change, and what carries those that it brought, over what stood
-- at the later line
pub record IsChangeFound (sought : Bool) (g : Ground) (turn : ℕ × ℕ) (f : ChangeFound) : Type 0 where
  pub earlier : KeptLine
  pub later : KeptLine
  pub earlier_there : slice_get g.kept turn.0 ≡ Some earlier
  pub later_there : slice_get g.kept turn.1 ≡ Some later
  pub places : (f.before ≡ turn.0) × (f.now ≡ turn.1)
  pub first : IsRelationPage g.table (answers_of earlier.block.body) f.first
  pub second : IsRelationPage g.table (answers_of later.block.body) f.second
  pub pairs : AreDifferences (known f.first.rows) (known f.second.rows) f.pairs
  pub brought_by : AreCarriedWhere sought g.table later (brought (known f.first.rows) (known f.second.rows)) f.brought

-- from the one to the other of these, in order
abbrev pub AreChangesAt : Bool → Ground → List (ℕ × ℕ) → List ChangeFound → Type 0
AreChangesAt sought g turns fs = AllZip (IsChangeFound sought g) turns fs

-- from each answered line that asks for the relation to the next one at its desk
abbrev pub AreChangesFound : Bool → Ground → List ChangeFound → Type 0
AreChangesFound sought g fs = AreChangesAt sought g (turns g.session g.kept) fs

-- both places are among so many
abbrev pub AreWithin : ℕ → ℕ × ℕ → Type 0
AreWithin n turn = (turn.0 < n) × (turn.1 < n)

-- the pairs of each change, and those that it brought
abbrev pub IsBetween : Square → Square → Between → Type 0
IsBetween before now f = AreDifferences before now f.pairs × (f.brought.items ≡ brought before now)

abbrev pub IsBetweenPages : RelationPage → RelationPage → Between → Type 0
IsBetweenPages first second f = IsBetween (known first.rows) (known second.rows) f

-- ---- what it means over all value functions

-- The numbers name statements of the list. Some function agrees with these, and every one that does has the first alternative at least
-- as good as the second; of those that agree with all of them but one, not every one has.
pub record AreNeeded (t : DecisionTable) (list : List Numbered) (arrow : ℕ × ℕ) (ns : List ℕ) : Type 0 where
  pub numbers : AreNumbersIn list ns
  pub consistent : IsConsistent t (stated ns list)
  pub carry : IsNecessarilyPreferred t (stated ns list) arrow.0 arrow.1
  pub needed : AllByRecursion (λ n. IsNecessarilyPreferred t (stated (without n ns) list) arrow.0 arrow.1 → ⊥) ns

-- they are that; or they carry it, and of some of them that isn't known, since over the others a number passes the greatest width
abbrev pub CarriesPair : DecisionTable → List Numbered → ℕ × ℕ → Reason → Type 0
CarriesPair t list arrow (reasons.Carried x) = AreNeeded t list arrow x.numbers
CarriesPair t list arrow (reasons.Wide ns x others) =
    IsWideReason (most_of B127) t list (Necessary arrow.0 arrow.1) conclusions.Yes ns x others
CarriesPair t list arrow _ = ⊥

-- there is a reason
abbrev pub MeansCarriedBy : DecisionTable → List Numbered → ℕ × ℕ → Option Reason → Type 0
MeansCarriedBy t list arrow (Some reason) = CarriesPair t list arrow reason
MeansCarriedBy t list arrow None = ⊥

-- The numbers name statements of the list. Some function agrees with these, and by every one that does the first alternative is worth more
-- than the second; of those that agree with all of them but one, not by every one.
pub record AreNeededStrictly (t : DecisionTable) (list : List Numbered) (arrow : ℕ × ℕ) (ns : List ℕ) : Type 0 where
  pub numbers : AreNumbersIn list ns
  pub better : IsAlwaysBetter t (stated ns list) arrow.0 arrow.1
  pub needed : AllByRecursion (λ n. IsAlwaysBetter t (stated (without n ns) list) arrow.0 arrow.1 → ⊥) ns

abbrev pub CarriesBetter : DecisionTable → List Numbered → ℕ × ℕ → Reason → Type 0
CarriesBetter t list arrow (reasons.Carried x) = AreNeededStrictly t list arrow x.numbers
CarriesBetter t list arrow (reasons.Wide ns x others) =
    IsWideReason (most_of B127) t list (Possible arrow.1 arrow.0) conclusions.No ns x others
CarriesBetter t list arrow _ = ⊥

-- where it is said
abbrev pub MeansBetterBy : DecisionTable → List Numbered → ℕ × ℕ → Option Reason → Type 0
MeansBetterBy t list arrow (Some reason) = CarriesBetter t list arrow reason
MeansBetterBy t list arrow None = Unit {0}

abbrev pub MeansCarried : DecisionTable → List Numbered → CarriedPair → Type 0
MeansCarried t list f = MeansCarriedBy t list f.pair f.reason × MeansBetterBy t list f.pair f.better

-- a pair whose cell has the first always better has a reason why
abbrev pub IsBetterTold : List (List Cell) → CarriedPair → Type 0
IsBetterTold rows f = cell_in rows f.pair.0 f.pair.1 ≡ AlwaysBetter → f.better ≡ None → ⊥
