-- For what a line is refused at a desk: each test of it taken alone, and their order.
use Rattle.std.specs.Prelude.{◌≡◌, ℕ, ◌<◌, ◌≤◌, ◌⊎◌, List, [], ◌∷◌, ◌++◌, length, Option, Some, None, Ok}
use Rattle.ror_text.specs.FirstFault.{IsFirst, IsEarlier}
use Rattle.ror_table.specs.Table.{DecisionTable, alternative_named, criterion_named}
use Rattle.ror_statement.specs.declared.row_number.TheConstants.{MOST_STATEMENTS, MOST_ROWS}
use Rattle.ror_statement.specs.declared.statement.Statement.{Statement}
use Rattle.ror_statement.specs.RowNumbers.{row_count}
use Rattle.ror_session.specs.declared.session.NamedPair.{NamedPair}
use Rattle.ror_session.specs.declared.session.Named.{Named}
use Rattle.ror_session.specs.declared.session.Named.TheVariants.{Prefer, AtLeast, Same, Stronger, AsStrong, EqualStrength, Class}
use Rattle.ror_session.specs.declared.session.Asked.{Asked}
use Rattle.ror_session.specs.declared.session.Asked.TheVariants.{Consistent, Necessary, Possible, NecessaryStrength, PossibleStrength, PossibleClass, NecessaryClass, Classes, Relation}
use Rattle.ror_session.specs.declared.session.Command.{Command}
use Rattle.ror_session.specs.declared.session.Command.TheVariants.{State, Withdraw, Replace, Undo, Ask}
use Rattle.ror_report.specs.declared.block.LineFault.{LineFault}
use Rattle.ror_report.specs.declared.block.LineFault.TheVariants as faults
use Rattle.ror_history.specs.History.{Revisions, replacement, standing, statements_of, with_revision}
use Rattle.ror_history.specs.Faults.{Stands}
use Rattle.ror_bench.specs.declared.names.TheConstants.{MOST_RELATED}
use Rattle.ror_bench.specs.Names.{statement_of}

-- ---- the names of a line

abbrev pub names_of_pairs : NamedPair → NamedPair → List (List ℕ)
names_of_pairs p q = p.first ∷ p.second ∷ q.first ∷ q.second ∷ []

abbrev pub alternatives_stated : Named → List (List ℕ)
alternatives_stated (Prefer a b) = a ∷ b ∷ []
alternatives_stated (AtLeast a b) = a ∷ b ∷ []
alternatives_stated (Same a b) = a ∷ b ∷ []
alternatives_stated (Stronger p q on) = names_of_pairs p q
alternatives_stated (AsStrong p q on) = names_of_pairs p q
alternatives_stated (EqualStrength p q on) = names_of_pairs p q
alternatives_stated (Class a lowest highest) = a ∷ []

abbrev pub criterion_stated : Named → Option (List ℕ)
criterion_stated (Stronger p q on) = on
criterion_stated (AsStrong p q on) = on
criterion_stated (EqualStrength p q on) = on
criterion_stated _ = None

abbrev pub alternatives_asked : Asked → List (List ℕ)
alternatives_asked Consistent = []
alternatives_asked (Necessary a b) = a ∷ b ∷ []
alternatives_asked (Possible a b) = a ∷ b ∷ []
alternatives_asked (NecessaryStrength p q on) = names_of_pairs p q
alternatives_asked (PossibleStrength p q on) = names_of_pairs p q
alternatives_asked (PossibleClass a h) = a ∷ []
alternatives_asked (NecessaryClass a h) = a ∷ []
alternatives_asked (Classes a) = a ∷ []
alternatives_asked Relation = []

abbrev pub criterion_asked : Asked → Option (List ℕ)
criterion_asked (NecessaryStrength p q on) = on
criterion_asked (PossibleStrength p q on) = on
criterion_asked _ = None

abbrev pub classes_stated : Named → List ℕ
classes_stated (Class a lowest highest) = lowest ∷ highest ∷ []
classes_stated _ = []

abbrev pub classes_asked : Asked → List ℕ
classes_asked (PossibleClass a h) = h ∷ []
classes_asked (NecessaryClass a h) = h ∷ []
classes_asked _ = []

-- the alternatives that a command names
abbrev pub alternatives_in : Command → List (List ℕ)
alternatives_in (State named) = alternatives_stated named
alternatives_in (Replace n named) = alternatives_stated named
alternatives_in (Ask asked) = alternatives_asked asked
alternatives_in _ = []

-- the criterion that a command names, if it names one
abbrev pub criterion_in : Command → Option (List ℕ)
criterion_in (State named) = criterion_stated named
criterion_in (Replace n named) = criterion_stated named
criterion_in (Ask asked) = criterion_asked asked
criterion_in _ = None

-- the classes that a command names
abbrev pub classes_in : Command → List ℕ
classes_in (State named) = classes_stated named
classes_in (Replace n named) = classes_stated named
classes_in (Ask asked) = classes_asked asked
classes_in _ = []

-- ---- each test

-- an alternative that is named is none of the table's
abbrev pub LacksAlternative : DecisionTable → List (List ℕ) → Type 0
LacksAlternative t [] = ⊥
LacksAlternative t (name ∷ names) =
    (alternative_named t name ≡ None) ⊎ LacksAlternative t names

-- the criterion that is named is none of the table's
abbrev pub LacksCriterion : DecisionTable → Option (List ℕ) → Type 0
LacksCriterion t None = ⊥
LacksCriterion t (Some name) = criterion_named t name ≡ None

-- a class that is named is none of the table's, which are numbered from 1
abbrev pub LacksClass : DecisionTable → List ℕ → Type 0
LacksClass t [] = ⊥
LacksClass t (h ∷ hs) = ((h ≡ 0) ⊎ (t.classes < h)) ⊎ LacksClass t hs

-- each class is asked of, and the table has none
abbrev pub LacksClasses : DecisionTable → Asked → Type 0
LacksClasses t (Classes a) = t.classes ≡ 0
LacksClasses t _ = ⊥

-- a class is none of the table's, or each is asked of where there is none
abbrev pub HasUnknownClass : DecisionTable → Command → Type 0
HasUnknownClass t (Ask asked) = LacksClass t (classes_asked asked) ⊎ LacksClasses t asked
HasUnknownClass t command = LacksClass t (classes_in command)

-- the lowest class that is stated is above the highest
abbrev pub IsTurnedRound : Named → Type 0
IsTurnedRound (Class a lowest highest) = highest < lowest
IsTurnedRound _ = ⊥

abbrev pub HasBadInterval : Command → Type 0
HasBadInterval (State named) = IsTurnedRound named
HasBadInterval (Replace n named) = IsTurnedRound named
HasBadInterval _ = ⊥

-- the statement of a withdrawal or a replacement doesn't stand
abbrev pub StandsNot : Revisions → Command → Type 0
StandsNot r (Withdraw n) = ¬ (Stands r n)
StandsNot r (Replace n named) = ¬ (Stands r n)
StandsNot r _ = ⊥

abbrev pub HasNothingToUndo : Revisions → Command → Type 0
HasNothingToUndo r Undo = r.surviving ≡ []
HasNothingToUndo r _ = ⊥

-- as many statements stand as may, and this is one more
abbrev pub HasNoPlace : Revisions → Command → Type 0
HasNoPlace r (State named) = MOST_STATEMENTS ≤ length (standing r)
HasNoPlace r _ = ⊥

-- the statements that then stand take more rows than they may
abbrev pub HasNoRows : DecisionTable → Revisions → Command → Type 0
HasNoRows t r (State named) = (s : Statement) × (statement_of t named ≡ Ok s)
    × (MOST_ROWS < row_count (statements_of r ++ s ∷ []))
HasNoRows t r (Replace n named) = (s : Statement) × (statement_of t named ≡ Ok s)
    × (MOST_ROWS < row_count (statements_of (with_revision r (replacement n s))))
HasNoRows t r _ = ⊥

-- all pairs are asked of, and there are too many
abbrev pub HasManyPairs : DecisionTable → Command → Type 0
HasManyPairs t (Ask Relation) = MOST_RELATED < length t.alternatives
HasManyPairs t _ = ⊥

-- what each test finds at fault, each test taken alone
abbrev pub FailsLine : DecisionTable → Revisions → Command → LineFault → Type 0
FailsLine t r command faults.UnknownAlternative = LacksAlternative t (alternatives_in command)
FailsLine t r command faults.UnknownCriterion = LacksCriterion t (criterion_in command)
FailsLine t r command faults.UnknownClass = HasUnknownClass t command
FailsLine t r command faults.BadInterval = HasBadInterval command
FailsLine t r command faults.NoSuchStatement = StandsNot r command
FailsLine t r command faults.NothingToUndo = HasNothingToUndo r command
FailsLine t r command faults.TooManyStatements = HasNoPlace r command
FailsLine t r command faults.TooManyRows = HasNoRows t r command
FailsLine t r command faults.TooManyPairs = HasManyPairs t command

-- ---- their order

abbrev pub line_stage : LineFault → ℕ
line_stage faults.UnknownAlternative = 0
line_stage faults.UnknownCriterion = 1
line_stage faults.UnknownClass = 2
line_stage faults.BadInterval = 3
line_stage faults.NoSuchStatement = 4
line_stage faults.NothingToUndo = 5
line_stage faults.TooManyStatements = 6
line_stage faults.TooManyRows = 7
line_stage faults.TooManyPairs = 8

abbrev pub IsEarlierLineFault : LineFault → LineFault → Type 0
IsEarlierLineFault = IsEarlier line_stage (λ _. 0)

-- this is the first test that the line fails at a desk with these revisions
abbrev pub IsRefusedFor : DecisionTable → Revisions → Command → LineFault → Type 0
IsRefusedFor t r command fault = IsFirst (FailsLine t r command) IsEarlierLineFault fault

-- it fails none
abbrev pub IsTaken : DecisionTable → Revisions → Command → Type 0
IsTaken t r command = (fault : LineFault) → ¬ (FailsLine t r command fault)

-- This is the first test that a line fails which states these names, and one which puts their statement in another's place,
-- whatever stands at its desk: so the names alone are at fault, and their faults come in the order of those of lines.
abbrev pub IsFirstOfNames : DecisionTable → Named → LineFault → Type 0
IsFirstOfNames t named fault = (r : Revisions) → IsRefusedFor t r (State named) fault
    × ((n : ℕ) → IsRefusedFor t r (Replace n named) fault)
