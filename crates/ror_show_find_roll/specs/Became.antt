-- What becomes of each statement that stood at a desk, and of each of its lines.
use Rattle.std.specs.Prelude.{◌≡◌, ◌↔◌, ℕ, ◌+◌, Bool, true, false, ◌&&◌, ◌==◌, List, [], ◌∷◌, ◌++◌, take, count_by, Contains, Some, slice_get}
use Rattle.std.specs.List.{flat_map, range_with_len}
use Rattle.ror_report.specs.declared.block.Body.{Body}
use Rattle.ror_report.specs.declared.block.Body.TheVariants.{Added, Withdrawn, Replaced, Undone, Repaired, Answers, Refused}
use Rattle.ror_proof.specs.declared.answer.Answer.{Answer}
use Rattle.ror_show_find_roll.specs.Roll.{last_of, left_after, survivors, takes, is_repair, tally_of, roll_of}
use Rattle.ror_show_find_roll.specs.Turns.{Turn}
use Rattle.ror_show_find_roll.specs.declared.roll.Entry.{Entry}
use Rattle.ror_show_find_roll.specs.declared.roll.Gone.{Gone}
use Rattle.ror_show_find_roll.specs.declared.roll.RefusedLine.{RefusedLine}
use Rattle.ror_show_find_roll.specs.declared.roll.TakenBack.{TakenBack}
use Rattle.ror_show_find_roll.specs.declared.survivor.Survivor.{Survivor}

-- ---- statements

-- what stands after so many of the surviving lines
abbrev pub stands_after : ℕ → List Survivor → ℕ → List Entry
stands_after opening list count = (tally_of opening (take count list)).entries

-- The statement stood before a surviving line, and that line takes it away: the one that is named, by a repair where that is said.
pub record IsTakenAway (opening : ℕ) (list : List Survivor) (x : Gone) : Type 0 where
  pub before : ℕ
  pub line : Survivor
  pub there : slice_get list before ≡ Some line
  pub stood : Contains (stands_after opening list before) x.entry
  pub taken : takes line.step.body x.entry.number ≡ true
  pub named : line.step.place ≡ x.by
  pub said : is_repair line.step.body ≡ x.by_repair

-- such a statement stands no more, and no other does
abbrev pub GoneAreThose : Type 0
GoneAreThose = (opening : ℕ) (turns : List Turn) (x : Gone)
    → Contains (roll_of opening turns).gone x ↔ IsTakenAway opening (survivors opening turns) x

-- the number that a body gives to a statement
abbrev pub given_by : Body → List ℕ
given_by (Added n) = n ∷ []
given_by _ = []

-- the numbers of the statements that came with the table's file, and of those that surviving lines added
abbrev pub numbers_given : ℕ → List Survivor → List ℕ
numbers_given opening list = range_with_len 1 opening ++ flat_map (λ x. given_by x.step.body) list

-- A statement that came stands, or stands no more: as often as a number was given it is in one of the two lists.
abbrev pub EachStandsOrIsGone : Type 0
EachStandsOrIsGone = (opening : ℕ) (turns : List Turn) (n : ℕ)
    → count_by (λ x. x.number == n) (roll_of opening turns).entries
    + count_by (λ x. x.entry.number == n) (roll_of opening turns).gone
    ≡ count_by (λ k. k == n) (numbers_given opening (survivors opening turns))

-- ---- lines

-- an undo takes back the last line that survives before it
pub record IsTakenBack (opening : ℕ) (turns : List Turn) (x : TakenBack) : Type 0 where
  pub before : ℕ
  pub undo : Turn
  pub line : Survivor
  pub there : slice_get turns before ≡ Some undo
  pub undoes : undo.body ≡ Undone
  pub named : undo.place ≡ x.by
  pub last : last_of (survivors opening (take before turns)) ≡ Some line
  pub said : line.step.place ≡ x.taken

abbrev pub TakenBackAreThose : Type 0
TakenBackAreThose = (opening : ℕ) (turns : List Turn) (x : TakenBack)
    → Contains (roll_of opening turns).taken_back x ↔ IsTakenBack opening turns x

-- the line says what stands from then on
abbrev pub revises : Body → Bool
revises (Added n) = true
revises (Withdrawn n) = true
revises (Replaced n) = true
revises (Repaired kept) = true
revises _ = false

-- each such line survives or is taken back, and not both
abbrev pub EachSurvivesOrIsTakenBack : Type 0
EachSurvivesOrIsTakenBack = (opening : ℕ) (turns : List Turn) (place : ℕ)
    → count_by (λ x. x.step.place == place) (survivors opening turns)
    + count_by (λ x. x.taken == place) (roll_of opening turns).taken_back
    ≡ count_by (λ turn. turn.place == place && revises turn.body) turns

-- the line was refused for that
pub record IsRefusedLine (turns : List Turn) (x : RefusedLine) : Type 0 where
  pub before : ℕ
  pub line : Turn
  pub there : slice_get turns before ≡ Some line
  pub named : line.place ≡ x.place
  pub refused : line.body ≡ Refused x.fault

abbrev pub RefusedAreThose : Type 0
RefusedAreThose = (opening : ℕ) (turns : List Turn) (x : RefusedLine)
    → Contains (roll_of opening turns).refused x ↔ IsRefusedLine turns x

-- the line is answered where the surviving lines before it leave no statement
pub record IsAskedOfNothing (opening : ℕ) (turns : List Turn) (place : ℕ) : Type 0 where
  pub before : ℕ
  pub line : Turn
  pub answers : List Answer
  pub there : slice_get turns before ≡ Some line
  pub named : line.place ≡ place
  pub answered : line.body ≡ Answers answers
  pub none_left : left_after opening (survivors opening (take before turns)) ≡ 0

abbrev pub AskedOfNothingAreThose : Type 0
AskedOfNothingAreThose = (opening : ℕ) (turns : List Turn) (place : ℕ)
    → Contains (roll_of opening turns).asked_of_nothing place ↔ IsAskedOfNothing opening turns place
