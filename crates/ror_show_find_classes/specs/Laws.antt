-- What holds of the signs, intervals and times that are shown.
use Rattle.std.specs.Prelude.{◌≡◌, ◌≢◌, ◌↔◌, ℕ, ◌≤◌, ◌<◌, true, false, List, [], length, map, Some, None, slice_get, Contains}
use Rattle.std.specs.List.{AllByRecursion}
use Rattle.std.specs.Option.{option_map_or}
use Rattle.ror_statement.specs.declared.statement.Numbered.{Numbered}
use Rattle.ror_statement.specs.declared.statement.Statement.{Statement}
use Rattle.ror_table.specs.Table.{DecisionTable}
use Rattle.ror_session.specs.declared.session.Line.{Line}
use Rattle.ror_session.specs.declared.session.Session.{Session}
use Rattle.ror_proof.specs.declared.answer.Answer.{Answer}
use Rattle.ror_check.specs.Proof.{is_wide}
use Rattle.ror_classes.specs.Classes.{class_questions}
use Rattle.ror_report.specs.declared.block.Block.{Block}
use Rattle.ror_bench.specs.declared.kept.Keep.{Keep}
use Rattle.ror_bench.specs.declared.kept.KeptLine.{KeptLine}
use Rattle.ror_bench.specs.Bench.{Workbench}
use Rattle.ror_bench.specs.Blocks.{IsProvedBlock}
use Rattle.ror_bench.specs.Kept.{keep_at, kept_from}
use Rattle.ror_bench.specs.Reports.{EachHolds}
use Rattle.ror_show_find_relation.specs.CellLaws.{AreTrueAnswers}
use Rattle.ror_show_ground.specs.Meaning.{BySome}
use Rattle.ror_show_find_classes.specs.declared.sign.Sign.{Sign}
use Rattle.ror_show_find_classes.specs.declared.sign.Sign.TheVariants as signs
use Rattle.ror_show_ground.specs.Lines.{desk_of}
use Rattle.ror_show_find_classes.specs.Times.{keep_for, answers_at, revises_at, times, rows}
use Rattle.ror_show_find_classes.specs.Signs.{byte_of, alternative_of, sign_at, sign_of_class, is_left}
use Rattle.ror_show_find_classes.specs.Intervals.{lowest, highest, is_settled, is_contradictory}
use Rattle.ror_show_find_classes.specs.Meaning.{MayBelong, IsNecessaryClass, SignSays}
use Rattle.ror_value.specs.Meaning.{IsContradictory}

-- by answers that are true of all compatible functions each sign says what is true of them
abbrev pub SignsAreTrue : Type 0
SignsAreTrue = (t : DecisionTable) (list : List Statement) (xs : List Answer) (a h : ℕ)
    → AreTrueAnswers t list xs → SignSays t list (sign_at xs a h) a h

-- of one alternative and class one sign is true, but for the one that says nothing
abbrev pub OneSign : Type 0
OneSign = (t : DecisionTable) (list : List Statement) (x y : Sign) (a h : ℕ)
    → SignSays t list x a h → SignSays t list y a h → x ≢ signs.Unknown → y ≢ signs.Unknown → x ≡ y

-- Where the answers are those to both questions on each class, in order, and none of them is too wide, they are of that alternative,
-- and each sign says something.
abbrev pub SignsAreWhole : Type 0
SignsAreWhole = (classes a : ℕ) (xs : List Answer) (h : ℕ) → map (λ x. x.question) xs ≡ class_questions a classes
    → AllByRecursion (λ x. is_wide x.verdict ≡ false) xs → 1 ≤ h → h ≤ classes
    → (alternative_of xs ≡ a) × (sign_at xs a h ≢ signs.Unknown)

-- Of the classes of the table, those to which some compatible function lets the alternative belong lie between the two ends that are
-- shown of it. One that is settled has one end for both, and some function lets it belong there. Where it is said that no function agrees,
-- none does.
pub record IntervalIsTrue (t : DecisionTable) (list : List Statement) (xs : List Answer) : Type 0 where
  pub between : (h : ℕ) → 1 ≤ h → h ≤ t.classes → BySome t list (MayBelong t list (alternative_of xs) h)
      → (lowest xs t.classes ≤ h) × (h ≤ highest xs t.classes)
  pub settled : is_settled t.classes xs ≡ true → (lowest xs t.classes ≡ highest xs t.classes)
      × BySome t list (MayBelong t list (alternative_of xs) (lowest xs t.classes))
  pub contradictory : is_contradictory xs t.classes ≡ true → IsContradictory t list

abbrev pub IntervalsAreTrue : Type 0
IntervalsAreTrue = (t : DecisionTable) (list : List Statement) (xs : List Answer)
    → AreTrueAnswers t list xs → IntervalIsTrue t list xs

-- the byte that stands for the sign of a class
abbrev pub byte_at : ℕ → List Answer → ℕ → ℕ
byte_at classes xs h = byte_of (is_settled classes xs) (sign_of_class xs h)

-- A class with `#` is one that every compatible function leaves the alternative, and none leaves it another of the table. One with `&` is
-- left by every function too, and another one isn't excluded.
pub record BytesAreTrue : Type 0 where
  pub only : (t : DecisionTable) (list : List Statement) (xs : List Answer) (h : ℕ) → AreTrueAnswers t list xs
      → 1 ≤ h → h ≤ t.classes → byte_at t.classes xs h ≡ 35
      → IsNecessaryClass t list (alternative_of xs) h × ((g : ℕ) → 1 ≤ g → g ≤ t.classes
      → BySome t list (MayBelong t list (alternative_of xs) g) → g ≡ h)
  pub beside : (t : DecisionTable) (list : List Statement) (xs : List Answer) (h : ℕ) → AreTrueAnswers t list xs
      → 1 ≤ h → h ≤ t.classes → byte_at t.classes xs h ≡ 38
      → IsNecessaryClass t list (alternative_of xs) h
      × ((g : ℕ) × (1 ≤ g) × (g ≤ t.classes) × (g ≢ h) × (is_left xs g ≡ true))

-- ---- times

-- so much is kept of each line of a desk
abbrev pub KeepsAtDesk : List Keep → List Line → ℕ → Type 0
KeepsAtDesk keep lines desk = (place : ℕ) (line : Line) → slice_get lines place ≡ Some line → line.desk ≡ desk
    → keep_at keep place ≡ keep_for line.command

-- this stood at the kept line at a place
abbrev pub StoodAt : List KeptLine → List Numbered → ℕ → Type 0
StoodAt kept list n = option_map_or (λ x. x.standing) (slice_get kept n) None ≡ Some list

-- A row of the time that begins at a place: a line that is answered at the desk, from that place on, and between them nothing changes
-- what stands there.
pub record IsRow (s : Session) (kept : List KeptLine) (desk first n : ℕ) : Type 0 where
  pub from : first ≤ n
  pub within : n < length kept
  pub answered : answers_at s kept desk n ≡ true
  pub unchanged : (k : ℕ) → first ≤ k → k ≤ n → revises_at s kept desk k ≡ false

abbrev pub RowsAreThose : Type 0
RowsAreThose = (s : Session) (kept : List KeptLine) (desk first n : ℕ)
    → Contains {X = ℕ} (rows s kept first desk) n ↔ IsRow s kept desk first n

-- A line begins a time: it is answered, and behind each line that was so at its desk before something changed what stands there.
pub record BeginsTime (s : Session) (kept : List KeptLine) (n : ℕ) : Type 0 where
  pub line : KeptLine
  pub at : slice_get kept n ≡ Some line
  pub answered : answers_at s kept (desk_of s line) n ≡ true
  pub fresh : (k : ℕ) → k < n → answers_at s kept (desk_of s line) k ≡ true
      → ((m : ℕ) → k ≤ m → m < n → revises_at s kept (desk_of s line) m ≡ false) → ⊥

abbrev pub TimesAreThose : Type 0
TimesAreThose = (s : Session) (kept : List KeptLine) (n : ℕ) → Contains {X = ℕ} (times s kept) n ↔ BeginsTime s kept n

-- the line is a row of one time of its desk
pub record IsInOneTime (s : Session) (kept : List KeptLine) (desk n : ℕ) : Type 0 where
  pub first : ℕ
  pub begins : Contains {X = ℕ} (times s kept) first
  pub row : Contains {X = ℕ} (rows s kept first desk) n
  pub one : (other : ℕ) → Contains {X = ℕ} (times s kept) other → answers_at s kept desk other ≡ true
      → Contains {X = ℕ} (rows s kept other desk) n → other ≡ first

-- so is each line that is answered
abbrev pub EachIsInOneTime : Type 0
EachIsInOneTime = (s : Session) (kept : List KeptLine) (desk n : ℕ) → answers_at s kept desk n ≡ true
    → IsInOneTime s kept desk n

-- Where so much is kept of each line of a desk, and the blocks are proved, there is one list that stood at each line of a time of it.
abbrev pub OneListInATime : Type 0
OneListInATime = (bench : Workbench) (keep : List Keep) (s : Session) (blocks : List Block) (desk n : ℕ)
    → KeepsAtDesk keep s.lines desk → EachHolds (IsProvedBlock bench.table) bench [] s.lines blocks
    → answers_at s (kept_from bench keep [] s.lines blocks) desk n ≡ true
    → (list : List Numbered) × AllByRecursion (StoodAt (kept_from bench keep [] s.lines blocks) list)
    (rows s (kept_from bench keep [] s.lines blocks) n desk)
