-- What holds of the pages of a report.
use Rattle.std.specs.Prelude.{◌≡◌, ℕ, ◌<◌, Bool, true, false, List, [], length, map, take, slice_get, slice_index_or, Option, Some, None}
use Rattle.std.specs.List.{AllByRecursion, AllZip}
use Rattle.std.specs.Option.{option_map}
use Rattle.ror_statement.specs.declared.statement.Numbered.{Numbered}
use Rattle.ror_statement.specs.declared.statement.Statement.{Statement}
use Rattle.ror_statement.specs.Statements.{statements_in}
use Rattle.ror_table.specs.Table.{DecisionTable, IsTable}
use Rattle.ror_value.specs.declared.input.Input.{Input}
use Rattle.ror_value.specs.Over.{IsLawfulIn}
use Rattle.ror_proof.specs.declared.answer.Answer.{Answer}
use Rattle.ror_report.specs.declared.block.Block.{Block}
use Rattle.ror_report.specs.declared.block.Body.TheVariants as bodies
use Rattle.ror_report.specs.Text.{answers_of}
use Rattle.ror_bench.specs.declared.kept.Keep.{Keep}
use Rattle.ror_bench.specs.declared.kept.KeptLine.{KeptLine}
use Rattle.ror_bench.specs.declared.report.Accepted.{Accepted}
use Rattle.ror_history.specs.History.{standing}
use Rattle.ror_bench.specs.Desks.{with_blocks}
use Rattle.ror_bench.specs.Kept.{kept_from}
use Rattle.ror_bench.specs.Reports.{IsProvedReport, revisions_then}
use Rattle.ror_show_find_roll.specs.Laws.{stated_at}
use Rattle.ror_show_find_roll.specs.Roll.{roll_of}
use Rattle.ror_show_find_roll.specs.Shown.{shown}
use Rattle.ror_show_find_roll.specs.Steps.{kept_turns}
use Rattle.ror_show_find_reasons.specs.declared.bounds.ClassesFound.{ClassesFound}
use Rattle.ror_show_find_reasons.specs.declared.lines.LineFound.{LineFound}
use Rattle.ror_show_find_reasons.specs.declared.lines.Meant.{Meant}
use Rattle.ror_show_find_reasons.specs.declared.pairs.ChangeFound.{ChangeFound}
use Rattle.ror_show_find_reasons.specs.declared.pairs.RelationFound.{RelationFound}
use Rattle.ror_show_find_reasons.specs.Bounds.{AreClassesFound}
use Rattle.ror_show_find_reasons.specs.Lines.{AreLinesFound}
use Rattle.ror_show_find_reasons.specs.Pairs.{AreRelationsFound, AreChangesFound}
use Rattle.ror_show_find_whatif.specs.declared.cases.Case.{Case}
use Rattle.ror_show_find_whatif.specs.declared.times.TimeWhatIf.{TimeWhatIf}
use Rattle.ror_show_find_whatif.specs.declared.whatif.WhatIf.{WhatIf}
use Rattle.ror_show_find_whatif.specs.Findings.{AreRelationWhatIfs, AreClassWhatIfs}
use Rattle.ror_show_find_relation.specs.Cells.{cell_at}
use Rattle.ror_show_find_relation.specs.Pages.{IsRelationPage}
use Rattle.ror_show_find_relation.specs.declared.page.RelationPage.{RelationPage}
use Rattle.ror_show_find_relation.specs.Meaning.{Says}
use Rattle.ror_show_find_classes.specs.Meaning.{SignSays}
use Rattle.ror_show_find_classes.specs.Signs.{alternative_of, sign_of_class}
use Rattle.ror_show_find_classes.specs.Times.{answers_at, rows}
use Rattle.ror_show_ground.specs.Lines.{desk_of}
use Rattle.ror_show_find_proofs.specs.LineLaws.{AreMeantOfWhatStood}
use Rattle.ror_frame.specs.Inputs.{bench_for}
use Rattle.ror_session.specs.declared.session.Command.{Command}
use Rattle.ror_session.specs.declared.session.Command.TheVariants.{Ask, Repair}
use Rattle.ror_session.specs.declared.session.Line.{Line}
use Rattle.ror_session.specs.declared.session.Session.{Session}
use Rattle.ror_session.specs.Sound.{IsSound, desk_name}
use Rattle.ror_show_words.specs.declared.table.Page.{Page}
use Rattle.ror_show_words.specs.declared.table.Page.TheVariants as pages
use Rattle.ror_show_words.specs.declared.words.Form.{Form}
use Rattle.ror_show_words.specs.declared.words.Form.TheVariants.{Text, Csv, Certificates}
use Rattle.ror_show_words.specs.Words.{PageWords}
use Rattle.ror_show_pages.specs.Choosing.{is_line}
use Rattle.ror_show_find_roll.specs.Choosing.{is_desk}
use Rattle.ror_show_pages.specs.Reads.{ReadsKept}
use Rattle.ror_show_ground.specs.Grounds.{Ground, ground_in, IsJudged}
use Rattle.ror_show_pages.specs.Pages.{page_of, keeps, IsPage}

-- The page names parts of what stood, which may be some of several, or one of several reasons; or it counts answers that may be too wide or
-- not.
abbrev pub names_parts : Page → Form → Bool
names_parts pages.Relation Text = true
names_parts pages.Changes Text = true
names_parts pages.Classes Text = true
names_parts pages.Reasons Text = true
names_parts pages.Reasons Certificates = true
names_parts pages.WhatIf Text = true
names_parts pages.WhatIf Csv = true
names_parts _ _ = false

-- ---- what is found is the same but for those parts and reasons

-- of a relation: the place, all that holds between the alternatives, and of which pairs it is said what carries them
pub record SameRelation (f h : RelationFound) : Type 0 where
  pub place : f.place ≡ h.place
  pub relation : f.relation ≡ h.relation
  pub pairs : map (λ c. c.pair) f.carried ≡ map (λ c. c.pair) h.carried

pub record SameChange (f h : ChangeFound) : Type 0 where
  pub places : (f.before ≡ h.before) × (f.now ≡ h.now)
  pub relations : (f.first ≡ h.first) × (f.second ≡ h.second)
  pub pairs : f.pairs ≡ h.pairs
  pub brought : map (λ c. c.pair) f.brought ≡ map (λ c. c.pair) h.brought

-- of a time: its rows, and the class at each end of each row that something settles
pub record SameClasses (f h : ClassesFound) : Type 0 where
  pub time : f.time ≡ h.time
  pub below : map (λ b. option_map (λ x. x.class) b.below) f.bounds ≡ map (λ b. option_map (λ x. x.class) b.below) h.bounds
  pub above : map (λ b. option_map (λ x. x.class) b.above) f.bounds ≡ map (λ b. option_map (λ x. x.class) b.above) h.bounds

-- of a line: its place, which lines said what stood, which answers are told, and which statements were dropped
pub record SameLine (f h : LineFound) : Type 0 where
  pub place : f.place ≡ h.place
  pub said : f.said ≡ h.said
  pub told : map (λ x. x.answer) f.told ≡ map (λ x. x.answer) h.told
  pub drops : map (λ x. x.number) f.drops ≡ map (λ x. x.number) h.drops

-- what is said in place of a statement, where that has a contrary
abbrev pub contrary_said : Case → Option Statement
contrary_said c = option_map (λ x. x.statement) c.contrary

-- of what hangs on statements at a line: its place, its alternative, whether some function agrees, each statement, and its contrary
pub record SameWhatIf (f h : WhatIf) : Type 0 where
  pub place : f.place ≡ h.place
  pub alternative : f.alternative ≡ h.alternative
  pub agreement : f.agreement ≡ h.agreement
  pub stated : map (λ c. c.stated) f.cases ≡ map (λ c. c.stated) h.cases
  pub contraries : map contrary_said f.cases ≡ map contrary_said h.cases

-- and at a time: that, and so much at each of its lines
pub record SameTimeWhatIf (f h : TimeWhatIf) : Type 0 where
  pub time : f.time ≡ h.time
  pub rows : AllZip SameWhatIf f.rows h.rows

-- Of a report the lines are one list of which something is kept. These have one page, where it names no parts of what stood; and where it
-- does, all that is found is the same but for those parts. The answers to a line have one relation.
pub record OnePage : Type 0 where
  pub lines : (keep : List Keep) (i : Input) (s : Session) (bytes : List ℕ) (one other : List KeptLine) → IsTable i.table
      → ReadsKept keep i s bytes one → ReadsKept keep i s bytes other → one ≡ other
  pub text : (page : Page) (words : PageWords) (g : Ground) (one other : List ℕ) → names_parts page words.form ≡ false
      → IsPage (page_of page words.form) words g one → IsPage (page_of page words.form) words g other → one ≡ other
  pub relation : (t : DecisionTable) (xs : List Answer) (one other : RelationPage)
      → IsRelationPage t xs one → IsRelationPage t xs other → one ≡ other
  pub relations : (sought : Bool) (g : Ground) (fs hs : List RelationFound)
      → AreRelationsFound sought g fs → AreRelationsFound sought g hs → AllZip SameRelation fs hs
  pub changes : (sought : Bool) (g : Ground) (fs hs : List ChangeFound)
      → AreChangesFound sought g fs → AreChangesFound sought g hs → AllZip SameChange fs hs
  pub classes : (sought : Bool) (g : Ground) (fs hs : List ClassesFound)
      → AreClassesFound sought g fs → AreClassesFound sought g hs → AllZip SameClasses fs hs
  pub reasons : (m : Meant) (g : Ground) (fs hs : List LineFound) → AreLinesFound m g fs → AreLinesFound m g hs → AllZip SameLine fs hs
  pub whatifs : (g : Ground) (fs hs : List WhatIf) → AreRelationWhatIfs g fs → AreRelationWhatIfs g hs → AllZip SameWhatIf fs hs
  pub times : (g : Ground) (fs hs : List TimeWhatIf) → AreClassWhatIfs g fs → AreClassWhatIfs g hs → AllZip SameTimeWhatIf fs hs

-- ---- what is found is of a report that is judged

-- Of a report that is proved over a lawful input the lines that are kept are as finders and writers take them.
abbrev pub ReadsAreJudged : Type 0
ReadsAreJudged = (keep : List Keep) (i : Input) (s : Session) (bytes : List ℕ) (kept : List KeptLine)
    → IsLawfulIn i.table i.opening → IsSound s → ReadsKept keep i s bytes kept → IsJudged (ground_in i s kept)

-- where a line's answers are kept with what stood, each cell that they give is true of all value functions that are compatible
-- with that
abbrev pub AreTrueOfWhatStood : DecisionTable → KeptLine → Type 0
AreTrueOfWhatStood t x = (list : List Numbered) (xs : List Answer) (n a b : ℕ) → x.standing ≡ Some list
    → x.block.body ≡ bodies.Answers xs → Says t (statements_in list) (cell_at n xs a b) a b

-- and so is what is shown of a report that is proved
abbrev pub ShownIsTrue : Type 0
ShownIsTrue = (i : Input) (s : Session) (bytes : List ℕ) (accepted : Accepted) (keep : List Keep)
    → IsLawfulIn i.table i.opening → (report : IsProvedReport (bench_for i s) s.lines bytes accepted)
    → AllByRecursion (AreTrueOfWhatStood i.table) (kept_from (bench_for i s) keep [] s.lines report.blocks)

-- ---- what is kept

-- the lines of a session that a page is of, with what came of them
abbrev pub kept_for : Page → Form → PageWords → Input → Session → List Block → List KeptLine
kept_for page form words i s blocks =
    kept_from (bench_for i s) (keeps (page_of page form) words.line words.desk s) [] s.lines blocks

-- Each line that the page of the relation is of is kept with what stood there, so the statements that carry its arrows can be named.
abbrev pub RelationsHaveWhatStood : Type 0
RelationsHaveWhatStood = (form : Form) (words : PageWords) (i : Input) (s : Session) (blocks : List Block)
    → AllByRecursion (λ x. (list : List Numbered) × (x.standing ≡ Some list)) (kept_for pages.Relation form words i s blocks)

-- the line asks something
abbrev pub is_question : Command → Bool
is_question (Ask asks) = true
is_question _ = false

abbrev pub asks_at : Option Line → Bool
asks_at (Some line) = is_question line.command
asks_at None = false

-- On each page that as a text names parts of what stood each line that asks something is kept with what stood there, if at all.
abbrev pub AskedHaveWhatStood : Type 0
AskedHaveWhatStood = (page : Page) (form : Form) (words : PageWords) (i : Input) (s : Session) (blocks : List Block)
    → names_parts page Text ≡ true
    → AllByRecursion (λ x. asks_at (slice_get s.lines x.place) ≡ true → (list : List Numbered) × (x.standing ≡ Some list))
    (kept_for page form words i s blocks)

-- ---- classes

-- This list stood at the kept line at a place, and each sign in the line's row is true of all value functions that are compatible with
-- it.
abbrev pub IsTrueRow : DecisionTable → List KeptLine → List Numbered → ℕ → Type 0
IsTrueRow t kept list n = (x : KeptLine) → slice_get kept n ≡ Some x → (x.standing ≡ Some list)
    × ((h : ℕ) → SignSays t (statements_in list) (sign_of_class (answers_of x.block.body) h) (alternative_of (answers_of x.block.body)) h)

-- So it is at each time of a desk that is meant, with one list for all rows of a time.
abbrev pub ClassesAreTrue : Type 0
ClassesAreTrue = (form : Form) (words : PageWords) (i : Input) (s : Session) (bytes : List ℕ) (accepted : Accepted) (desk n : ℕ)
    → IsLawfulIn i.table i.opening → (report : IsProvedReport (bench_for i s) s.lines bytes accepted)
    → is_desk words.desk (slice_index_or s.desks desk []) ≡ true
    → answers_at s (kept_for pages.Classes form words i s report.blocks) desk n ≡ true
    → (list : List Numbered) × AllByRecursion (IsTrueRow i.table (kept_for pages.Classes form words i s report.blocks) list)
    (rows s (kept_for pages.Classes form words i s report.blocks) n desk)

-- ---- functions

-- In a proved report each function in the answers to a line that is kept with what stood agrees with that, and that of a part decides
-- its question.
abbrev pub FunctionsAreTrue : Type 0
FunctionsAreTrue = (i : Input) (s : Session) (bytes : List ℕ) (accepted : Accepted) (keep : List Keep)
    → IsLawfulIn i.table i.opening → (report : IsProvedReport (bench_for i s) s.lines bytes accepted)
    → AllByRecursion (AreMeantOfWhatStood i.table) (kept_from (bench_for i s) keep [] s.lines report.blocks)

-- ---- what stands

-- Where no line and no desk is meant, the roll of each desk that the page of what stands shows of a report that is proved has exactly
-- what stands there when the session is over: each statement with its number, and as the line that it names states it.
abbrev pub StandingIsShown : Type 0
StandingIsShown = (form : Form) (words : PageWords) (i : Input) (s : Session) (bytes : List ℕ) (accepted : Accepted) (desk : ℕ)
    → words.line ≡ None → words.desk ≡ None → desk < length s.desks
    → (report : IsProvedReport (bench_for i s) s.lines bytes accepted)
    → map (shown (stated_at i.table s.lines) i.opening) (roll_of (length i.opening) (kept_turns s.lines desk
    (kept_for pages.Standing form words i s report.blocks))).entries
    ≡ map Some (standing (revisions_then (bench_for i s) (with_blocks s.lines report.blocks) desk))

-- ---- reasons

-- it asks or repairs, so there may be reasons for what came of it
abbrev pub IsExplained : Command → Type 0
IsExplained (Ask asked) = Unit {0}
IsExplained Repair = Unit {0}
IsExplained _ = ⊥

-- A line that asks or repairs, at a desk that is meant, and is meant itself, is among the lines of the page of reasons in a proved report,
-- with its block and what stood there before it: so its answers, or what it dropped, have their reasons on the page.
abbrev pub MeantLinesAreKept : Type 0
MeantLinesAreKept = (words : PageWords) (i : Input) (s : Session) (bytes : List ℕ) (accepted : Accepted) (n : ℕ) (line : Line)
    (block : Block) → (report : IsProvedReport (bench_for i s) s.lines bytes accepted)
    → slice_get s.lines n ≡ Some line → slice_get report.blocks n ≡ Some block → IsExplained line.command
    → is_desk words.desk (desk_name s.desks line) ≡ true → is_line words.line line.number ≡ true
    → (k : ℕ) × (slice_get (kept_for pages.Reasons Text words i s report.blocks) k ≡ Some (record {
      place = n;
      standing = Some (standing (revisions_then (bench_for i s) (with_blocks (take n s.lines) (take n report.blocks)) line.desk));
      block = block;
    }))

-- Where reasons are shown of a line of a proved report, the roll by which it is known which line said each statement has exactly what
-- stood there, each statement with its number and as the line before that it names states it.
abbrev pub SaidIsWhatStood : Type 0
SaidIsWhatStood = (words : PageWords) (i : Input) (s : Session) (bytes : List ℕ) (accepted : Accepted) (k : ℕ) (x : KeptLine)
    (list : List Numbered) → IsSound s → (report : IsProvedReport (bench_for i s) s.lines bytes accepted)
    → slice_get (kept_for pages.Reasons Text words i s report.blocks) k ≡ Some x → x.standing ≡ Some list
    → map (shown (stated_at i.table (take x.place s.lines)) i.opening) (roll_of (length i.opening)
    (kept_turns s.lines (desk_of s x) (take k (kept_for pages.Reasons Text words i s report.blocks)))).entries
    ≡ map Some list
