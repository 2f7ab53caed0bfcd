-- The page of a roll.
use Rattle.std.specs.Prelude.{ℕ, ◌-◌, ◌==◌, List, [], ◌++◌, length, codes, decimal, Option, Some, None, slice_get, if◌then◌else◌}
use Rattle.std.specs.List.{flat_map}
use Rattle.ror_table.specs.Table.{DecisionTable}
use Rattle.ror_statement.specs.declared.statement.Statement.{Statement}
use Rattle.ror_session.specs.declared.session.Command.{Command}
use Rattle.ror_session.specs.declared.session.Line.{Line}
use Rattle.ror_report.specs.declared.block.LineFault.{LineFault}
use Rattle.ror_show_ground.specs.Grounds.{Ground}
use Rattle.ror_show_kit.specs.Layout.{spaces, set_right, room_behind}
use Rattle.ror_show_kit.specs.Rows.{columns_text}
use Rattle.ror_show_kit.specs.Spoken.{statement_text}
use Rattle.ror_show_text_roll.specs.Refusals.{fault_text}
use Rattle.ror_show_text_roll.specs.Words.{number, command_text, stated_text}
use Rattle.ror_show_find_roll.specs.declared.roll.Entry.{Entry}
use Rattle.ror_show_find_roll.specs.declared.roll.Gone.{Gone}
use Rattle.ror_show_find_roll.specs.declared.roll.RefusedLine.{RefusedLine}
use Rattle.ror_show_find_roll.specs.declared.roll.Roll.{Roll}
use Rattle.ror_show_find_roll.specs.declared.roll.Source.{Source}
use Rattle.ror_show_find_roll.specs.declared.roll.Source.TheVariants as sources
use Rattle.ror_show_find_roll.specs.declared.roll.TakenBack.{TakenBack}

-- ---- rows of two columns

abbrev pub mark : Option ℕ → List ℕ
mark None = spaces 6
mark (Some n) = set_right 6 (decimal n)

abbrev pub row : Option ℕ → List ℕ → List ℕ → List ℕ
row n first second = mark n ++ codes " " ++ columns_text (room_behind 7) first second ++ codes "\n"

-- ---- what the columns say

abbrev pub number_of : Option Line → ℕ
number_of None = 0
number_of (Some line) = line.number

-- the line's number in the session's file
abbrev pub line_text : List Line → ℕ → List ℕ
line_text lines place = codes "line" ++ number (number_of (slice_get lines place))

abbrev pub said_in : Option Line → List ℕ
said_in None = []
said_in (Some line) = command_text line.command

-- all that the line says
abbrev pub said_text : List Line → ℕ → List ℕ
said_text lines place = said_in (slice_get lines place)

abbrev pub stated_in : Option Line → List ℕ
stated_in None = []
stated_in (Some line) = stated_text line.command

abbrev pub opened_in : DecisionTable → Option Statement → List ℕ
opened_in t None = []
opened_in t (Some s) = statement_text t s

-- the statement with a number as it came from there
abbrev pub source_statement : Ground → ℕ → Source → List ℕ
source_statement g n sources.File = opened_in g.table (slice_get g.opening (n - 1))
source_statement g n (sources.Line place) = stated_in (slice_get g.session.lines place)

abbrev pub source_text : Ground → Source → List ℕ
source_text g sources.File = codes "the table's file"
source_text g (sources.Line place) = line_text g.session.lines place

abbrev pub behind_text : Ground → ℕ → Source → List ℕ
behind_text g n source = codes ": " ++ source_statement g n source ++ codes ")"

abbrev pub place_text : Ground → ℕ → Source → List ℕ
place_text g n source = codes " (in the place of " ++ source_text g source ++ behind_text g n source

abbrev pub instead_text : Ground → ℕ → Option Source → List ℕ
instead_text g n None = []
instead_text g n (Some source) = place_text g n source

abbrev pub origin_text : Ground → Entry → List ℕ
origin_text g e = source_text g e.said ++ instead_text g e.number e.instead_of

abbrev pub removal : Gone → List ℕ
removal x = if x.by_repair then codes ", dropped by the repair of " else codes ", withdrawn by "

abbrev pub gone_text : Ground → Gone → List ℕ
gone_text g x = origin_text g x.entry ++ removal x ++ line_text g.session.lines x.by

abbrev pub taken_text : List Line → TakenBack → List ℕ
taken_text lines x = line_text lines x.taken ++ codes ", by " ++ line_text lines x.by

abbrev pub why_text : DecisionTable → Command → LineFault → List ℕ
why_text t command fault = codes ", " ++ fault_text t command fault

abbrev pub fault_in : DecisionTable → Option Line → LineFault → List ℕ
fault_in t None fault = []
fault_in t (Some line) fault = why_text t line.command fault

abbrev pub refused_text : Ground → RefusedLine → List ℕ
refused_text g x = line_text g.session.lines x.place ++ fault_in g.table (slice_get g.session.lines x.place) x.fault

-- ---- the rows

abbrev pub entry_row : Ground → Entry → List ℕ
entry_row g e = row (Some e.number) (source_statement g e.number e.said) (origin_text g e)

abbrev pub gone_row : Ground → Gone → List ℕ
gone_row g x = row (Some x.entry.number) (source_statement g x.entry.number x.entry.said) (gone_text g x)

abbrev pub taken_row : Ground → TakenBack → List ℕ
taken_row g x = row None (said_text g.session.lines x.taken) (taken_text g.session.lines x)

abbrev pub refused_row : Ground → RefusedLine → List ℕ
refused_row g x = row None (said_text g.session.lines x.place) (refused_text g x)

abbrev pub asked_row : Ground → ℕ → List ℕ
asked_row g place = row None (said_text g.session.lines place) (line_text g.session.lines place)

-- ---- the page

abbrev pub desk_text : List ℕ → List ℕ
desk_text desk = if length desk == 0 then codes "(no name)" else codes "@" ++ desk

abbrev pub head_text : List ℕ → ℕ → List ℕ
head_text desk line = desk_text desk ++ codes "  after line" ++ number line ++ codes "\n"

-- what stands above so many rows
abbrev pub title : List ℕ → ℕ → List ℕ
title name count = codes "  " ++ name ++ (if count == 0 then codes ": none\n" else codes "\n")

abbrev pub entries_text : Ground → List Entry → List ℕ
entries_text g list = title (codes "stands") (length list) ++ flat_map (entry_row g) list

abbrev pub gone_rows : Ground → List Gone → List ℕ
gone_rows g list = title (codes "stands no more") (length list) ++ flat_map (gone_row g) list

abbrev pub taken_rows : Ground → List TakenBack → List ℕ
taken_rows g list = title (codes "taken back") (length list) ++ flat_map (taken_row g) list

abbrev pub refused_rows : Ground → List RefusedLine → List ℕ
refused_rows g list = title (codes "refused") (length list) ++ flat_map (refused_row g) list

abbrev pub asked_rows : Ground → List ℕ → List ℕ
asked_rows g list = title (codes "asked when nothing stood") (length list) ++ flat_map (asked_row g) list

-- what stands after the line with this number, and what stands no more
abbrev pub standing_text : Ground → List ℕ → ℕ → Roll → List ℕ
standing_text g desk line roll = head_text desk line ++ entries_text g roll.entries ++ gone_rows g roll.gone

-- what was taken back, refused, and asked when nothing stood
abbrev pub rest_text : Ground → Roll → List ℕ
rest_text g roll = taken_rows g roll.taken_back ++ refused_rows g roll.refused ++ asked_rows g roll.asked_of_nothing

-- the roll of a desk after the line with this number
abbrev pub roll_text : Ground → List ℕ → ℕ → Roll → List ℕ
roll_text g desk line roll = standing_text g desk line roll ++ rest_text g roll
