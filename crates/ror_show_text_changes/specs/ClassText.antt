-- What changed in the classes of alternatives from one time of a desk to the next, as plain text.
use Rattle.std.specs.Prelude.{ℕ, Bool, ◌||◌, List, [], ◌∷◌, ◌++◌, length, map, count_by, codes, slice_get, if◌then◌else◌}
use Rattle.std.specs.List.{flat_map, list_any}
use Rattle.std.specs.Option.{option_map_or}
use Rattle.ror_table.specs.Table.{DecisionTable, id_of}
use Rattle.ror_session.specs.declared.session.Session.{Session}
use Rattle.ror_bench.specs.declared.kept.KeptLine.{KeptLine}
use Rattle.ror_show_kit.specs.Layout.{wrapped, room_behind}
use Rattle.ror_show_kit.specs.Heads.{counted, line_text}
use Rattle.ror_show_ground.specs.Grounds.{Ground}
use Rattle.ror_show_ground.specs.Lines.{desk_at}
use Rattle.ror_show_find_classes.specs.declared.value.ClassRow.{ClassRow}
use Rattle.ror_show_find_classes.specs.declared.value.ClassTime.{ClassTime}
use Rattle.ror_show_find_classes.specs.declared.change.Change.{Change}
use Rattle.ror_show_find_classes.specs.declared.change.Change.TheVariants.{Stayed, Narrowed, Widened, Moved, NotConcluded}
use Rattle.ror_show_find_classes.specs.declared.changes.RowChange.{RowChange}
use Rattle.ror_show_find_classes.specs.declared.changes.ClassChangeFound.{ClassChangeFound}
use Rattle.ror_show_find_classes.specs.Changes.{is_none, is_same}
use Rattle.ror_show_text_classes.specs.Text.{stood_text, to_text, interval, list_text}
use Rattle.ror_show_text_changes.specs.Nothing.{nothing_text}

-- ---- the heading

-- the first and the last line of a time, its desk and what stood there
abbrev pub side_of : Session → List ℕ → ℕ → KeptLine → List ℕ
side_of s words last x = line_text x.block.line (desk_at s x) ++ codes "  ask classes" ++ to_text x.block.line last ++ words
    ++ stood_text x.standing

abbrev pub side_text : Ground → List ℕ → ClassTime → List ℕ
side_text g words time = option_map_or (side_of g.session words time.last) (slice_get g.kept time.place) []

abbrev pub legend : List ℕ
legend = codes "\n  of each alternative the lowest and the highest class that isn't excluded\n"

abbrev pub head_text : Ground → ClassTime → ClassTime → List ℕ
head_text g before now = side_text g (codes "  before\n") before ++ side_text g (codes "  now\n") now

-- ---- how many are settled

abbrev pub settled_among : List ClassRow → ℕ
settled_among rows = count_by (λ row. row.settled) rows

abbrev pub settled_of : List ℕ → List ClassRow → List ℕ
settled_of words rows = counted words (settled_among rows) ++ counted (codes " of ") (length rows)

abbrev pub settled_text : List ClassRow → List ClassRow → List ℕ
settled_text before now = settled_of (codes "  settled: ") before ++ settled_of (codes " before, ") now ++ codes " now\n"

-- ---- the alternatives of each change

-- the classes from the lowest to the highest, or that there is none
abbrev pub classes_text : ClassRow → List ℕ
classes_text row = if is_none row then codes "none" else interval row.lowest row.highest

-- those now, behind those before, where they are others
abbrev pub now_text : Change → ClassRow → List ℕ
now_text Stayed now = []
now_text _ now = codes "->" ++ classes_text now

abbrev pub row_text : DecisionTable → ClassRow → List ℕ
row_text t row = 32 ∷ id_of t row.alternative ++ 32 ∷ classes_text row

abbrev pub word_of : DecisionTable → RowChange → List ℕ
word_of t f = row_text t f.before ++ now_text f.change f.now

-- a word, where this became of the alternative
abbrev pub word_if : DecisionTable → Change → RowChange → List (List ℕ)
word_if t change f = if is_same f.change change then word_of t f ∷ [] else []

-- words behind the name of a list
abbrev pub listed : List ℕ → List (List ℕ) → List ℕ
listed name words = list_text name (wrapped (length name) (room_behind (length name)) words)

abbrev pub change_name : Change → List ℕ
change_name Stayed = codes "  stayed:"
change_name Narrowed = codes "  narrowed:"
change_name Widened = codes "  widened:"
change_name Moved = codes "  moved:"
change_name NotConcluded = codes "  not concluded:"

abbrev pub change_list : DecisionTable → List RowChange → Change → List ℕ
change_list t fs change = listed (change_name change) (flat_map (word_if t change) fs)

abbrev pub concluded_lists : DecisionTable → List RowChange → List ℕ
concluded_lists t fs = change_list t fs Narrowed ++ change_list t fs Widened ++ change_list t fs Moved ++ change_list t fs Stayed

abbrev pub change_lists : DecisionTable → List RowChange → List ℕ
change_lists t fs = concluded_lists t fs ++ change_list t fs NotConcluded

-- ---- those that were asked for at one time alone

abbrev pub alone_list : DecisionTable → List ℕ → List ClassRow → List ℕ
alone_list t name rows = listed name (map (row_text t) rows)

-- ---- the section of two times

abbrev pub found_text : DecisionTable → ClassChangeFound → List ℕ
found_text t f = change_lists t f.rows ++ alone_list t (codes "  asked now alone:") f.now_alone
    ++ alone_list t (codes "  asked before alone:") f.before_alone

abbrev pub compared_text : DecisionTable → ClassChangeFound → List ClassRow → List ClassRow → List ℕ
compared_text t f before now = legend ++ settled_text before now ++ found_text t f

-- no function agrees with what stands at the time
abbrev pub is_contradictory : List ClassRow → Bool
is_contradictory rows = list_any (λ row. row.contradictory) rows

-- where some function agrees at both times
abbrev pub compared_where : Bool → Bool → DecisionTable → ClassChangeFound → List ClassRow → List ClassRow → List ℕ
compared_where was is t f before now = if was || is then nothing_text was is else compared_text t f before now

abbrev pub compared : DecisionTable → ClassChangeFound → List ClassRow → List ClassRow → List ℕ
compared t f before now = compared_where (is_contradictory before) (is_contradictory now) t f before now

abbrev pub change_over : Ground → ClassChangeFound → ClassTime → ClassTime → List ℕ
change_over g f before now = head_text g before now ++ compared g.table f before.intervals now.intervals

abbrev pub change_from : Ground → List ClassTime → ClassChangeFound → ClassTime → List ℕ
change_from g times f before = option_map_or (change_over g f before) (slice_get times f.now) []

abbrev pub change_text : Ground → List ClassTime → ClassChangeFound → List ℕ
change_text g times f = option_map_or (change_from g times f) (slice_get times f.before) []
