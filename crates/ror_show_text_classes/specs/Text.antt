-- The classes at a time, as plain text.
use Rattle.std.specs.Prelude.{ℕ, Bool, false, not, ◌&&◌, ◌==◌, nat_lt, List, [], ◌∷◌, ◌++◌, length, codes, decimal, count_by, Option, Some, None, slice_get, unwrap_or, if◌then◌else◌}
use Rattle.std.specs.List.{flat_map, list_any, range_with_len}
use Rattle.std.specs.Option.{option_map_or}
use Rattle.ror_statement.specs.declared.statement.Numbered.{Numbered}
use Rattle.ror_statement.specs.declared.statement.Statement.{Statement}
use Rattle.ror_statement.specs.declared.statement.Statement.TheVariants.{Class}
use Rattle.ror_statement.specs.Statements.{numbers_in}
use Rattle.ror_table.specs.Table.{DecisionTable, id_of}
use Rattle.ror_session.specs.declared.session.Session.{Session}
use Rattle.ror_bench.specs.declared.kept.KeptLine.{KeptLine}
use Rattle.ror_show_kit.specs.Layout.{spaces, set_left, room_behind, wrapped}
use Rattle.ror_show_kit.specs.Heads.{counted, line_text, statements_text}
use Rattle.ror_show_kit.specs.declared.part.Part.{Part}
use Rattle.ror_show_kit.specs.Parts.{widest, part_at, is_in, number_text}
use Rattle.ror_show_ground.specs.Grounds.{Ground}
use Rattle.ror_show_ground.specs.Lines.{desk_at}
use Rattle.ror_show_find_classes.specs.declared.sign.Sign.{Sign}
use Rattle.ror_show_find_classes.specs.declared.sign.Sign.TheVariants.{Unknown}
use Rattle.ror_show_find_classes.specs.Signs.{byte_of}
use Rattle.ror_show_find_classes.specs.declared.value.ClassRow.{ClassRow}
use Rattle.ror_show_find_classes.specs.declared.findings.ClassLine.{ClassLine}
use Rattle.ror_show_find_classes.specs.declared.findings.TimeFound.{TimeFound}

-- ---- the heading

-- the numbers of what stood, where that was kept
abbrev pub stood_text : Option (List Numbered) → List ℕ
stood_text (Some list) = statements_text (numbers_in list)
stood_text None = []

-- the line that ends the time, where it is another than the one that begins it
abbrev pub to_text : ℕ → ℕ → List ℕ
to_text first last = if first == last then [] else counted (codes ", up to line ") last

abbrev pub legend_end : List ℕ
legend_end = codes " (best), by the value functions that agree with the statements\n     #  the only class possible                  &  by every function; others aren't excluded\n     +  by some function, not by every one       .  by no function\n     ?  not concluded                            !  no function agrees\n     *  before it: a statement assigns it so\n"

-- how many classes there are, and what the signs mean
abbrev pub legend : ℕ → List ℕ
legend classes = counted (codes "\n  classes from 1 (worst) to ") classes ++ legend_end

-- both lines, the desk and what stood there
abbrev pub head_text : Session → KeptLine → ℕ → List ℕ
head_text s x last = line_text x.block.line (desk_at s x) ++ codes "  ask classes" ++ to_text x.block.line last ++ codes "\n" ++ stood_text x.standing

-- ---- the classes, in parts of as many columns as fit

-- the part at a place: of a line 118 columns are for an id and cells
abbrev pub part_of : ℕ → ℕ → Part
part_of width place = part_at 118 width place

-- the numbers of the classes
abbrev pub numbers_text : ℕ → Part → List ℕ
numbers_text classes part = 10 ∷ spaces part.width ++ codes "  " ++ flat_map (number_text part) (range_with_len 0 classes) ++ 10 ∷ []

abbrev pub star : Bool → ℕ
star assigned = if assigned then 42 else 32

-- whether a statement assigns the alternative to a class, from 0 here, and the sign of the class
abbrev pub is_assigned : ClassLine → ℕ → Bool
is_assigned row h = unwrap_or (slice_get row.assigned h) false

abbrev pub sign_at : ClassLine → ℕ → Sign
sign_at row h = unwrap_or (slice_get row.signs h) Unknown

-- the sign behind a star where it does
abbrev pub cell_text : ClassLine → Part → ℕ → List ℕ
cell_text row part h = if is_in part h then 32 ∷ 32 ∷ star (is_assigned row h) ∷ byte_of row.row.settled (sign_at row h) ∷ [] else []

abbrev pub row_text : DecisionTable → Part → ClassLine → List ℕ
row_text t part row = codes "  " ++ set_left part.width (id_of t row.row.alternative)
    ++ flat_map (cell_text row part) (range_with_len 0 t.classes) ++ 10 ∷ []

abbrev pub part_text : DecisionTable → List ClassLine → Part → List ℕ
part_text t rows part = numbers_text t.classes part ++ flat_map (row_text t part) rows

-- the part at a place, where it has classes
abbrev pub part_text_at : DecisionTable → List ClassLine → ℕ → ℕ → List ℕ
part_text_at t rows width place = if nat_lt (part_of width place).first t.classes then part_text t rows (part_of width place) else []

abbrev pub matrix_text : DecisionTable → List ClassLine → ℕ → List ℕ
matrix_text t rows width = flat_map (part_text_at t rows width) (range_with_len 0 t.classes)

-- ---- how many are settled, and which ones are open

abbrev pub settled_among : List ClassLine → ℕ
settled_among rows = count_by (λ row. row.row.settled) rows

abbrev pub settled_text : ℕ → ℕ → List ℕ
settled_text settled asked = counted (codes "\n  settled: ") settled ++ counted (codes " of ") asked ++ codes "\n"

-- the classes from one to another
abbrev pub interval : ℕ → ℕ → List ℕ
interval lowest highest = if lowest == highest then decimal lowest else decimal lowest ++ 45 ∷ decimal highest

-- an id and the classes of an interval
abbrev pub class_word : List ℕ → ℕ → ℕ → List ℕ
class_word id lowest highest = 32 ∷ id ++ 32 ∷ interval lowest highest

-- it isn't settled, and some class isn't excluded
abbrev pub is_open : ClassRow → Bool
is_open row = not row.settled && not (row.highest == 0)

-- an alternative that is open, with the classes between which it is
abbrev pub open_word : DecisionTable → ClassLine → List (List ℕ)
open_word t row = if is_open row.row then class_word (id_of t row.row.alternative) row.row.lowest row.row.highest ∷ [] else []

abbrev pub or_none : List ℕ → List ℕ
or_none [] = codes " none"
or_none words = words

-- a line with the words of a list behind its name, or that there are none
abbrev pub list_text : List ℕ → List ℕ → List ℕ
list_text name words = name ++ or_none words ++ codes "\n"

abbrev pub open_text : DecisionTable → List ClassLine → List ℕ
open_text t rows = list_text (codes "  open:") (wrapped 7 (room_behind 7) (flat_map (open_word t) rows))

abbrev pub some_foot : DecisionTable → List ClassLine → List ℕ
some_foot t rows = settled_text (settled_among rows) (length rows) ++ open_text t rows

-- what stands at a time contradicts itself, so no answer there says anything of classes
abbrev pub is_contradictory : List ClassLine → Bool
is_contradictory rows = list_any (λ row. row.row.contradictory) rows

abbrev pub nothing_said : List ℕ
nothing_said = codes "\n  no function agrees with the statements: nothing is said of classes\n"

abbrev pub foot_text : DecisionTable → List ClassLine → List ℕ
foot_text t rows = if is_contradictory rows then nothing_said else some_foot t rows

-- ---- assigned

-- the alternative that a statement assigns to classes, with these
abbrev pub assigned_by : DecisionTable → Statement → List (List ℕ)
assigned_by t (Class a lowest highest) = class_word (id_of t a) lowest highest ∷ []
assigned_by t _ = []

unfoldable pub assigned_of : DecisionTable → Numbered → List (List ℕ)
assigned_of t x = assigned_by t x.statement

abbrev pub assigned_list : DecisionTable → List Numbered → List ℕ
assigned_list t list = list_text (codes "  assigned:") (wrapped 11 (room_behind 11) (flat_map (assigned_of t) list))

-- what stood assigns these, where that was kept
abbrev pub assigned_text : DecisionTable → Option (List Numbered) → List ℕ
assigned_text t (Some list) = assigned_list t list
assigned_text t None = []

-- ---- one time

-- its rows, and which of them are settled and open
abbrev pub table_text : DecisionTable → List ClassLine → List ℕ
table_text t rows = matrix_text t rows (widest t (length t.alternatives)) ++ foot_text t rows

-- by its first line
abbrev pub time_over : Ground → TimeFound → KeptLine → List ℕ
time_over g f x = head_text g.session x f.last ++ legend g.table.classes ++ table_text g.table f.rows ++ assigned_text g.table x.standing

abbrev pub time_text : Ground → TimeFound → List ℕ
time_text g f = option_map_or (time_over g f) (slice_get g.kept f.place) []
