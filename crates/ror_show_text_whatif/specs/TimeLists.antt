-- Which classes hang on a statement.
use Rattle.std.specs.Prelude.{ℕ, ◌-◌, ◌==◌, List, [], ◌∷◌, ◌++◌, codes, length, Some, if◌then◌else◌}
use Rattle.std.specs.List.{flat_map, range_with_len}
use Rattle.std.specs.Option.{option_map_or}
use Rattle.ror_table.specs.Table.{DecisionTable, id_of}
use Rattle.ror_show_kit.specs.Layout.{columns, room_behind, wrapped}
use Rattle.ror_show_text_relation.specs.ArrowText.{carrying_words}
use Rattle.ror_show_find_whatif.specs.declared.cases.Case.{Case}
use Rattle.ror_show_find_whatif.specs.declared.classes.ClassShift.{ClassShift}
use Rattle.ror_show_find_whatif.specs.declared.classes.ClassShift.TheVariants.{Opened, Closed, Loosened, Bound, Unknown}
use Rattle.ror_show_find_whatif.specs.declared.whatif.WhatIf.{WhatIf}
use Rattle.ror_show_text_whatif.specs.declared.ways.Way.{Way}
use Rattle.ror_show_text_whatif.specs.declared.ways.Way.TheVariants.{Withdrawn, Contrary}
use Rattle.ror_show_text_whatif.specs.Lists.{below, heading}
use Rattle.ror_show_text_whatif.specs.Times.{case_at, cases_in, listed_at}

abbrev pub name_text : DecisionTable → ℕ → List ℕ
name_text t a = codes "     " ++ id_of t a ++ 32 ∷ []

-- an alternative and classes, where there are some
abbrev pub row_text : DecisionTable → ℕ → List ℕ → List ℕ
row_text t a classes = if length classes == 0 then []
    else (name_text t a ++ wrapped 8 (room_behind 6 - columns (id_of t a)) (carrying_words (Some classes)) ++ 10 ∷ [])

-- those that a line has in a list
abbrev pub row_of : DecisionTable → ClassShift → Way → ℕ → WhatIf → List ℕ
row_of t shift way k f = row_text t f.alternative (listed_at shift way k f)

abbrev pub head_of : ClassShift → List ℕ
head_of Opened = codes "    opened: by some function then, and now by none\n"
head_of Closed = codes "    closed: by no function then, and now by some\n"
head_of Loosened = codes "    loosened: by some function then, and now by every one\n"
head_of Bound = codes "    bound: by every function then, and now by some\n"
head_of Unknown = codes "    unknown: a number is too wide to say, now or then\n"

-- rows below what they have in common, where there are some
abbrev pub headed : ClassShift → List ℕ → List ℕ
headed shift rows = if length rows == 0 then [] else head_of shift ++ rows

abbrev pub shift_text : DecisionTable → List WhatIf → ℕ → Way → ClassShift → List ℕ
shift_text t fs k way shift = headed shift (flat_map (row_of t shift way k) fs)

abbrev pub bounds_text : DecisionTable → List WhatIf → ℕ → Way → List ℕ
bounds_text t fs k way = shift_text t fs k way Opened ++ shift_text t fs k way Closed

abbrev pub rest_text : DecisionTable → List WhatIf → ℕ → Way → List ℕ
rest_text t fs k way = shift_text t fs k way Loosened ++ shift_text t fs k way Bound ++ shift_text t fs k way Unknown

abbrev pub case_text : DecisionTable → List WhatIf → ℕ → Way → Case → List ℕ
case_text t fs k way c = below (heading t way c) (bounds_text t fs k way ++ rest_text t fs k way)

abbrev pub way_at : DecisionTable → List WhatIf → ℕ → Way → List ℕ
way_at t fs k way = option_map_or (case_text t fs k way) (case_at fs k) []

-- where the statement at a place is changed, both ways
abbrev pub lists_at : DecisionTable → List WhatIf → ℕ → List ℕ
lists_at t fs k = way_at t fs k Withdrawn ++ way_at t fs k Contrary

-- statement by statement
abbrev pub time_lists : DecisionTable → List WhatIf → List ℕ
time_lists t fs = flat_map (lists_at t fs) (range_with_len 0 (cases_in fs))
