-- The page of a relation as plain text.
use Rattle.std.specs.Prelude.{ℕ, ◌+◌, ◌-◌, Bool, true, false, not, ◌&&◌, ◌==◌, List, [], ◌∷◌, ◌++◌, length, codes, decimal, Option, Some, None, if◌then◌else◌}
use Rattle.std.specs.List.{flat_map, list_any, range_with_len}
use Rattle.ror_show_find_relation.specs.Levels.{level_at}
use Rattle.ror_show_find_relation.specs.Relations.{some_below}
use Rattle.ror_show_find_relation.specs.declared.cell.Cell.{Cell}
use Rattle.ror_table.specs.Table.{DecisionTable, id_of}
use Rattle.ror_show_ground.specs.Heads.{Head}
use Rattle.ror_show_find_relation.specs.declared.page.Counts.{Counts}
use Rattle.ror_show_find_relation.specs.declared.page.RelationPage.{RelationPage}
use Rattle.ror_show_kit.specs.Layout.{columns, set_right, room_behind, wrapped}
use Rattle.ror_show_find_relation.specs.Rows.{unknown_pairs, contradictory_pairs, pairs_among}
use Rattle.ror_show_text_relation.specs.Apart.{is_apart}
use Rattle.ror_show_text_relation.specs.Matrix.{matrix_text}
use Rattle.ror_show_kit.specs.Heads.{counted, line_text, statements_text}

abbrev pub proved_text : Head → List ℕ
proved_text h = counted (codes "  ask relation    proved: ") h.proved ++ counted (codes " of ") h.answers ++ 10 ∷ []

abbrev pub head_text : Head → List ℕ
head_text h = line_text h.line h.desk ++ proved_text h

abbrev pub legend : List ℕ
legend = codes "\n  the row's alternative against the column's, over all value functions that agree with the statements:\n     N  always better                         n  at least as good, and some function makes them equal\n     -  always worse                          m  at most as good, and some function makes them equal\n     =  always equally good                   .  open: some functions say the one, some the other\n     !  no function agrees                    ?  not concluded\n"

abbrev pub contradiction_text : ℕ → List ℕ
contradiction_text n = if n == 0 then [] else counted (codes ", ") n ++ codes " without a function that agrees"

-- of so many pairs so many are decided, open, and not concluded
abbrev pub pairs_text : ℕ → Counts → ℕ → List ℕ
pairs_text pairs counts unknown = counted (codes "\n  of ") pairs ++ counted (codes " pairs ") counts.decided
    ++ counted (codes " are decided, ") counts.open ++ counted (codes " open, ") unknown

abbrev pub rest_text : ℕ → ℕ → List ℕ
rest_text contradictory by_dominance = codes " not concluded" ++ contradiction_text contradictory
    ++ counted (codes "; by dominance alone ") by_dominance ++ 10 ∷ []

abbrev pub counts_text : DecisionTable → RelationPage → List ℕ
counts_text t page =
    pairs_text (pairs_among (length t.alternatives)) page.counts (unknown_pairs page.rows (length t.alternatives))
    ++ rest_text (contradictory_pairs page.rows (length t.alternatives)) page.counts.by_dominance

-- ---- levels

abbrev pub is_same : Option ℕ → Option ℕ → Bool
is_same (Some k) (Some n) = k == n
is_same None None = true
is_same _ _ = false

-- it has this level, and something is known of it
abbrev pub is_member : RelationPage → Option ℕ → ℕ → Bool
is_member page level a = is_same level (level_at page.levels a) && not (is_apart page.rows a)

abbrev pub member : DecisionTable → RelationPage → Option ℕ → ℕ → List (List ℕ)
member t page level a = if is_member page level a then id_of t a ∷ [] else []

abbrev pub members : DecisionTable → RelationPage → Option ℕ → List (List ℕ)
members t page level = flat_map (member t page level) (range_with_len 0 (length t.alternatives))

-- a level's number, and a dash for those that have none
abbrev pub level_mark : Option ℕ → List ℕ
level_mark (Some k) = set_right 6 (decimal k)
level_mark None = codes "     -"

-- the line of a level that some have
abbrev pub level_text : DecisionTable → RelationPage → Option ℕ → List ℕ
level_text t page level = if some_below (is_member page level) (length t.alternatives)
    then level_mark level ++ codes "  " ++ wrapped 8 (room_behind 8) (members t page level) ++ 10 ∷ [] else []

abbrev pub some_level_text : DecisionTable → RelationPage → ℕ → List ℕ
some_level_text t page k = level_text t page (Some (k + 1))

-- behind them those of which nothing is known, which have no place among the levels
abbrev pub apart : DecisionTable → List (List Cell) → ℕ → List (List ℕ)
apart t rows a = if is_apart rows a then id_of t a ∷ [] else []

abbrev pub all_apart : DecisionTable → List (List Cell) → List (List ℕ)
all_apart t rows = flat_map (apart t rows) (range_with_len 0 (length t.alternatives))

abbrev pub some_apart : DecisionTable → List (List Cell) → List ℕ
some_apart t rows = codes "     nothing known:" ++ wrapped 8 (room_behind 19) (all_apart t rows) ++ 10 ∷ []

abbrev pub apart_text : DecisionTable → List (List Cell) → List ℕ
apart_text t rows = if some_below (is_apart rows) (length t.alternatives) then some_apart t rows else []

abbrev pub levels_head : List ℕ
levels_head = codes "\n  levels (all that is above an alternative is in levels before its own)\n"

abbrev pub levels_text : DecisionTable → RelationPage → List ℕ
levels_text t page = levels_head ++ flat_map (some_level_text t page) (range_with_len 0 (length t.alternatives))
    ++ level_text t page None ++ apart_text t page.rows

-- ---- arrows

abbrev pub begins_at : ℕ → ℕ × ℕ → Bool
begins_at a arrow = arrow.0 == a

-- where an arrow leads, if it begins here
abbrev pub target : DecisionTable → ℕ → ℕ × ℕ → List (List ℕ)
target t a arrow = if begins_at a arrow then id_of t arrow.1 ∷ [] else []

abbrev pub targets : DecisionTable → List (ℕ × ℕ) → ℕ → List (List ℕ)
targets t arrows a = flat_map (target t a) arrows

abbrev pub from_head : DecisionTable → ℕ → List ℕ
from_head t a = codes "     " ++ id_of t a ++ codes " ->"

-- the line of the arrows that begin at an alternative, where some do
abbrev pub from_text : DecisionTable → List (ℕ × ℕ) → ℕ → List ℕ
from_text t arrows a = if list_any (begins_at a) arrows
    then from_head t a ++ wrapped 8 (room_behind 8 - columns (id_of t a)) (targets t arrows a) ++ 10 ∷ [] else []

-- pairs, by where they begin
abbrev pub pairs_listed : DecisionTable → List (ℕ × ℕ) → List ℕ
pairs_listed t pairs = flat_map (from_text t pairs) (range_with_len 0 (length t.alternatives))

abbrev pub none_text : List (ℕ × ℕ) → List ℕ
none_text arrows = if length arrows == 0 then codes "     none\n" else []

-- below a head, or that there are none
abbrev pub pairs_below : DecisionTable → List ℕ → List (ℕ × ℕ) → List ℕ
pairs_below t head pairs = head ++ none_text pairs ++ pairs_listed t pairs

abbrev pub arrows_head : List ℕ
arrows_head = codes "\n  arrows (those that follow from others are left out)\n"

abbrev pub arrows_text : DecisionTable → List (ℕ × ℕ) → List ℕ
arrows_text t arrows = pairs_below t arrows_head arrows

-- ---- the page

-- what stands above the matrix
abbrev pub above_text : Head → List ℕ
above_text h = head_text h ++ statements_text h.numbers ++ legend

-- the lists of ids below it
abbrev pub lists_text : DecisionTable → RelationPage → List ℕ
lists_text t page = levels_text t page ++ arrows_text t page.arrows

abbrev pub relation_text : DecisionTable → Head → RelationPage → List ℕ
relation_text t h page = above_text h ++ matrix_text t page.rows ++ counts_text t page ++ lists_text t page
