-- The page of a group as plain text: a function of what is found.
use Rattle.std.specs.Prelude.{ℕ, ◌==◌, nat_lt, List, [], ◌++◌, length, codes, if◌then◌else◌}
use Rattle.ror_table.specs.Table.{DecisionTable}
use Rattle.ror_show_kit.specs.Heads.{counted}
use Rattle.ror_show_find_relation.specs.Rows.{pairs_among}
use Rattle.ror_show_find_group.specs.declared.cell.GroupCell.{GroupCell}
use Rattle.ror_show_find_group.specs.declared.counts.Stand.TheVariants.{Decided, Open, Partly, Differ, Unknown}
use Rattle.ror_show_find_group.specs.declared.page.GroupFound.{GroupFound}
use Rattle.ror_show_find_group.specs.Counts.{pairs_standing}
use Rattle.ror_show_find_group.specs.Votes.{heard_count}
use Rattle.ror_show_text_relation.specs.Text.{levels_text, pairs_below}
use Rattle.ror_show_text_group.specs.Judges.{judges_text}
use Rattle.ror_show_text_group.specs.Matrix.{matrix_text}
use Rattle.ror_show_text_group.specs.Apart.{differing_text, alone_text}

-- what the signs of the cells mean
abbrev pub legend : List ℕ
legend = codes "\n  the row's alternative against the column's, for each judge over all value functions that agree with the judge:\n     for every judge\n     N  always better                         n  at least as good, and for some judge some function makes them equal\n     -  always worse                          m  at most as good, and for some judge some function makes them equal\n     =  always equally good                   .  open: some functions say the one, some the other\n     for some judges\n     >  at least as good, for the others open            <  at most as good, for the others open\n     x  always better, and for others at most as good, or the other way round: they differ\n     ~  at least as good, for others at most as good, and for none always better or always worse\n     ?  not concluded for some judge\n"

-- of so many pairs so many are decided for every judge, and so many are open for every judge
abbrev pub agreed_text : List (List GroupCell) → ℕ → List ℕ
agreed_text rows n = counted (codes "\n  of ") (pairs_among n) ++ counted (codes " pairs ") (pairs_standing Decided rows n)
    ++ counted (codes " are decided and ") (pairs_standing Open rows n) ++ codes " open for every judge, "

abbrev pub divided_text : List (List GroupCell) → ℕ → List ℕ
divided_text rows n = counted (codes "") (pairs_standing Partly rows n)
    ++ counted (codes " decided for some, on ") (pairs_standing Differ rows n)
    ++ counted (codes " judges differ, ") (pairs_standing Unknown rows n) ++ codes " not concluded\n"

abbrev pub counts_text : List (List GroupCell) → ℕ → List ℕ
counts_text rows n = agreed_text rows n ++ divided_text rows n

abbrev pub cells_text : DecisionTable → List (List GroupCell) → List ℕ
cells_text t rows = matrix_text t rows ++ counts_text rows (length t.alternatives)

abbrev pub arrows_head : List ℕ
arrows_head = codes "\n  arrows (at least as good for every judge, and not back; those that follow from others are left out)\n"

-- levels and arrows of what holds for all
abbrev pub common_text : DecisionTable → GroupFound → List ℕ
common_text t found = codes "\n  what holds for every judge\n" ++ levels_text t found.common ++ pairs_below t arrows_head found.common.arrows

abbrev pub both_text : DecisionTable → List (List ℕ) → GroupFound → List ℕ
both_text t desks found = differing_text t found.judges found.differing ++ alone_text t desks found.alone

-- where they differ, and what one says alone, where two or more are heard
abbrev pub apart_text : DecisionTable → List (List ℕ) → GroupFound → List ℕ
apart_text t desks found = if nat_lt (heard_count found.judges) 2 then [] else both_text t desks found

abbrev pub all_text : DecisionTable → List (List ℕ) → GroupFound → List ℕ
all_text t desks found = legend ++ cells_text t found.rows ++ common_text t found ++ apart_text t desks found

abbrev pub none_left : List ℕ
none_left = codes "\n  no judge is left of whom something could be said\n"

-- what is said of the judges who are heard
abbrev pub heard_text : DecisionTable → List (List ℕ) → GroupFound → List ℕ
heard_text t desks found = if heard_count found.judges == 0 then none_left else all_text t desks found

abbrev pub group_text : DecisionTable → List (List ℕ) → GroupFound → List ℕ
group_text t desks found = judges_text desks found.judges (length t.alternatives) ++ heard_text t desks found
