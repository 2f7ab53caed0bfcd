-- What holds for all judges as a graph that `dot` draws.
use Rattle.std.specs.Prelude.{ℕ, List, ◌++◌, codes}
use Rattle.ror_table.specs.Table.{DecisionTable}
use Rattle.ror_show_find_group.specs.declared.page.GroupFound.{GroupFound}
use Rattle.ror_show_forms.specs.Dot.{graph_body}

abbrev pub dot_text : DecisionTable → GroupFound → List ℕ
dot_text t found = codes "digraph \"group\" {\n" ++ graph_body t found.common.arrows
