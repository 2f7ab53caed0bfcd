-- What was read and judged of a group's report.
use Rattle.std.specs.Prelude.{◌≡◌, ℕ, ◌<◌, ◌≤◌, List, length, map}
use Rattle.std.specs.List.{AllByRecursion}
use Rattle.ror_statement.specs.declared.statement.Statement.{Statement}
use Rattle.ror_table.specs.Table.{DecisionTable}
use Rattle.ror_value.specs.Over.{IsLawfulIn}
use Rattle.ror_relation.specs.Pairs.{ordered_pairs}
use Rattle.ror_group.specs.declared.entry.Entry.{Entry}
use Rattle.ror_group.specs.Proof.{IsProvedPair}
use Rattle.ror_show_find_group.specs.declared.ground.GroupGround as lent

-- a table, the names of the desks, what stands at each, and the entries of a report of these
pub record GroupGround : Type 0 where
  pub table : DecisionTable
  pub desks : List (List ℕ)
  pub lists : List (List Statement)
  pub entries : List Entry

abbrev pub group_ground_of : lent.GroupGround → GroupGround
group_ground_of g = record { table = g.table.now; desks = g.desks.now; lists = g.lists.now; entries = g.entries.now }

-- the entry is on two alternatives of the table, and its answers are those of the desks, each with its proof where it concludes something
pub record IsProvedIn (t : DecisionTable) (lists : List (List Statement)) (x : Entry) : Type 0 where
  pub first : x.first < length t.alternatives
  pub second : x.second < length t.alternatives
  pub proved : IsProvedPair t lists x.first x.second x.answers x.quartet

-- What a check of the report leaves: what stands at each desk is lawful, and there is a proved entry for each ordered pair of alternatives,
-- in order.
pub record IsJudgedGroup (g : GroupGround) : Type 0 where
  pub few : length g.lists ≤ 64
  pub lawful : AllByRecursion (IsLawfulIn g.table) g.lists
  pub pairs : map (λ x. (x.first, x.second)) g.entries ≡ ordered_pairs (length g.table.alternatives)
  pub proved : AllByRecursion (IsProvedIn g.table g.lists) g.entries
