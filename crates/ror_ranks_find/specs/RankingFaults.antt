-- Why no extreme ranks are found of a list at a width.
use Rattle.std.specs.Prelude.{ℕ, List}
use Rattle.ror_statement.specs.declared.statement.Statement.{Statement}
use Rattle.ror_table.specs.Table.{DecisionTable}
use Rattle.ror_check.specs.Proof.{base_system}
use Rattle.ror_pivot.specs.declared.note.SolveFault.TheVariants.{Wide}
use Rattle.ror_warm.specs.Engine.{IsFaultOf}
use Rattle.ror_ranks.specs.Finding.{IsRefuted}
use Rattle.ror_ranks_find.specs.declared.fault.RankingFault.{RankingFault}
use Rattle.ror_ranks_find.specs.declared.fault.RankingFault.TheVariants as faults

-- the fault may come: only for what it says; want of memory says nothing
abbrev pub IsDueFault : ℕ → DecisionTable → List Statement → RankingFault → Type 0
IsDueFault most t list (faults.Contradictory m) = IsRefuted most t list m
IsDueFault most t list (faults.BaseWide note) = IsFaultOf most (base_system t list) (Wide note)
IsDueFault most t list faults.Memory = Unit {0}
