-- What may be said of a desk, at a width.
use Rattle.std.specs.Prelude.{ℕ, List}
use Rattle.ror_statement.specs.declared.statement.Statement.{Statement}
use Rattle.ror_table.specs.Table.{DecisionTable}
use Rattle.ror_check.specs.Proof.{base_system}
use Rattle.ror_pivot.specs.declared.note.SolveFault.TheVariants.{Wide}
use Rattle.ror_warm.specs.Engine.{IsFaultOf}
use Rattle.ror_ranks.specs.Finding.{AreGivenRanks, IsRefuted}
use Rattle.ror_ranks_text.specs.declared.entry.EntryBody.{EntryBody}
use Rattle.ror_ranks_text.specs.declared.entry.EntryBody.TheVariants as bodies

-- what may be given of a list at a width: its extreme ranks, that it is contradictory, or the first number on its path that is too wide
abbrev pub IsGivenBody : ℕ → DecisionTable → List Statement → EntryBody → Type 0
IsGivenBody most t list (bodies.Ranks xs) = AreGivenRanks most t list xs
IsGivenBody most t list (bodies.Contradiction m) = IsRefuted most t list m
IsGivenBody most t list (bodies.BaseWide note) = IsFaultOf most (base_system t list) (Wide note)
