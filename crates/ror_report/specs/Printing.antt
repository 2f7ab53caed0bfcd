-- The answers and repairs that a printer takes.
use Rattle.std.specs.Prelude.{◌<◌, ◌^◌, length}
use Rattle.ror_statement.specs.Names.{IsValidQuestion}
use Rattle.ror_table.specs.Table.{DecisionTable}
use Rattle.ror_proof.specs.declared.answer.Answer.{Answer}
use Rattle.ror_proof.specs.Text.{IsNarrowKept, IsNarrowVerdict}
use Rattle.ror_report.specs.declared.block.Body.{Body}
use Rattle.ror_report.specs.declared.block.Body.TheVariants.{Repaired}

-- an answer to a valid question of the table
abbrev pub HasValidQuestion : DecisionTable → Answer → Type 0
HasValidQuestion t x =
    IsValidQuestion (length t.alternatives) (length t.criteria) t.classes x.question

-- no number of its certificates is of absolute value above 2^127 - 1
abbrev pub HasNarrowVerdict : Answer → Type 0
HasNarrowVerdict x = IsNarrowVerdict x.verdict

-- the repair of a body, where it is one, drops fewer than 2^32 statements, and no number of its
-- certificates is of absolute value above 2^127 - 1
abbrev pub HasNarrowRepair : Body → Type 0
HasNarrowRepair (Repaired kept) = (length kept.dropped < 2 ^ 32) × IsNarrowKept kept
HasNarrowRepair _ = Unit {0}
