use Rattle.std.proofs.Common.{◌≤◌, map}
use Rattle.ror_pivot.specs.Answers.{most_of}
use Rattle.ror_rows.specs.Rows.{extended_by, extras_of}
use Rattle.ror_relation.specs.Decisions.{AreRefuted}
use Rattle.ror_relation.proofs.search.first_solvable.Given as goal

abbrev pub invariant-loop-place : goal.invariant-loop-place
invariant-loop-place l =
    AreRefuted (most_of l.bits) (map (extended_by l.table l.base) (map extras_of l.systems)) l.place l.parts.items
    × (l.fn.engine.pivots ≤ l.engine.pivots)
