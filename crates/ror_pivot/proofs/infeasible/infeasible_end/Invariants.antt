use Rattle.std.proofs.Common.{map, ◌++◌}
use Rattle.ror_system.specs.Acceptance.{rows_of}
use Rattle.ror_pivot.proofs.MultiplierLemmas.{AreNarrowTo}
use Rattle.ror_pivot.proofs.infeasible.infeasible_end.Given as goal

abbrev pub invariant-loop-j : goal.invariant-loop-j
invariant-loop-j g l =
    let value = g.W.Word.value in
    AreNarrowTo g.W.Word.most (map value l.weak.items ++ map value l.strict.items) (rows_of l.s) l.j
