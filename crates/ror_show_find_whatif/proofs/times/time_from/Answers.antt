use Rattle.std.proofs.Common.{List, length, sym, subst}
use Rattle.std.specs.List.{AllByRecursion, AllZip}
use Rattle.ror_show_ground.specs.Grounds.{ground_of}
use Rattle.ror_show_find_classes.specs.declared.findings.ClassLine.{ClassLine}
use Rattle.ror_show_find_reasons.specs.Bounds.{IsRowWithin}
use Rattle.ror_show_find_reasons.proofs.RowLemmas.{rows_within}
use Rattle.ror_show_find_whatif.specs.Findings.{IsRowWhatIf}
use Rattle.ror_show_find_whatif.proofs.times.time_from.Goals as goal

pub rows_of-requires-clause-within : goal.rows_of-requires-clause-within
rows_of-requires-clause-within c =
    let g = ground_of c.args.ground.now in
    subst (AllByRecursion (IsRowWithin (length g.kept))) (sym c.as_slice.ensures) (rows_within g c.args.place c.in_ok-time.time c.in_ok-time.ensures)

pub returns : goal.returns
returns c = record {
  time = c.in_ok-time.ensures;
  rows = subst (λ (rows : List ClassLine). AllZip (IsRowWhatIf (ground_of c.args.ground.now)) rows c.in_ok-rows.rows) c.as_slice.ensures c.in_ok-rows.ensures;
}
