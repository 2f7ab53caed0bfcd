use Rattle.std.proofs.Common.{◌≡◌, [], ◌++◌, drop, map}
use Rattle.std.specs.List.{enumerate_from}
use Rattle.std.specs.String.{string_bytes}
use Rattle.ror_table.specs.declared.limits.TheConstants.{MOST_CRITERIA}
use Rattle.ror_table.specs.Draft.{empty_table}
use Rattle.ror_table.specs.Table.{criterion_ids}
use Rattle.ror_xmcda.specs.Roster.{AreIds}
use Rattle.ror_xmcda.specs.Whole.{with_criteria}
use Rattle.ror_xmcda.proofs.whole.criteria_table.Given as goal

abbrev pub invariant-loop-k : goal.invariant-loop-k
invariant-loop-k l = record {
  same : with_criteria l.directions l.draft (enumerate_from l.k (map string_bytes (drop l.k l.ids))) ≡ with_criteria l.directions empty_table (enumerate_from 0 (map string_bytes l.ids));
  first : l.draft.alternatives ≡ [];
  ids : AreIds MOST_CRITERIA (criterion_ids l.draft ++ map string_bytes (drop l.k l.ids));
}
