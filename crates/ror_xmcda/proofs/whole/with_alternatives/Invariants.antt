use Rattle.std.proofs.Common.{◌≡◌, ◌++◌, drop, map, length}
use Rattle.std.specs.List.{enumerate_from}
use Rattle.std.specs.String.{string_bytes}
use Rattle.ror_text.specs.Reading.{read_all}
use Rattle.ror_table.specs.declared.limits.TheConstants.{MOST_ALTERNATIVES}
use Rattle.ror_table.specs.Table.{alternative_ids}
use Rattle.ror_xmcda.specs.Roster.{AreIds}
use Rattle.ror_xmcda.specs.Whole.{with_alternative}
use Rattle.ror_xmcda.proofs.whole.with_alternatives.Given as goal

abbrev pub invariant-loop-a : goal.invariant-loop-a
invariant-loop-a l = record {
  same : read_all (with_alternative l.given) l.draft (enumerate_from l.a (map string_bytes (drop l.a l.ids))) ≡ read_all (with_alternative l.given) l.initial.draft (enumerate_from 0 (map string_bytes l.ids));
  width : l.criteria ≡ length l.draft.criteria;
  ids : AreIds MOST_ALTERNATIVES (alternative_ids l.draft ++ map string_bytes (drop l.a l.ids));
}
