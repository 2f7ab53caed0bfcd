use Rattle.std.proofs.Common.{◌≡◌, drop, map}
use Rattle.ror_table.specs.Table.{alternative_named}
use Rattle.ror_show_text_roll.specs.Refusals.{first_unknown}
use Rattle.ror_show_text_roll.proofs.refusals.write_unknown.Given as goal

abbrev pub invariant-names : goal.invariant-names
invariant-names l = record {
  same : l.text.items ≡ l.initial.text.items;
  unknown : first_unknown (alternative_named l.table) (map (λ name. name.now) (drop l.name-index l.names)) ≡ first_unknown (alternative_named l.table) (map (λ name. name.now) l.names);
}
