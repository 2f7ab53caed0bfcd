use Rattle.std.proofs.Common.{◌≡◌, drop}
use Rattle.ror_show_text_roll.specs.Refusals.{first_no_class}
use Rattle.ror_show_text_roll.proofs.refusals.write_no_class.Given as goal

abbrev pub invariant-classes : goal.invariant-classes
invariant-classes l = record {
  same : l.text.items ≡ l.initial.text.items;
  unknown : first_no_class l.table (drop l.class-index l.classes) ≡ first_no_class l.table l.classes;
}
