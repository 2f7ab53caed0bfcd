-- One element more.
use Rattle.ror_statement.specs.declared.statement.Numbered.{Numbered}
use Rattle.ror_statement.specs.declared.statement.Statement.TheVariants.{Prefer}
use Rattle.ror_value.specs.Over.{IsValidIn}
use Rattle.ror_show_text_reasons.specs.Met.{met_row}
use Rattle.ror_show_kit.proofs.ElementLemmas.{one_more, one_here}
use Rattle.ror_show_text_reasons.proofs.met.write_each.Goals as goal

abbrev none : Numbered
none = record { number = 0; statement = Prefer 0 0 }

pub write_met_row-requires-clause-valid : goal.write_met_row-requires-clause-valid
write_met_row-requires-clause-valid c = one_here (λ (x : Numbered). IsValidIn c.args.table.now x.statement) c.args.list.now c.list.k none c.list-test.true c.requires.valid

pub list-preserved : goal.list-preserved
list-preserved c = one_more (met_row c.args.table.now c.args.function.now) c.args.list.now c.list.k none c.args.text.now.items c.list.text.items c.write_met_row.new.text.items c.list-test.true c.list.invariant c.in_ok-write_met_row.ensures
