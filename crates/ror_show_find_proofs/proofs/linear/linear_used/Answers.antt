use Rattle.std.proofs.Common.{sym, subst}
use Rattle.ror_show_find_proofs.specs.Linear.{AreNamedForms}
use Rattle.ror_show_find_proofs.proofs.LinearLemmas.{forms_named}
use Rattle.ror_show_find_proofs.proofs.linear.linear_used.Goals as goal

pub linear_by-requires : goal.linear_by-requires
linear_by-requires c = subst (AreNamedForms c.args.table.now) (sym c.in_ok-forms.ensures) (forms_named c.args.table.now c.args.comparisons.now c.requires)
