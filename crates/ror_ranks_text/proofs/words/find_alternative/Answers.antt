use Rattle.std.proofs.Common.{sym, ap, ◌∙◌}
use Rattle.ror_table.specs.Table.{alternative_named}
use Rattle.ror_table.proofs.NameLemmas.{no_id_not_named}
use Rattle.ror_ranks_text.proofs.words.find_alternative.Goals as goal

pub returns-in_err-id : goal.returns-in_err-id
returns-in_err-id c = rw c.from_residual.ensures (sym (no_id_not_named c.args.table.now c.args.id.now c.alternatives.ensures.table c.in_err-id.ensures))

pub returns : goal.returns
returns c = c.find_alternative.ensures.named ∙ ap (alternative_named c.args.table.now) c.in_ok-id.ensures.1
