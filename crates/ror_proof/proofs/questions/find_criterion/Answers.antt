use Rattle.std.proofs.Common.{sym, ap, ◌∙◌}
use Rattle.ror_table.specs.Table.{criterion_ids, criterion_named}
use Rattle.ror_table.proofs.NameLemmas.{no_id_no_place}
use Rattle.ror_proof.proofs.questions.find_criterion.Goals as goal

pub returns-in_err-id : goal.returns-in_err-id
returns-in_err-id c = rw c.from_residual.ensures (sym (no_id_no_place (criterion_ids c.args.table.now) c.args.id.now c.criteria.ensures.table.criterion_ids_valid c.in_err-id.ensures))

pub returns : goal.returns
returns c = c.find_criterion.ensures.named ∙ ap (criterion_named c.args.table.now) c.in_ok-id.ensures.1
