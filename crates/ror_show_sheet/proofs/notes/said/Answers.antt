use Rattle.ror_show_sheet.proofs.NoteLemmas.{if_said}
use Rattle.ror_show_sheet.proofs.notes.said.Goals as goal

pub returns : goal.returns
returns c = if_said c.args.label c.word.result.now c.labelled.result c.word.ensures c.labelled.ensures
