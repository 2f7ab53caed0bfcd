use Rattle.std.proofs.Common.{sym}
use Rattle.ror_text.proofs.IdLemmas.{IsId-form}
use Rattle.ror_text.proofs.ids.id_text.Goals as goal

pub returns-in-Err : goal.returns-in-Err
returns-in-Err c = absurd (c.in-Err.ensures.cases.0 (IsId-form c.args.word.now (sym c.if-not-is_id.ensures)).utf8)
