use Rattle.ror_proof.proofs.AnswerLemmas.{answer_begins}
use Rattle.ror_proof.proofs.RepairLemmas.{kept_begins}
use Rattle.ror_proof.proofs.Utf8Lemmas.{answer_text_is_utf8, kept_text_is_utf8}
use Rattle.ror_proof.proofs.laws.texts.Goals as goal

pub returns-clause-begin : goal.returns-clause-begin
returns-clause-begin c = answer_begins

pub returns-clause-utf8 : goal.returns-clause-utf8
returns-clause-utf8 c = answer_text_is_utf8

pub returns-clause-repairs_begin : goal.returns-clause-repairs_begin
returns-clause-repairs_begin c = kept_begins

pub returns-clause-repairs_utf8 : goal.returns-clause-repairs_utf8
returns-clause-repairs_utf8 c = kept_text_is_utf8
