use Rattle.std.proofs.Common.{refl}
use Rattle.ror_proof.proofs.AnswerLemmas.{one_spelling, is_read_iff_text}
use Rattle.ror_proof.proofs.RepairLemmas.{one_spelling_of_kept, kept_reads_back, no_answer_is_kept}
use Rattle.ror_proof.proofs.laws.one_spelling.Goals as goal

pub returns-clause-one_text : goal.returns-clause-one_text
returns-clause-one_text c = one_spelling

pub returns-clause-read_alone : goal.returns-clause-read_alone
returns-clause-read_alone c t x place more table printable none =
    (is_read_iff_text t _ x _ table).1 (record { text = refl; place = refl; printable = printable; no_further_part = none })

pub returns-clause-one_text_of_a_repair : goal.returns-clause-one_text_of_a_repair
returns-clause-one_text_of_a_repair c = one_spelling_of_kept

pub returns-clause-repair_read_alone : goal.returns-clause-repair_read_alone
returns-clause-repair_read_alone c = kept_reads_back

pub returns-clause-apart : goal.returns-clause-apart
returns-clause-apart c = no_answer_is_kept
