use Rattle.ror_proof.proofs.RepairLemmas.{kept_is_read_iff_text}
use Rattle.ror_proof.proofs.laws.repairs_read_back.Goals as goal

pub returns : goal.returns
returns c = kept_is_read_iff_text
