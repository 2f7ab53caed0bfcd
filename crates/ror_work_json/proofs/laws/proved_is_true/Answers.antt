use Rattle.ror_work_json.proofs.Truth.{json_true}
use Rattle.ror_work_json.proofs.laws.proved_is_true.Goals as goal

pub returns : goal.returns
returns c = json_true
