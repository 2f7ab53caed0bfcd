use Rattle.ror_rows.proofs.Deciding.{base_solvable_is_consistent, systems_decide_every, systems_decide_any, systems_decide_plain}
use Rattle.ror_rows.proofs.laws.systems_decide.Goals as goal

pub returns : goal.returns
returns c = record {
  consistency = base_solvable_is_consistent;
  every = systems_decide_every;
  any = systems_decide_any;
  plain = systems_decide_plain;
}
