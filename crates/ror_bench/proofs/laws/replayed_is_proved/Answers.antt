use Rattle.ror_bench.proofs.GivenLemmas.{given_proved}
use Rattle.ror_bench.proofs.ReplayLemmas.{replayed_proved}
use Rattle.ror_bench.proofs.laws.replayed_is_proved.Goals as goal

pub returns-clause-report : goal.returns-clause-report
returns-clause-report c = replayed_proved

pub returns-clause-blocks : goal.returns-clause-blocks
returns-clause-blocks c = given_proved
