use Rattle.ror_table.specs.Blocks.{tops}
use Rattle.ror_check.specs.Proof.{base_system}
use Rattle.ror_discriminate.proofs.OptimalTests.{passes}
use Rattle.ror_discriminate.proofs.laws.accepted_passes_each_test.Goals as goal

pub returns : goal.returns
returns c = λ t list x fault best. passes (base_system t list) (tops t) x best fault
