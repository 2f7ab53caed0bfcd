use Rattle.ror_proof.specs.declared.answer.Verdict.{Verdict}
use Rattle.ror_proof.specs.declared.answer.Verdict.TheVariants as verdicts
use Rattle.ror_show_ground.specs.declared.said.Said.{Said}
use Rattle.ror_show_ground.specs.declared.said.Said.TheVariants as said

abbrev pub said_by : Verdict → Said
said_by (verdicts.Yes proof) = said.Yes
said_by (verdicts.No proof) = said.No
said_by (verdicts.Contradiction proof) = said.Contradiction
said_by (verdicts.Wide system note) = said.Nothing
