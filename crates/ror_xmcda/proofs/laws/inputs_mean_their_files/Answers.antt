use Rattle.ror_xmcda.proofs.MeaningOnce.{one_content}
use Rattle.ror_xmcda.proofs.MeaningWhole.{content_meant, input_meant}
use Rattle.ror_xmcda.proofs.laws.inputs_mean_their_files.Goals as goal

pub returns-clause-content : goal.returns-clause-content
returns-clause-content c = content_meant

pub returns-clause-file : goal.returns-clause-file
returns-clause-file c = input_meant

pub returns-clause-one : goal.returns-clause-one
returns-clause-one c = one_content
