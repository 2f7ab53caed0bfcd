use Rattle.ror_xmcda.proofs.ReadableWhole.{content_read, file_read}
use Rattle.ror_xmcda.proofs.laws.files_are_read_where_they_say_an_input.Goals as goal

pub returns-clause-content : goal.returns-clause-content
returns-clause-content c = content_read

pub returns-clause-file : goal.returns-clause-file
returns-clause-file c = file_read
