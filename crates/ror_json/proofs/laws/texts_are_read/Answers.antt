use Rattle.ror_json.proofs.FormTexts.{no_float, nine_deep, text_is_read}
use Rattle.ror_json.proofs.TextSizes.{few_blocks, bad_block_within}
use Rattle.ror_json.proofs.laws.texts_are_read.Goals as goal

pub returns-clause-no_float : goal.returns-clause-no_float
returns-clause-no_float c = no_float

pub returns-clause-nine_deep : goal.returns-clause-nine_deep
returns-clause-nine_deep c = nine_deep

pub returns-clause-read : goal.returns-clause-read
returns-clause-read c = text_is_read

pub returns-clause-few : goal.returns-clause-few
returns-clause-few c = few_blocks

pub returns-clause-near : goal.returns-clause-near
returns-clause-near c = bad_block_within
