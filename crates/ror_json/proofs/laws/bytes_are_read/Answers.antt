use Rattle.ror_json.proofs.JsonTexts.{text_is_report, text_is_no_json, text_has_bad_shape, one_report_of_text}
use Rattle.ror_json.proofs.laws.bytes_are_read.Goals as goal

pub returns-clause-read : goal.returns-clause-read
returns-clause-read c = text_is_report

pub returns-clause-no_json : goal.returns-clause-no_json
returns-clause-no_json c = text_is_no_json

pub returns-clause-bad_shape : goal.returns-clause-bad_shape
returns-clause-bad_shape c = text_has_bad_shape

pub returns-clause-one : goal.returns-clause-one
returns-clause-one c = one_report_of_text
