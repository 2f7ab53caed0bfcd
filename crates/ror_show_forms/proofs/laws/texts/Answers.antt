use Rattle.ror_show_forms.proofs.CertificateLemmas.{certificate_begins}
use Rattle.ror_show_forms.proofs.Utf8Lemmas.{certificate_is_utf8, header_is_utf8, text_is_utf8}
use Rattle.ror_show_forms.proofs.laws.texts.Goals as goal

pub returns-clause-begin : goal.returns-clause-begin
returns-clause-begin c = certificate_begins

pub returns-clause-utf8 : goal.returns-clause-utf8
returns-clause-utf8 c = certificate_is_utf8

pub returns-clause-header : goal.returns-clause-header
returns-clause-header c = header_is_utf8

pub returns-clause-list : goal.returns-clause-list
returns-clause-list c = text_is_utf8
