use Rattle.ror_show_forms.proofs.CertificateLemmas.{certificate_is_read_iff_text}
use Rattle.ror_show_forms.proofs.laws.certificates_read_back.Goals as goal

pub returns : goal.returns
returns c = certificate_is_read_iff_text
