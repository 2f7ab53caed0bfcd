use Rattle.ror_group.proofs.HeadLemmas.{whole_is_text, whole_again}
use Rattle.ror_group.proofs.text_laws.whole_heads_read_back.Goals as goal

pub returns : goal.returns
returns c = λ names bytes after. (λ e. whole_is_text names bytes after e, λ is. whole_again names bytes after is.0 is.1)
