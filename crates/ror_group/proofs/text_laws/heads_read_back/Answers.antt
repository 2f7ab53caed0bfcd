use Rattle.ror_group.proofs.HeadLemmas.{head_again, head_is_text}
use Rattle.ror_group.proofs.text_laws.heads_read_back.Goals as goal

pub returns : goal.returns
returns c = λ names bytes after. (head_is_text names bytes after, head_again names bytes after)
