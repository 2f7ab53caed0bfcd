use Rattle.ror_group.proofs.HeadErrors.{head_err, head_fails, whole_head_err, whole_head_fails}
use Rattle.ror_group.proofs.text_laws.the_first_fault_of_a_head_is_given.Goals as goal

pub returns : goal.returns
returns c = record {
  head = λ t names bytes fault. (λ e. head_err t names bytes fault e, λ is. head_fails t names bytes fault is);
  whole = λ t names bytes fault. (λ e. whole_head_err t names bytes fault e, λ is. whole_head_fails t names bytes fault is);
}
