use Rattle.ror_show_check.proofs.Checking.{one_accepted, one_refused, not_refused}
use Rattle.ror_show_check.proofs.laws.one_ending.Goals as goal

pub returns-clause-count : goal.returns-clause-count
returns-clause-count c = record {
  count = λ i s text report m n table short p q. one_accepted i s text report table short m n p q;
  refusal = λ i s text report q r table short a b. one_refused i s text report table short q r a b;
}

pub returns-clause-not_refused : goal.returns-clause-not_refused
returns-clause-not_refused c = λ i s text report count r table short p a. not_refused i s text report table short count r p a
