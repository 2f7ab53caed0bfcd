-- The necessary and the possible preference relation over a list with which some function is compatible.
use Rattle.std.proofs.Common.{List, inl, inr, arith}
use Rattle.std.proofs.lemmas.Int.{ints}
use Rattle.ror_integers.proofs.Order.{le_cases, le_of_lt}
use Rattle.ror_statement.specs.declared.statement.Statement.{Statement}
use Rattle.ror_table.specs.Table.{DecisionTable}
use Rattle.ror_value.specs.Value.{value}
use Rattle.ror_value.specs.Meaning.{IsConsistent}
use Rattle.ror_value.specs.Laws.{Relations}

pub relations : (t : DecisionTable) (list : List Statement) → IsConsistent t list → Relations t list
relations t list some =
    record {
      reflexive = λ a w is. omega (arith, ints);
      transitive = λ a b c first second w is. let p = first w is in let q = second w is in omega (arith, ints, p, q);
      contained = λ a b necessary. (some.0, some.1, necessary some.0 some.1);
      strongly_complete = λ a b. le_cases (value t some.0 b) (value t some.0 a) (λ le. inl (some.0, some.1, le)) (λ lt. inr (some.0, some.1, le_of_lt _ _ lt));
      negatively_transitive = λ a b c possible. le_cases (value t possible.0 b) (value t possible.0 a) (λ le. inl (possible.0, possible.1, le)) (λ lt. inr (possible.0, possible.1, let p = possible.2 in omega (arith, ints, lt, p)));
      converse = λ a b not w is. le_cases (value t w b) (value t w a) (λ le. le) (λ lt. absurd (not (w, is, le_of_lt _ _ lt)));
    }
