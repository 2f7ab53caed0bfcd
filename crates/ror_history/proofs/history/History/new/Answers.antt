use Rattle.std.proofs.Common.{arith}
use Rattle.ror_history.proofs.RevisionLemmas.{opened_holds}
use Rattle.ror_history.proofs.history.History.new.Goals as goal

pub invariant_of-result : goal.invariant_of-result
invariant_of-result c = record {
  held = (opened_holds c.in_ok-opened.field-0.state c.new.result.items c.args.opening.now c.in_ok-opened.ensures c.requires.few c.requires.rows c.new.ensures.items).held;
  scratch = omega (arith, c.in_ok-with_capacity.ensures.capacity);
}

pub returns : goal.returns
returns c = (opened_holds c.in_ok-opened.field-0.state c.new.result.items c.args.opening.now c.in_ok-opened.ensures c.requires.few c.requires.rows c.new.ensures.items).is
