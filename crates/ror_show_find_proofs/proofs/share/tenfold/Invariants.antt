use Rattle.std.proofs.Common.{◌≡◌, ◌+◌, ◌*◌, ◌<◌, ◌≤◌}
use Rattle.ror_show_find_proofs.proofs.share.tenfold.Given as goal

abbrev pub invariant-loop : goal.invariant-loop
invariant-loop l = record {
  exact : l.counter * l.number ≡ l.count * l.whole + l.rest;
  below : l.rest < l.whole;
  few : l.count ≤ l.counter;
}
