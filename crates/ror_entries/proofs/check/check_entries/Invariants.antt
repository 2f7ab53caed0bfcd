use Rattle.std.proofs.Common.{◌≡◌, ◌≤◌, ◌*◌, length}
use Rattle.ror_entries.specs.Kind.{IsSameKind}
use Rattle.ror_entries.proofs.CheckLemmas.{IsWay}
use Rattle.ror_entries.proofs.check.check_entries.Given as goal

abbrev pub invariant-loop-place : goal.invariant-loop-place
invariant-loop-place g l = record {
  within : l.next ≤ length (g.J.Judge.report l.fn.judge);
  few : l.place ≤ l.next;
  due : l.place ≤ l.count;
  fits : l.accepted.answers ≤ l.place * 4294967296;
  wide_fits : l.accepted.wide ≤ l.place * 4294967296;
  same : IsSameKind (g.J.Judge.kind l.judge) (g.J.Judge.kind l.fn.judge);
  report : g.J.Judge.report l.judge ≡ g.J.Judge.report l.fn.judge;
  way : IsWay (g.J.Judge.kind l.fn.judge) (g.J.Judge.report l.fn.judge) l.start l.place l.next l.accepted;
}
