use Rattle.std.proofs.Common.{◌≡◌, ◌≤◌, length}
use Rattle.ror_entries.specs.Kind.{IsSameKind}
use Rattle.ror_entries.proofs.KeepLemmas.{IsKeptWay}
use Rattle.ror_entries.proofs.keep.keep_entries.Given as goal

abbrev pub invariant-loop-place : goal.invariant-loop-place
invariant-loop-place g l = record {
  within : l.next ≤ length (g.J.Judge.report l.fn.judge);
  few : l.place ≤ l.next;
  due : l.place ≤ l.count;
  same : IsSameKind (g.J.Judge.kind l.judge) (g.J.Judge.kind l.fn.judge);
  report : g.J.Judge.report l.judge ≡ g.J.Judge.report l.fn.judge;
  way : IsKeptWay (g.J.Judge.kind l.fn.judge) (g.J.Judge.report l.fn.judge) l.start l.place l.next l.kept.items;
}
