use Rattle.std.proofs.Common.{◌≤◌, ℕ}
use Rattle.ror_entries.specs.Kind.{WriteTheSame}
use Rattle.ror_entries.proofs.WriteLemmas.{AreWritten}
use Rattle.ror_entries.proofs.write.write_each.Given as goal

abbrev pub invariant-loop-place : goal.invariant-loop-place
invariant-loop-place g l = record {
  due : l.place ≤ l.count;
  same : WriteTheSame (g.M.Maker.kind l.maker) (g.M.Maker.kind l.fn.maker);
  gives : (place : ℕ) (x : g.row.M-Entry.Denot) → g.M.Maker.given l.maker place x → g.M.Maker.given l.fn.maker place x;
  were : AreWritten (g.M.Maker.kind l.fn.maker) (g.M.Maker.given l.fn.maker) l.place (g.O.Sink.faults l.fn.out) (g.O.Sink.faults l.out) (g.O.Sink.written l.fn.out) (g.O.Sink.written l.out) l.wide;
}
