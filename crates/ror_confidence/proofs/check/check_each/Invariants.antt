use Rattle.std.proofs.Common.{◌≡◌, length}
use Rattle.ror_confidence.specs.Steps.{AreCheckers, AreProvedBefore, lists_of}
use Rattle.ror_confidence.proofs.check.check_each.Given as goal

abbrev pub invariant-loop-place : goal.invariant-loop-place
invariant-loop-place l = record {
  checkers : AreCheckers l.table l.levels;
  lists : lists_of l.levels ≡ lists_of l.initial.levels;
  count : length l.levels ≡ length l.initial.levels;
  before : AreProvedBefore l.table (lists_of l.initial.levels) l.dues l.answers l.place;
}
