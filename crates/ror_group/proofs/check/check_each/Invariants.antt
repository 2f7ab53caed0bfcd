use Rattle.std.proofs.Common.{◌≡◌, ◌*◌, length}
use Rattle.std.specs.List.{AllByRecursion}
use Rattle.ror_group.specs.Combining.{asked_on}
use Rattle.ror_group.specs.Proof.{IsJudgeIn, lists_of}
use Rattle.ror_group.specs.Faults.{AreProvedBefore}
use Rattle.ror_group.proofs.check.check_each.Given as goal

abbrev pub invariant-loop-place : goal.invariant-loop-place
invariant-loop-place l = record {
  judges : AllByRecursion (IsJudgeIn l.table) l.judges;
  lists : lists_of l.judges ≡ lists_of l.initial.judges;
  count : length l.answers ≡ 2 * length l.judges;
  before : AreProvedBefore l.table (asked_on l.a l.b (lists_of l.initial.judges)) l.answers l.place;
}
